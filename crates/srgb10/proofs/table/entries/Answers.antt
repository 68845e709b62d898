-- `entries` is the whole table: a level for each code, each the nearest, rising strictly.
-- Two tests over the code's own array, which the checker computes.
use mathlib.Core.Path.{refl}
use Rattle.srgb10.specs.Curve.{near, right, rising, rising_from}
use Rattle.srgb10.proofs.table.entries.Goals as goal

pub returns : goal.returns
unfolding near right rising rising_from
returns c = record { long = refl; is_right = tt; rises = tt }
