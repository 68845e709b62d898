-- `divided_level` is the level of a code divided by 65535.
-- The entry is the code's level, and the constant is 65535 as an f32.
use mathlib.Core.Path.{refl, ◌≡◌}
use lib.Ieee.{of_bits, of_int}
use Rattle.notation.specs.F32.{bits, as_f32}
use Rattle.srgb10.proofs.Levels.{entry-is}
use Rattle.srgb10_levels.specs.Levels.{divided_level}
use Rattle.srgb10_levels.proofs.divided_level.Goals as goal

divisor : bits 0x477f_ff00 ≡ as_f32 65535
unfolding of_bits of_int
divisor = refl

pub returns : goal.returns
unfolding divided_level
returns c =
    rw (entry-is c.args.table.now c.requires.whole c.args.code c.requires.code_bound, divisor)
