-- `each_level` makes the level of each code.
-- The loop argument is `Rewriting`'s, for the mapped list.
use mathlib.Core.Path.{sym, ◌∙◌}
use Prim.Native.Nat.{◌<◌}
use native.Mathlib.Omega.{arith}
use lib.ListN.{length}
use lib.Ieee.{nan}
use Rattle.notation.proofs.Elements.{map_at}
use Rattle.notation.proofs.Rewriting.{ended, map-begun, write}
use Rattle.srgb10_levels.specs.Levels.{divided_level}
use Rattle.srgb10_levels.proofs.Codes.{is_code}
use Rattle.srgb10_levels.proofs.each_level.Goals as goal

pub returns : goal.returns
returns c = ended c.loop-i.invariant (omega arith)

pub loop-i-init : goal.loop-i-init
loop-i-init c =
    map-begun divided_level c.args.codes.now c.args.levels.now (sym c.requires.codes_len)

pub divided_level-requires : goal.divided_level-requires
divided_level-requires c =
    record { whole = c.entries-table.ensures; code_bound = is_code c.args.codes.now c.requires.codes_value c.loop-i.i (omega arith) }

pub loop-i-preserved : goal.loop-i-preserved
loop-i-preserved c =
    let l = c in
    let h : l.loop-i.i < length c.args.levels.now = omega arith in
    write l.loop-i.invariant nan _ h (c.divided_level.ensures ∙ sym (map_at divided_level c.args.codes.now l.loop-i.i 0 nan (omega (arith, c.requires.codes_len))))
