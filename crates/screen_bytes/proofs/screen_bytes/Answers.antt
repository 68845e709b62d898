-- `screen_bytes` makes the byte of each sample where there are as many bytes, and changes nothing where there are not.
-- The loop argument is `Rewriting`'s, for the mapped list.
use mathlib.Core.Path.{sym, ◌∙◌}
use native.Mathlib.Omega.{arith}
use lib.Ieee.{nan}
use Rattle.notation.proofs.Elements.{map_at}
use Rattle.notation.proofs.Rewriting.{write}
use Rattle.screen_bytes.specs.Screen.{screen_byte}
use Rattle.screen_bytes.proofs.screen_bytes.Goals as goal

pub loop-i-preserved : goal.loop-i-preserved
loop-i-preserved c =
    write c.loop-i.invariant 0 _ (omega arith) (c.screen_byte.ensures ∙ sym (map_at screen_byte c.args.samples.now c.loop-i.i nan 0 (omega arith)))
