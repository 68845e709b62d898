-- `screen_bytes` makes the byte of each sample where there are as many bytes, and changes nothing where there are not.
-- The test of the lengths decides; the loop argument is `Rewriting`'s, for the mapped list.
use mathlib.Core.List.{map}
use Rattle.notation.proofs.Rewriting.{Rewritten}
use Rattle.screen_bytes.specs.Screen.{screen_byte}
use Rattle.screen_bytes.proofs.screen_bytes.Given as goal

abbrev pub invariant-loop-i : goal.invariant-loop-i
invariant-loop-i l = Rewritten (map screen_byte l.samples) l.initial.bytes l.i l.bytes
