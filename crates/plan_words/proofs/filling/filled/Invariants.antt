-- `filled` is what a text gives, byte after byte.
-- What is left to read, from where the loop is, gives what the whole does.
use Rattle.std.proofs.Common.{◌≡◌, ◌≤◌, [], drop}
use Rattle.plan_words.specs.Filling.{begun, filled_from, slice}
use Rattle.plan_words.proofs.filling.filled.Given as goal

abbrev pub invariant-loop-i : goal.invariant-loop-i
invariant-loop-i l = (filled_from l.m l.i (slice l.start l.i l.s) (drop l.i l.s) ≡ filled_from begun 0 [] l.s) × (l.start ≤ l.i)
