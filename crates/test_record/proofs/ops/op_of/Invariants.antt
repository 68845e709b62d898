-- `op_of` is safe.
-- Each turn takes at most two words.
use Rattle.std.proofs.Common.{◌≤◌, ◌+◌, ◌*◌}
use Rattle.test_record.proofs.ops.op_of.Given as goal

abbrev pub invariant-loop-i : goal.invariant-loop-i
invariant-loop-i l = l.at ≤ 1 + 2 * l.i
