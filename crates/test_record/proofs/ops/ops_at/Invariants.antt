-- `ops_at` is safe.
-- Each turn takes at most nineteen words.
use Rattle.std.proofs.Common.{◌≤◌, ◌+◌, ◌*◌}
use Rattle.test_record.proofs.ops.ops_at.Given as goal

abbrev pub invariant-loop-i : goal.invariant-loop-i
invariant-loop-i l = l.at ≤ l.k + 19 * l._i
