-- `first_uncarried` finds the first op that is not carried.
-- What remains from a position begins with the op there.
use Prim.Native.Nat.{◌<◌, ◌≤◌}
use mathlib.Core.Path.{sym, ◌∙◌}
use native.Mathlib.Omega.{arith}
use lib.ListN.{length}
use Rattle.run_check.proofs.Turn.{goes_on, no-more-ops, stops}
use Rattle.run_check.proofs.first_uncarried.Goals as goal

pub returns-then-not-carried : goal.returns-then-not-carried
returns-then-not-carried c =
    let k : c.loop-i.i < length c.args.ops.now = omega arith in
    sym (stops _ _ _ k c.carried.ensures c.if-not-carried.true) ∙ c.loop-i.invariant

pub loop-i-preserved : goal.loop-i-preserved
loop-i-preserved c =
    let k : c.loop-i.i < length c.args.ops.now = omega arith in
    sym (goes_on _ _ _ k c.carried.ensures c.if-not-carried.false) ∙ c.loop-i.invariant

pub returns : goal.returns
returns c =
    let k : length c.args.ops.now ≤ c.loop-i.i = omega arith in
    sym (no-more-ops _ _ k) ∙ c.loop-i.invariant
