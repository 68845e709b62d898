-- `list_same::same_ops` meets its contract.
-- What remains from a position begins with the ops there, and is compared as the rest is.
use Prim.Native.Nat.{◌≤◌, ◌<◌}
use mathlib.Core.Path.{sym, ◌∙◌}
use native.Mathlib.Omega.{arith}
use lib.ListN.{length}
use Rattle.list_same.specs.Same.{same_op}
use Rattle.list_same.proofs.Comparing.{stops, goes}
use Rattle.list.proofs.Walk.{next-op, no_more}
use Rattle.list_same.proofs.same_ops.Goals as goal

pub returns-then-not-same_op : goal.returns-then-not-same_op
returns-then-not-same_op c =
    let m : c.loop-i.i < length c.args.a.now = omega arith in
    let n : c.loop-i.i < length c.args.b.now = omega arith in
    sym (stops same_op (next-op _ _ _ m) (next-op _ _ _ n) c.same_op.ensures c.if-not-same_op.true) ∙ c.loop-i.invariant

pub loop-i-preserved : goal.loop-i-preserved
loop-i-preserved c =
    let m : c.loop-i.i < length c.args.a.now = omega arith in
    let n : c.loop-i.i < length c.args.b.now = omega arith in
    sym (goes same_op (next-op _ _ _ m) (next-op _ _ _ n) c.same_op.ensures c.if-not-same_op.false) ∙ c.loop-i.invariant

pub returns : goal.returns
returns c =
    let m : length c.args.a.now ≤ c.loop-i.i = omega arith in
    let n : length c.args.b.now ≤ c.loop-i.i = omega arith in
    rw (no_more _ _ m, no_more _ _ n) at c.loop-i.invariant
