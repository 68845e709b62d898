-- `list_merge::merge_ops` meets its contract.
-- By the op that the turn meets: a matrix joins the run, and another op ends it.
use Prim.Native.Nat.{◌<◌, ◌≤◌}
use mathlib.Core.Path.{◌∙◌}
use native.Mathlib.Omega.{arith}
use lib.ListN.{length}
use Rattle.list_merge.proofs.Turn.{matrix-turn, other-turn, ends, room}
use Rattle.list_merge.proofs.merge_ops.Goals as goal
use Rattle.list_merge.proofs.merge_ops.Goals.{in-Matrix, in_default}

pub loop-slot-init : goal.loop-slot-init
loop-slot-init c = rw c.empty-out.ensures

pub loop-slot-preserved : goal.loop-slot-preserved
loop-slot-preserved c =
    let l = c.loop-slot in
    let ss = c.args.ops.now in
    let k : l.slot-index < length ss = omega arith in
    elim c.match-slot.branch [
      | in-Matrix m ↦ matrix-turn ss l.slot-index l.out l.run _ k m.in-Matrix.is m.joined-run.ensures m.out-is m.run-is
      | in_default o ↦ other-turn ss l.slot-index l.out l.run _ k o.in_default.not-Matrix o.ended.ensures o.push-out.ensures o.out-is o.run-is
    ] ∙ l.invariant

pub returns : goal.returns
returns c =
    let l = c.loop-slot in
    let k : length c.args.ops.now ≤ l.slot-index = omega arith in
    c.ended-2.ensures ∙ ends c.args.ops.now l.slot-index l.out l.run k ∙ l.invariant ∙ room c.args.start c.args.ops.now c.requires
