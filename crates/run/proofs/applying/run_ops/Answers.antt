-- `run_ops` applies the ops in list order.
-- What remains from a position begins with the op there, and each op leaves the channels as long as they were.
use Prim.Native.Nat.{◌<◌, ◌≤◌}
use mathlib.Core.Path.{sym, ◌∙◌}
use native.Mathlib.Omega.{arith}
use lib.ListN.{length}
use Rattle.channels.specs.Channels.{channels}
use Rattle.run.proofs.Turn.{run_ends, runs_on}
use Rattle.run.proofs.applying.run_ops.Goals as goal

pub shape_of-a : goal.shape_of-a
shape_of-a c = c.loop-slot.invariant.0

pub shape_of-b : goal.shape_of-b
shape_of-b c = c.loop-slot.invariant.1

pub shape_of-c : goal.shape_of-c
shape_of-c c = c.loop-slot.invariant.2

pub returns : goal.returns
returns c =
    let l = c.loop-slot in
    let k : length c.args.ops.now ≤ l.slot-index = omega arith in
    run_ends _ _ k _ (channels l.a l.b l.c) ∙ l.invariant.3

pub loop-slot-preserved : goal.loop-slot-preserved
loop-slot-preserved c =
    let l = c.loop-slot in
    let v = l.invariant in
    let p = c.requires in
    let k : l.slot-index < length c.args.ops.now = omega arith in
    let m = c.apply.auto in (
      m.a ∙ v.0,
      m.b ∙ v.1,
      m.c ∙ v.2,
      runs_on _ _ _ k _ (channels l.a l.b l.c) (v.1 ∙ p.0 ∙ sym v.0, v.2 ∙ p.1 ∙ sym v.0) c.apply.ensures.c_after c.gives-width.ensures ∙ v.3,
    )
