-- `with_ops` meets its contract.
-- Appending in parts is appending the whole.
use Prim.Native.Nat.{◌<◌, ◌≤◌}
use mathlib.Core.Path.{ap, ◌∙◌}
use mathlib.Core.List.{List, map}
use native.Mathlib.Omega.{arith}
use lib.ListN.{length}
use Rattle.std.proofs.lemmas.List.{take_all}
use Rattle.list.specs.Lists.{op_of, appended}
use Rattle.list.specs.declared.Slot.{Slot}
use Rattle.list_join.proofs.Turn.{begun, next, ended}
use Rattle.list_join.proofs.with_ops.Goals as goal

pub loop-slot-init : goal.loop-slot-init
loop-slot-init c = begun _ c.kept-out.ensures

pub loop-slot-preserved : goal.loop-slot-preserved
loop-slot-preserved c =
    let ss = c.args.ops.now in
    let k : c.loop-slot.slot-index < length ss = omega arith in
    next _ ss c.loop-slot.slot-index _ k c.loop-slot.invariant c.push-out.ensures

pub returns : goal.returns
returns c =
    let ss = c.args.ops.now in
    let k : length ss ≤ c.loop-slot.slot-index = omega arith in
    c.loop-slot.invariant
    ∙ ap (λ (l : List Slot). appended c.kept-out.result (map op_of l)) (take_all c.loop-slot.slot-index ss k)
    ∙ ended c.args.plan c.kept-out.ensures (map op_of ss)
