-- `inverted` makes of three channels what `mixed_by` makes of each triple.
-- Piece by piece is as place by place (`Pieces`); the room to work in keeps its length.
use Prim.Native.Nat.{◌+◌, ◌*◌, ◌<◌, ◌≤◌, min}
use mathlib.Core.Path.{◌≡◌, refl}
use native.Mathlib.Omega.{arith}
use lib.ListN.{length}
use Rattle.channels.proofs.InStep.{at_place, steps_begun}
use Rattle.channels.proofs.Pieces.{room_kept, stepped-piece}
use Rattle.step_xyb.proofs.inverted.Goals as goal

pub loop-k-init : goal.loop-k-init
loop-k-init c = (at_place (omega arith) (steps_begun _ _ _ _ c.requires), refl, refl, refl)

pub loop-k-preserved : goal.loop-k-preserved
loop-k-preserved c =
    let l = c.loop-k in
    let v = l.invariant in
    let t = c.invert in
    let m = c.next_piece-m.result in
    let n = length c.args.x.now in
    let below : 256 * l.k < n = omega arith in
    let here : min (256 * l.k) n ≡ 256 * l.k = omega (arith, below) in
    let fits : 256 * l.k + m ≤ n = omega (arith, below, c.next_piece-m.ensures) in
    let next : 256 * l.k + m ≡ min (256 * (l.k + 1)) n = omega (arith, below, c.next_piece-m.ensures) in (
      at_place next (stepped-piece (at_place here v.0) m fits t.new.x t.new.y t.new.b t.ensures),
      room_kept l.p t.new.p m v.1 t.auto.p,
      room_kept l.q t.new.q m v.2 t.auto.q,
      room_kept l.r t.new.r m v.3 t.auto.r,
    )
