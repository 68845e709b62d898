-- `rgb_each` converts each triple.
-- Piece by piece is as place by place (`Pieces`), for the function `rgb_by k`; the room for a piece keeps its length.
use Rattle.std.proofs.Common.{◌+◌, ◌*◌, ◌<◌, ◌≤◌, ◌≡◌, refl, length, arith}
use Prim.Native.Nat.{min}
use Rattle.channels.proofs.InStep.{at_place, steps_begun}
use Rattle.channels.proofs.Pieces.{room_kept, stepped-piece}
use Rattle.ycbcr_float.specs.Ycbcr.{rgb_by}
use Rattle.ycbcr_float.proofs.rgb_each.Goals as goal

pub loop-i-init : goal.loop-i-init
loop-i-init c = (at_place (omega arith) (steps_begun (rgb_by c.args.k) _ _ _ c.requires.equally_long), refl, refl, refl)

pub loop-i-preserved : goal.loop-i-preserved
loop-i-preserved c =
    let l = c.loop-i in
    let v = l.invariant in
    let t = c.converted in
    let m = c.next_piece-m.result in
    let n = length c.args.cb.now in
    let below : 256 * l.i < n = omega arith in
    let here : min (256 * l.i) n ≡ 256 * l.i = omega (arith, below) in
    let fits : 256 * l.i + m ≤ n = omega (arith, below, c.next_piece-m.ensures) in
    let next : 256 * l.i + m ≡ min (256 * (l.i + 1)) n = omega (arith, below, c.next_piece-m.ensures) in (
      at_place next (stepped-piece (at_place here v.0) m fits t.new.cb t.new.y t.new.cr t.ensures),
      room_kept l.p t.new.p m v.1 t.auto.p,
      room_kept l.q t.new.q m v.2 t.auto.q,
      room_kept l.r t.new.r m v.3 t.auto.r,
    )
