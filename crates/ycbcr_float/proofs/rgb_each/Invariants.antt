-- `rgb_each` converts each triple.
-- Piece by piece is as place by place (`Pieces`), for the function `rgb_by k`; the room for a piece keeps its length.
use Rattle.std.proofs.Common.{◌≡◌, ◌*◌, length}
use Prim.Native.Nat.{min}
use Rattle.channels.proofs.InStep.{Stepped}
use Rattle.ycbcr_float.specs.Ycbcr.{rgb_by}
use Rattle.ycbcr_float.proofs.rgb_each.Given as goal

abbrev pub invariant-loop-i : goal.invariant-loop-i
invariant-loop-i l = Stepped (rgb_by l.k) l.initial.cb l.initial.y l.initial.cr (min (256 * l.i) (length l.initial.cb)) l.cb l.y l.cr × (length l.p ≡ 256) × (length l.q ≡ 256) × (length l.r ≡ 256)
