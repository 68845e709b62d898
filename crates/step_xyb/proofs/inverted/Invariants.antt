-- `inverted` makes of three channels what `mixed_by` makes of each triple.
-- Piece by piece is as place by place (`Pieces`); the room to work in keeps its length.
use Prim.Native.Nat.{◌*◌, min}
use mathlib.Core.Path.{◌≡◌}
use lib.ListN.{length}
use Rattle.channels.proofs.InStep.{Stepped}
use Rattle.step_xyb.specs.Xyb.{mixed_by}
use Rattle.step_xyb.proofs.inverted.Given as goal

abbrev pub invariant-loop-k : goal.invariant-loop-k
invariant-loop-k l = Stepped (mixed_by l.by.roots l.by.bias l.by.scale) l.initial.x l.initial.y l.initial.b (min (256 * l.k) (length l.initial.x)) l.x l.y l.b × (length l.p ≡ 256) × (length l.q ≡ 256) × (length l.r ≡ 256)
