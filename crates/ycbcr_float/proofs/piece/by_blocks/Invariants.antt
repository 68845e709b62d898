-- `by_blocks` makes of a piece what `rgb_raised` makes of each triple.
-- Block by block is as place by place (`Pieces`), for the function `rgb_raised k`; each block is ready, and kept (`Blocks`).
use Prim.Native.Nat.{min}
use Rattle.std.proofs.Common.{◌≡◌, ◌*◌, length}
use Rattle.channels.proofs.InStep.{Stepped}
use Rattle.ycbcr_float.specs.Steps.{rgb_raised}
use Rattle.ycbcr_float.proofs.piece.by_blocks.Given as goal

abbrev pub invariant-loop-i : goal.invariant-loop-i
invariant-loop-i l = Stepped (rgb_raised l.k) l.initial.cb l.initial.y l.initial.cr (min (32 * l.i) (length l.initial.cb)) l.cb l.y l.cr × (length l.kept.cb.now ≡ length l.initial.cb) × (length l.kept.y.now ≡ length l.initial.y) × (length l.kept.cr.now ≡ length l.initial.cr)
