-- `keep` puts the offset on the luma, copies the three channels, and says whether every pixel is ready.
-- The loop argument is `Rewriting`'s for the offset and for the copies; the digits show every pixel that was passed (`Patterns`).
use Rattle.std.proofs.Common.{ℕ, ◌<◌, map, get_or}
use lib.Ieee.{nan}
use Rattle.notation.proofs.Rewriting.{Rewritten}
use Rattle.channels.specs.Channels.{vec}
use Rattle.ycbcr_float.specs.Ycbcr.{raised}
use Rattle.ycbcr_float.proofs.Patterns.{AllShown}
use Rattle.ycbcr_float.proofs.piece.keep.Given as goal

abbrev pub invariant-loop-i : goal.invariant-loop-i
invariant-loop-i l = let luma = map raised l.initial.y in
    Rewritten luma l.initial.y l.i l.y × Rewritten l.cb l.initial.p l.i l.p × Rewritten luma l.initial.q l.i l.q × Rewritten l.cr l.initial.r l.i l.r
    × ((j : ℕ) → j < l.i → AllShown l.any l.all (vec (get_or l.cb j nan) (get_or luma j nan) (get_or l.cr j nan)))
