-- `each_by_f64` converts each triple, where it says that every one is sure.
-- The loop argument is `InStep`'s, for the function `quick_by k`, which is `rgb_raised k` at every place that was passed.
use Rattle.std.proofs.Common.{◌≡◌, ℕ, ◌<◌, true, get_or}
use lib.Ieee.{nan}
use Rattle.channels.specs.Channels.{vec}
use Rattle.channels.proofs.InStep.{Stepped}
use Rattle.ycbcr_float.specs.Steps.{quick_by, rgb_raised}
use Rattle.ycbcr_float.proofs.piece.each_by_f64.Given as goal

abbrev pub invariant-loop-i : goal.invariant-loop-i
invariant-loop-i l = Stepped (quick_by l.k) l.initial.cb l.initial.y l.initial.cr l.i l.cb l.y l.cr
    × (l.sure ≡ true → (j : ℕ) → j < l.i → quick_by l.k (vec (get_or l.initial.cb j nan) (get_or l.initial.y j nan) (get_or l.initial.cr j nan)) ≡ rgb_raised l.k (vec (get_or l.initial.cb j nan) (get_or l.initial.y j nan) (get_or l.initial.cr j nan)))
