-- A refused opening leaves no open run; a refused strip changes no sample and not the words; a refused call tells width 0 and no bad sample; and
-- without an open run every strip and close is refused by 11. By the tests in the definitions, and what is proved of the machine.
use Rattle.std.specs.Prelude.{Ok, Err}
use Prim.Native.Nat.{ℕ}
use mathlib.Core.Path.{◌≡◌, refl}
use mathlib.Core.List.{List, [], ◌∷◌}
use borrow.Author.Tests.{ne_eqb}
use lib.ListN.{get_or}
use Rattle.notation.specs.Answers.{answer}
use Rattle.channels.specs.Channels.{Channels}
use Rattle.run_check.specs.Judging.{Judgement}
use Rattle.run_check.specs.declared.JudgeError.TheVariants.{Malformed, Misfit, NotCarried}
use Rattle.run_strips.specs.Machine.{paper, strip_of, close_of}
use Rattle.run_strips.specs.Machine.{Stripping}
use Rattle.run_strips.specs.declared.StripError.TheVariants.{NotOpen, Unequal}
use Rattle.run_strips.proofs.Refused.{refused-strip, refused-reports, refused-close_reports}
use Rattle.block_read.specs.Block as Block
use Rattle.block_read.specs.Block.{read_of}
use Rattle.block_read.specs.Block.{Reading}
use Rattle.block_read.specs.declared.ReadError.TheVariants as R
use Rattle.c_told.specs.Told.{told_by}
use Rattle.c_strips.specs.BlockStrips.{state_of, no_run, opened, open_by, open_answer, open_words, open_told, strip_answer, strip_words, strip_told, strip_left, close_answer, close_told}

no_width : (r : Reading) (j : Judgement) → ¬ ((open_by r j).number ≡ 0) → (open_by r j).width ≡ 0
no_width (Ok tt) (Ok w) n = absurd (n refl)
no_width (Ok tt) (Err Malformed) n = refl
no_width (Ok tt) (Err (Misfit i)) n = refl
no_width (Ok tt) (Err (NotCarried i)) n = refl
no_width (Err R.Short) j n = refl
no_width (Err R.WrongMark) j n = refl
no_width (Err R.BadOp) j n = refl
no_width (Err R.Malformed) j n = refl

-- neither a strip nor a close names a position
nothing : (e : Stripping) (bad : ℕ) → ¬ ((paper e).number ≡ 0) → bad ≡ 0 → told_by (paper e) bad ≡ (paper e).number ∷ 0 ∷ 0 ∷ 0 ∷ []
nothing (Ok w) bad n z = absurd (n refl)
nothing (Err NotOpen) bad n z = rw z
nothing (Err Unequal) bad n z = rw z

module _ (bytes : List ℕ) where
  -- a block that the reader refuses is answered by the reader
  pub by-the-reader : ¬ ((Block.paper (read_of bytes).answer).number ≡ 0) → open_answer bytes ≡ Block.paper (read_of bytes).answer
  by-the-reader n = rw (ne_eqb _ _ n)

  pub refused-opening : ¬ ((open_answer bytes).number ≡ 0)
      → (open_words bytes ≡ no_run) × (open_told bytes ≡ (open_answer bytes).number ∷ (open_answer bytes).position ∷ 0 ∷ 0 ∷ [])
  refused-opening n = (rw (ne_eqb _ _ n), rw (no_width (read_of bytes).answer (opened bytes).answer n))

  module _ (words : List ℕ) where
    pub refused-strip-changes-nothing : (s : Channels) → ¬ ((strip_answer bytes words s).number ≡ 0) → (strip_left bytes words s ≡ s) × (strip_words bytes words s ≡ words)
    refused-strip-changes-nothing s n = (refused-strip (state_of bytes words) s n, rw (ne_eqb _ _ n))

    pub refused-strip-tells : (s : Channels) → ¬ ((strip_answer bytes words s).number ≡ 0) → strip_told bytes words s ≡ (strip_answer bytes words s).number ∷ 0 ∷ 0 ∷ 0 ∷ []
    refused-strip-tells s n =
        let z = state_of bytes words in
        nothing (strip_of z s).answer (strip_of z s).bad n (refused-reports z s n).0

    pub refused-close-tells : ¬ ((close_answer bytes words).number ≡ 0) → close_told bytes words ≡ (close_answer bytes words).number ∷ 0 ∷ 0 ∷ 0 ∷ []
    refused-close-tells n =
        let z = state_of bytes words in
        nothing (close_of z).answer (close_of z).bad n (refused-close_reports z n)

    -- "11 for a strip or a close without an open run"
    pub no-open-run : ¬ (get_or words 0 0 ≡ 1) → (s : Channels) → (strip_answer bytes words s ≡ answer 11 0 0) × (close_answer bytes words ≡ answer 11 0 0)
    no-open-run n s = rw (ne_eqb _ _ n) (refl, refl)
