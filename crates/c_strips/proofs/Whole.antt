-- "three equally long channels, cut anywhere at the same places, must end with the samples and width that a single run gives; the close answers the width"
-- (02, W1), and "the sum over the accepted strips" (W4), of these calls: their words stand for the machine's states (Standing), of which it is proved.
use Rattle.std.specs.Prelude.{Ok, Err}
use Prim.Native.Nat.{ℕ}
use mathlib.Core.Path.{◌≡◌, refl, ap, ◌∙◌}
use mathlib.Core.List.{List, [], ◌∷◌, map}
use native.Mathlib.Omega.{arith}
use Rattle.notation.specs.Answers.{answer}
use Rattle.notation.specs.declared.Answer.{Answer}
use Rattle.channels.specs.Channels.{Channels}
use Rattle.channels.specs.Joined.{join_all}
use Rattle.list.specs.declared.Plan.{Plan}
use Rattle.run_check.specs.Judging as Judging
use Rattle.run_check.specs.Judging.{judge_of}
use Rattle.run_check.specs.Judging.{Judgement}
use Rattle.run.specs.Refusals as Run
use Rattle.run.specs.Refusals.{outcome_of}
use Rattle.run.specs.Report.{reported_of}
use Rattle.run.specs.Run.{ran_of}
use Rattle.run_strips.specs.Machine.{closed, close_of, left_of}
use Rattle.run_strips.specs.Calls.{AllEquallyLong, accepted, after_all, closes, gives, opens, told}
use Rattle.run_strips.specs.Calls as Machine
use Rattle.run_strips.specs.declared.State.{State}
use Rattle.run_strips.proofs.Whole as Strips
use Rattle.block_read.specs.Block.{read_of}
use Rattle.block_read.specs.Block.{Reading}
use Rattle.block_read.specs.declared.ReadError.TheVariants as R
use Rattle.c_strips.specs.BlockStrips.{state_of, open_by, open_answer, open_words, strip_words, close_answer}
use Rattle.c_strips.specs.Sequences.{words_all, left_all}
use Rattle.c_strips.proofs.Standing.{open-stands, strip-stands}

-- an accepted opening is one whose list is judged so
judged : (r : Reading) (j : Judgement) (w : ℕ) → open_by r j ≡ answer 0 0 w → Judging.paper j ≡ answer 0 0 w
judged (Ok tt) j w e = e
judged (Err R.Short) j w e = let n = ap (λ (a : Answer). a.number) e in absurd (omega arith)
judged (Err R.WrongMark) j w e = let n = ap (λ (a : Answer). a.number) e in absurd (omega arith)
judged (Err R.BadOp) j w e = let n = ap (λ (a : Answer). a.number) e in absurd (omega arith)
judged (Err R.Malformed) j w e = let n = ap (λ (a : Answer). a.number) e in absurd (omega arith)

module _ (bytes : List ℕ) where
  -- strips one after the other: the words stand for the machine's state, and the samples are those that it leaves
  pub strips-stand : (words : List ℕ) (ss : List Channels) → state_of bytes (words_all bytes words ss) ≡ after_all (state_of bytes words) (map gives ss)
  strips-stand words [] = refl
  strips-stand words (s ∷ ss) =
      strips-stand (strip_words bytes words s) ss ∙ ap (λ (z : State). after_all z (map gives ss)) (strip-stands bytes words s)

  pub strips-leave : (words : List ℕ) (ss : List Channels) → left_all bytes words ss ≡ Machine.left_all (state_of bytes words) ss
  strips-leave words [] = refl
  strips-leave words (s ∷ ss) =
      ap (λ (ts : List Channels). left_of (state_of bytes words) s ∷ ts)
      (strips-leave (strip_words bytes words s) ss ∙ ap (λ (z : State). Machine.left_all z ss) (strip-stands bytes words s))

  -- a run that is opened here, given these strips, and closed
  module _ (w : ℕ) (accepts : open_answer bytes ≡ answer 0 0 w) (ss : List Channels) where
    abbrev p : Plan
    p = (read_of bytes).plan

    ready : Judging.paper (judge_of p) ≡ answer 0 0 w
    ready = judged (read_of bytes).answer (judge_of p) w accepts

    at-close : state_of bytes (words_all bytes (open_words bytes) ss) ≡ after_all closed (opens p ∷ map gives ss)
    at-close = strips-stand (open_words bytes) ss ∙ ap (λ (z : State). after_all z (map gives ss)) (open-stands bytes closed)

    pub cut-anywhere : AllEquallyLong ss → join_all (left_all bytes (open_words bytes) ss) ≡ ran_of p (join_all ss)
    cut-anywhere e =
        ap join_all (strips-leave (open_words bytes) ss ∙ ap (λ (z : State). Machine.left_all z ss) (open-stands bytes closed))
        ∙ Strips.cut-anywhere closed p w ready ss e

    pub close-tells : close_answer bytes (words_all bytes (open_words bytes) ss) ≡ Run.paper (outcome_of p (join_all (accepted ss)))
    close-tells = ap (λ (z : State). told z closes) at-close ∙ Strips.close-tells closed p w ready ss

    pub close-counts : (close_of (state_of bytes (words_all bytes (open_words bytes) ss))).bad ≡ (reported_of p (join_all (accepted ss))).bad
    close-counts = ap (λ (z : State). (close_of z).bad) at-close ∙ Strips.close-counts closed p w ready ss
