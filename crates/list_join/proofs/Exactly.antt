-- When joining is answered by 10, 5 and 0, at which position and with which width; and that a refused join is the empty list with width 0.
-- The words of one of the three hold of every two lists (Answered), and an answer tells which.
use Rattle.std.specs.Prelude.{Ok, Err}
use Prim.Native.Nat.{ℕ}
use mathlib.Core.Path.{◌≡◌, refl}
use mathlib.Core.Logic.{◌↔◌}
use Rattle.notation.specs.Answers.{answer}
use Rattle.list.specs.Answer.{paper}
use Rattle.list.specs.Fits.{Fits}
use Rattle.list.specs.Lists.{ops_of, no_list}
use Rattle.list.specs.declared.Plan.{Plan}
use Rattle.list.specs.Check.{Verdict}
use Rattle.list.specs.declared.CheckError.TheVariants.{Malformed, Misfit}
use Rattle.run_check.proofs.Telling.{told-exactly}
use Rattle.list_join.specs.Join.{joined_by, join_of}
use Rattle.list_join.specs.Refusals.{Unjoinable, Joinable, Breaks, Given}
use Rattle.list_join.proofs.Answered.{back, is-given, reads-back, some_words}

module _ (p q : Plan) where
  each-exactly : (v : Verdict) → (paper (join_of p q).answer ≡ paper v) ↔ Given p q v
  each-exactly = told-exactly paper back reads-back (Given p q) (some_words p q) (is-given p q)

  -- 10 exactly when 10 refuses either list, or the counts together are above 32
  pub ten-exactly : (paper (join_of p q).answer ≡ answer 10 0 0) ↔ Unjoinable p q
  ten-exactly = each-exactly (Err Malformed)

  -- 5, at position k of the joined order, exactly when 10 does not hold, and the first list fails at k, or it ends at another width than
  -- the second's start and k is its count, or it ends there, the second fails at i, and k is the first's count and i
  pub five-exactly : (k : ℕ) → (paper (join_of p q).answer ≡ answer 5 k 0) ↔ (Joinable p q × Breaks p q k)
  five-exactly k = each-exactly (Err (Misfit k))

  -- 0, with width w, exactly when 10 does not hold, and the ops of the first lead from its start width to the second's, and those of the second from there to w
  pub zero-exactly : (w : ℕ) → (paper (join_of p q).answer ≡ answer 0 0 w) ↔ (Joinable p q × Fits p.start (ops_of p) q.start × Fits q.start (ops_of q) w)
  zero-exactly w = each-exactly (Ok w)

-- "A refused join is the empty list with width 0."
pub refused-empty : (p q : Plan) → ¬ ((paper (join_of p q).answer).number ≡ 0) → (join_of p q).plan ≡ no_list
refused-empty p q = by (join_of p q).answer
  where
    by : (v : Verdict) → ¬ ((paper v).number ≡ 0) → joined_by v p q ≡ no_list
    by (Ok w) n = absurd (n refl)
    by (Err e) n = refl
