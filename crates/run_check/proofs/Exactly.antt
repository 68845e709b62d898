-- When each judgement is given, with which width and position: 10, 5, 6 and 0.
-- The words of one of the four hold of every list (Judged), and an answer tells which (Telling).
use Rattle.std.specs.Prelude.{Ok, Err}
use Prim.Native.Nat.{ℕ}
use mathlib.Core.Path.{◌≡◌}
use mathlib.Core.Logic.{◌↔◌}
use Rattle.notation.specs.Answers.{answer}
use Rattle.list.specs.Lists.{ops_of, Lawful, Unlawful}
use Rattle.list.specs.Fits.{Fits, FailsAt}
use Rattle.list.specs.declared.Plan.{Plan}
use Rattle.run_check.specs.Carried.{AllCarried, UncarriedAt}
use Rattle.run_check.specs.Judging.{paper, judge_of}
use Rattle.run_check.specs.Judging.{Judgement}
use Rattle.run_check.specs.declared.JudgeError.TheVariants.{Malformed, Misfit, NotCarried}
use Rattle.run_check.proofs.Judged.{Words, back, is-given, reads-back, some_words}
use Rattle.run_check.proofs.Telling.{told-exactly}

module _ (p : Plan) where
  each-exactly : (j : Judgement) → (paper (judge_of p) ≡ paper j) ↔ Words p j
  each-exactly = told-exactly paper back reads-back (Words p) (some_words p) (is-given p)

  -- 10 exactly when the start width is not 1 or 3, or the count is above 32
  pub ten-exactly : (paper (judge_of p) ≡ answer 10 0 0) ↔ Unlawful p
  ten-exactly = each-exactly (Err Malformed)

  -- 5, at position i, exactly when the list is lawful, the ops before i fit, and the op at i needs a width other than the one that it finds
  pub five-exactly : (i : ℕ) → (paper (judge_of p) ≡ answer 5 i 0) ↔ (Lawful p × FailsAt p.start (ops_of p) i)
  five-exactly i = each-exactly (Err (Misfit i))

  -- 6, at position i, exactly when the list passes the check, the ops before i are carried, and the op at i is not
  pub six-exactly : (i : ℕ) → (paper (judge_of p) ≡ answer 6 i 0) ↔ (Lawful p × ((v : ℕ) × Fits p.start (ops_of p) v) × UncarriedAt (ops_of p) i)
  six-exactly i = each-exactly (Err (NotCarried i))

  -- 0, with width w, exactly when the list is lawful, its ops lead to w, and all are carried
  pub zero-exactly : (w : ℕ) → (paper (judge_of p) ≡ answer 0 0 w) ↔ (Lawful p × Fits p.start (ops_of p) w × AllCarried (ops_of p))
  zero-exactly w = each-exactly (Ok w)
