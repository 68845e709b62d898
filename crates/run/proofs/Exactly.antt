-- When a run is answered by 10, 4, 5, 6 and 0, with which width and position.
-- The words of one of the five hold of every run (Answered), and an answer tells which.
use Rattle.std.specs.Prelude.{Ok, Err}
use Prim.Native.Nat.{ℕ}
use mathlib.Core.Path.{◌≡◌}
use mathlib.Core.Logic.{◌↔◌}
use Rattle.notation.specs.Answers.{answer}
use Rattle.channels.specs.Channels.{Channels, EquallyLong}
use Rattle.list.specs.Lists.{ops_of, Lawful, Unlawful}
use Rattle.list.specs.Fits.{Fits, FailsAt}
use Rattle.list.specs.declared.Plan.{Plan}
use Rattle.run_check.specs.Carried.{AllCarried, UncarriedAt}
use Rattle.run_check.proofs.Telling.{told-exactly}
use Rattle.run.specs.Refusals.{outcome_of, paper}
use Rattle.run.specs.Refusals.{Outcome}
use Rattle.run.specs.declared.RunError.TheVariants.{Malformed, Unequal, Misfit, NotCarried}
use Rattle.run.proofs.Answered.{Words, back, is-given, reads-back, some_words}

module _ (p : Plan) (s : Channels) where
  each-exactly : (o : Outcome) → (paper (outcome_of p s) ≡ paper o) ↔ Words p s o
  each-exactly = told-exactly paper back reads-back (Words p s) (some_words p s) (is-given p s)

  -- 10 exactly when the start width is not 1 or 3, or the count is above 32
  pub ten-exactly : (paper (outcome_of p s) ≡ answer 10 0 0) ↔ Unlawful p
  ten-exactly = each-exactly (Err Malformed)

  -- 4 exactly when the list is lawful and the lent lengths are unequal
  pub four-exactly : (paper (outcome_of p s) ≡ answer 4 0 0) ↔ (Lawful p × (¬ EquallyLong s))
  four-exactly = each-exactly (Err Unequal)

  -- 5, at position i, exactly when the list is lawful, the lengths are equal, the ops before i fit,
  -- and the op at i needs a width other than the one that it finds
  pub five-exactly : (i : ℕ) → (paper (outcome_of p s) ≡ answer 5 i 0) ↔ (Lawful p × EquallyLong s × FailsAt p.start (ops_of p) i)
  five-exactly i = each-exactly (Err (Misfit i))

  -- 6, at position i, exactly when the list is lawful, the lengths are equal, the list passes the check,
  -- the ops before i are carried, and the op at i is not
  pub six-exactly : (i : ℕ) → (paper (outcome_of p s) ≡ answer 6 i 0) ↔ (Lawful p × EquallyLong s × ((v : ℕ) × Fits p.start (ops_of p) v) × UncarriedAt (ops_of p) i)
  six-exactly i = each-exactly (Err (NotCarried i))

  -- 0, with width w, exactly when the list is lawful, the lengths are equal, the ops lead to w, and all are carried
  pub zero-exactly : (w : ℕ) → (paper (outcome_of p s) ≡ answer 0 0 w) ↔ (Lawful p × EquallyLong s × Fits p.start (ops_of p) w × AllCarried (ops_of p))
  zero-exactly w = each-exactly (Ok w)
