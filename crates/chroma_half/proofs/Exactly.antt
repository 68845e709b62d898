-- Widening and narrowing answer 0 exactly where the lengths fit, and 4 exactly where they do not; a refused one leaves what was there.
-- `fitting_of` chooses by one test, for both: narrowing exchanges the two lengths.
use Prim.Native.Nat.{ℕ}
use mathlib.Core.Path.{◌≡◌, refl}
use mathlib.Core.Logic.{◌↔◌}
use mathlib.Core.List.{List}
use native.Mathlib.Omega.{arith}
use Rattle.std.specs.Prelude.{Ok, Err}
use Rattle.notation.specs.Answers.{answer}
use Rattle.channels.proofs.Choosing.{first-exactly, second-exactly}
use Rattle.chroma_half.specs.Twice.{FitsTwice, fits_twice}
use Rattle.chroma_half.specs.Fitting.{Fitting, fitting_of, left_by, paper}
use Rattle.chroma_half.proofs.Twice.{twice-exactly}

module _ (n m : ℕ) where
  pub zero-exactly : (paper (fitting_of (fits_twice n m)) ≡ answer 0 0 0) ↔ FitsTwice n m
  zero-exactly = first-exactly paper (Ok tt) (Err (record {})) (omega arith) (fits_twice n m) (twice-exactly n m)

  pub four-exactly : (paper (fitting_of (fits_twice n m)) ≡ answer 4 0 0) ↔ (¬ FitsTwice n m)
  four-exactly = second-exactly paper (Ok tt) (Err (record {})) (omega arith) (fits_twice n m) (twice-exactly n m)

pub refused-changes_nothing : (fitting : Fitting) (made old : List ℕ) → ¬ ((paper fitting).number ≡ 0) → left_by fitting made old ≡ old
refused-changes_nothing (Ok _) made old n = absurd (n refl)
refused-changes_nothing (Err _) made old n = refl
