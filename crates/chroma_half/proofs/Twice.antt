-- The test whether n bytes widen to m holds exactly where m is 2n, or 2n - 1 and n is not 0; that is exactly where m bytes narrow to n, (m + 1)/2.
-- The test is two equations over whole numbers.
use Prim.Native.Nat.{ℕ, ◌+◌, ◌-◌, ◌*◌, ◌/◌, ◌<◌}
use mathlib.Core.Path.{◌≡◌, refl}
use mathlib.Core.Bool.{Bool, true, false}
use mathlib.Core.Logic.{◌↔◌, ◌⊎◌, inl, inr}
use native.Mathlib.Omega.{arith}
use borrow.Author.Tests.{eq-eqb, eqb-false, eqb-true}
use lib.Dec.{eqb}
use Rattle.notation.proofs.Tests.{either-exactly}
use Rattle.chroma_half.specs.Twice.{FitsTwice, fits_twice, one_less, two_each}

equations : (n m : ℕ) → (fits_twice n m ≡ true) ↔ ((m ≡ 2 * n) ⊎ (m + 1 ≡ 2 * n))
equations n m = either-exactly (eqb-true m (2 * n), eq-eqb m (2 * n)) (eqb-true (m + 1) (2 * n), eq-eqb (m + 1) (2 * n))

words : {n m : ℕ} → FitsTwice n m → (m ≡ 2 * n) ⊎ (m + 1 ≡ 2 * n)
words two_each = inl refl
words (one_less h) = inr (omega arith)

pub twice-exactly : (n m : ℕ) → (fits_twice n m ≡ true) ↔ FitsTwice n m
twice-exactly n m = (λ e. by ((equations n m).0 e), λ f. (equations n m).1 (words f))
  where
    by : (m ≡ 2 * n) ⊎ (m + 1 ≡ 2 * n) → FitsTwice n m
    by (inl e) = rw e two_each
    by (inr e) = let less : m ≡ 2 * n - 1 = omega arith in let some : 0 < n = omega arith in rw less (one_less some)

-- narrowing gives one byte for two, and one for an odd last byte
pub halves_exactly : (n m : ℕ) → (fits_twice n m ≡ true) ↔ (n ≡ (m + 1) / 2)
halves_exactly n m = (λ e. by ((equations n m).0 e), λ e. (equations n m).1 (back (eqb m (2 * n)) refl e))
  where
    by : (m ≡ 2 * n) ⊎ (m + 1 ≡ 2 * n) → n ≡ (m + 1) / 2
    by (inl e) = omega arith
    by (inr e) = omega arith

    back : (b : Bool) → eqb m (2 * n) ≡ b → n ≡ (m + 1) / 2 → (m ≡ 2 * n) ⊎ (m + 1 ≡ 2 * n)
    back true e h = inl (eqb-true m (2 * n) e)
    back false e h = let u = eqb-false m (2 * n) e in inr (omega arith)
