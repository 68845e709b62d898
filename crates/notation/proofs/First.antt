-- Where a test holds of a number of a range, it holds of the first that is found, which is no greater.
-- The search goes on until the test holds, and stops there.
use mathlib.Core.Path.{ap, refl, subst, sym, ◌∙◌, ◌≡◌}
use mathlib.Core.Logic.{inl, inr}
use mathlib.Core.Bool.{Bool, false, true}
use Prim.Native.Nat.{◌+◌, ◌<◌, suc, zero, ℕ, ◌≤◌}
use native.Mathlib.Nat.{eq-or-lt_of_le}
use native.Mathlib.Omega.{arith}
use lib.Dec.{T}
use Rattle.notation.specs.Choice.{when◌then◌else◌}
use Rattle.notation.specs.First.{first}

pub first_found : (p : ℕ → Bool) (n i k : ℕ) → i ≤ k → k < i + n → T (p k) → T (p (first p n i)) × (first p n i ≤ k)
unfolding first
first_found p zero i k h l t = absurd (none i k h l)
  where
    none : (i k : ℕ) → i ≤ k → k < i + 0 → ⊥
    none i k h l = omega arith
first_found p (suc n) i k h l t = go (p i) refl (λ q. first_found p n (suc i) k q (more i k n l) t)
  where
    more : (i k n : ℕ) → k < i + suc n → k < suc i + n
    more i k n l = omega arith

    go : (b : Bool) → b ≡ p i → (i < k → T (p (first p n (suc i))) × (first p n (suc i) ≤ k))
        → T (p (when b then i else first p n (suc i))) × ((when b then i else first p n (suc i)) ≤ k)
    go true e later = (subst T e tt, h)
    go false e later = elim (eq-or-lt_of_le h) [ inl q ↦ absurd (subst T (sym (e ∙ ap p q)) t) | inr q ↦ later q ]
