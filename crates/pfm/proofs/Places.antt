-- One for each of n places: there are n, and the one at a place is that of the place.
-- By induction on n.
use Prim.Native.Nat.{ℕ, zero, suc, ◌<◌}
use mathlib.Core.Path.{◌≡◌, ap, refl}
use native.Mathlib.Nat.{le_of_suc-le-suc, not-suc-le-zero}
use lib.ListN.{get_or, length}
use Rattle.pfm.specs.Samples.{places}

pub how_many : {A : Type 0} (f : ℕ → A) (n : ℕ) → length (places f n) ≡ n
how_many f zero = refl
how_many f (suc n) = ap suc (how_many (λ (i : ℕ). f (suc i)) n)

pub at_place : {A : Type 0} (f : ℕ → A) (n i : ℕ) (d : A) → i < n → get_or (places f n) i d ≡ f i
at_place f zero i d h = absurd (not-suc-le-zero h)
at_place f (suc n) zero d h = refl
at_place f (suc n) (suc i) d h = at_place (λ (i : ℕ). f (suc i)) n i d (le_of_suc-le-suc h)
