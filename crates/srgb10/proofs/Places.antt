-- A list of which the tests over the whole table hold has the rule at each place, and its entries rise strictly from place to place.
-- By induction on the list.
use mathlib.Core.Path.{subst}
use mathlib.Core.List.{List, [], ◌∷◌}
use Prim.Native.Nat.{ℕ, zero, suc, ◌+◌, ◌<◌}
use native.Mathlib.Nat.{lt_trans}
use native.Mathlib.Omega.{arith}
use lib.Dec.{T, ltb, ltb→lt}
use lib.Ieee.Fits.{and_l, and_r}
use lib.ListN.{length, get_or}
use Rattle.srgb10.specs.Curve.{near, right, rising, rising_from}

pub right_at : (ls : List ℕ) (c : ℕ) → T (right c ls) → (k : ℕ) → k < length ls → T (near (c + k) (get_or ls k 0))
unfolding right
right_at [] c t k h = absurd (omega arith)
right_at (l ∷ ls) c t zero h = subst (λ (m : ℕ). T (near m l)) (omega arith) (and_l (near c l) (right (suc c) ls) t)
right_at (l ∷ ls) c t (suc k) h =
    subst (λ (m : ℕ). T (near m (get_or ls k 0))) (omega arith) (right_at ls (suc c) (and_r (near c l) (right (suc c) ls) t) k (omega arith))

above-first : (ls : List ℕ) (p : ℕ) → T (rising_from p ls) → (k : ℕ) → k < length ls → p < get_or ls k 0
unfolding rising_from
above-first [] p t k h = absurd (omega arith)
above-first (l ∷ ls) p t zero h = ltb→lt p l (and_l (ltb p l) (rising_from l ls) t)
above-first (l ∷ ls) p t (suc k) h =
    lt_trans (ltb→lt p l (and_l (ltb p l) (rising_from l ls) t)) (above-first ls l (and_r (ltb p l) (rising_from l ls) t) k (omega arith))

from_first : (p : ℕ) (ls : List ℕ) → T (rising_from p ls) → T (rising ls)
unfolding rising_from rising
from_first p [] t = tt
from_first p (l ∷ ls) t = and_r (ltb p l) (rising_from l ls) t

pub rising-at : (ls : List ℕ) → T (rising ls) → (i j : ℕ) → i < j → j < length ls → get_or ls i 0 < get_or ls j 0
unfolding rising
rising-at [] t i j h k = absurd (omega arith)
rising-at (l ∷ ls) t i zero h k = absurd (omega arith)
rising-at (l ∷ ls) t zero (suc j) h k = above-first ls l t j (omega arith)
rising-at (l ∷ ls) t (suc i) (suc j) h k = rising-at ls (from_first l ls t) i j (omega arith) (omega arith)
