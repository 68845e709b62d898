-- The way back: a level's code is the nearest one, the lower on a tie, and no other; every code returns to itself; and a higher level has no lower code.
-- Of two nearest codes none is below the other. The code that is looked for is as near as the nearest, and not above it.
use mathlib.Core.Path.{◌≡◌, subst, sym}
use mathlib.Core.Bool.{Bool}
use mathlib.Core.Logic.{◌↔◌, ◌⊎◌, inl, inr}
use Prim.Native.Nat.{ℕ, zero, suc, zero-le, ◌+◌, ◌*◌, ◌≤◌, ◌<◌}
use native.Mathlib.Nat.{eq-or-lt_of_le}
use native.Mathlib.Omega.{arith}
use lib.Dec.{T, le→leb, leb→le}
use lib.Ieee.Fits.{and_i, and_l, and_r}
use Rattle.notation.proofs.First.{first_found}
use Rattle.srgb10.specs.Codes.{Nearest, apart, code_of, every, level_of, none_nearer}
use Rattle.srgb10.proofs.Around.{has_nearest}
use Rattle.srgb10.proofs.Levels.{levels_rise}
use Rattle.srgb10.proofs.Rule.{neither}

-- "the code whose entry is nearest, the lower one on a tie" is one
pub nearest-unique : (v r s : ℕ) → Nearest v r → Nearest v s → r ≡ s
nearest-unique v r s n m =
    neither r s (λ l. omega (arith, n.none_below s l, m.none_nearer r n.is_code)) (λ l. omega (arith, m.none_below r l, n.none_nearer s m.is_code))

-- ---- the code that is looked for
every_holds : (n : ℕ) (p : ℕ → Bool) → ((c : ℕ) → c < n → T (p c)) → T (every n p)
unfolding every
every_holds zero p h = tt
every_holds (suc n) p h = and_i (p n) (every n p) (h n (omega arith)) (every_holds n p (λ c k. h c (omega arith)))

every_at : (n : ℕ) (p : ℕ → Bool) → T (every n p) → (c : ℕ) → c < n → T (p c)
unfolding every
every_at zero p t c h = absurd (omega arith)
every_at (suc n) p t c h = by (eq-or-lt_of_le h) (every_at n p (and_r (p n) (every n p) t) c)
  where
    by : (suc c ≡ suc n) ⊎ (suc c < suc n) → (c < n → T (p c)) → T (p c)
    by (inl e) later = subst (λ (m : ℕ). T (p m)) (omega arith) (and_l (p n) (every n p) t)
    by (inr l) later = later (omega arith)

-- the nearest code is the one that is found
pub code_is : (v r : ℕ) → Nearest v r → r ≡ code_of v
unfolding code_of
code_is v r n =
    let p = n.is_code in
    let t : T (none_nearer v r) = every_holds 1024 _ (λ c h. le→leb (apart (level_of r) v) (apart (level_of c) v) (n.none_nearer c (omega arith))) in
    let f = first_found (none_nearer v) 1024 0 r zero-le (omega arith) t in
    found _ f.1 (leb→le _ _ (every_at 1024 _ f.0 r (omega arith)))
  where
    found : (s : ℕ) → s ≤ r → apart (level_of s) v ≤ apart (level_of r) v → r ≡ s
    found s h k = neither r s (λ l. omega (arith, n.none_below s l)) (λ l. omega arith)

pub code-nearest : (v : ℕ) → v ≤ 65535 → Nearest v (code_of v)
code-nearest v h = let n = has_nearest v h in subst (Nearest v) (code_is v n.0 n.1) n.1

-- the code of a level, and no other, is the nearest
pub nearest-exactly : (v r : ℕ) → v ≤ 65535 → (r ≡ code_of v) ↔ Nearest v r
nearest-exactly v r h = (λ e. subst (Nearest v) (sym e) (code-nearest v h), code_is v r)

-- ---- what follows
-- "every code must return to itself"
pub every_code_returns : (c : ℕ) → c ≤ 1023 → code_of (level_of c) ≡ c
every_code_returns c h = sym (code_is (level_of c) c own)
  where
    own : Nearest (level_of c) c
    own = record { is_code = h; none_nearer = λ d k. omega arith; none_below = λ d l. let m = levels_rise d c l h in omega arith }

-- a level that is nearer the higher of two lies above their middle, and one that is not does not
above-middle : (a b v : ℕ) → a < b → apart b v < apart a v → a + b < 2 * v
above-middle a b v h k = omega arith

below-middle : (a b v : ℕ) → a < b → apart a v ≤ apart b v → 2 * v ≤ a + b
below-middle a b v h k = omega arith

-- a higher level has no lower code
pub monotone : (v w : ℕ) → v ≤ w → w ≤ 65535 → code_of v ≤ code_of w
monotone v w h k = ordered (code_of v) (code_of w) (code-nearest v (omega arith)) (code-nearest w k)
  where
    ordered : (r s : ℕ) → Nearest v r → Nearest w s → r ≤ s
    ordered r s n m = not-below (λ l. crossed l)
      where
        crossed : s < r → ⊥
        crossed l =
            let z = levels_rise s r l n.is_code in
            let a = above-middle (level_of s) (level_of r) v z (n.none_below s l) in
            let b = below-middle (level_of s) (level_of r) w z (m.none_nearer r n.is_code) in
            omega arith

        not-below : (s < r → ⊥) → r ≤ s
        not-below f = omega arith
