-- Of the whole numbers exactly one is nearest a fraction, and `closest` is that one.
-- Two that lie at most 1/2 from it are neighbours at a tie, and one of them is odd; the quotient or the next is near, by twice the remainder.
use Prim.Native.Nat.{ℕ, zero, suc, ◌+◌, ◌-◌, ◌*◌, ◌/◌, ◌%◌, ◌≤◌, ◌<◌, compare, Ordering}
use mathlib.Core.Path.{◌≡◌, refl, sym, subst}
use mathlib.Core.Logic.{◌↔◌, ◌⊎◌, inl, inr}
use mathlib.Core.Bool.{not}
use native.Mathlib.Nat.{div-add-mod', eq-or-lt_of_le, mod-lt}
use native.Mathlib.Omega.{arith}
use lib.Dec.{T, is_le, compare_is_eq, eqb, leb→le, nleb→lt, eqb→eq, eqb_refl}
use lib.Ieee.{nearest}
use lib.Ieee.Nearest.{closest}
use Rattle.binary32.proofs.Size.{split_le}
use Rattle.screen_bytes.specs.Screen.{Nearest}

-- ---- not two
apart-two : (n d a k : ℕ) → 0 < d → Nearest n d a → Nearest n d (a + suc k) → ⊥
apart-two n d a zero p x y =
    let near-a = x.near in
    let near-b = y.near in
    let even-a = x.even (omega arith) in
    let even-b = y.even (omega arith) in
    omega arith
apart-two n d a (suc k) p x y =
    let near-a = x.near in
    let near-b = y.near in
    omega arith

pub nearest-one : (n d a b : ℕ) → 0 < d → Nearest n d a → Nearest n d b → a ≡ b
nearest-one n d a b p x y = either (split_le a b)
  where
    above : (a b : ℕ) → a < b → Nearest n d a → Nearest n d b → ⊥
    above a b h x y = apart-two n d a (b - suc a) p x (subst (Nearest n d) (back a b h) y)
      where
        back : (a b : ℕ) → a < b → b ≡ a + suc (b - suc a)
        back a b h = omega arith

    under : (a ≡ b) ⊎ (a < b) → a ≡ b
    under (inl e) = e
    under (inr h) = absurd (above a b h x y)

    either : (a ≤ b) ⊎ (b < a) → a ≡ b
    either (inl h) = under (eq-or-lt_of_le h)
    either (inr h) = absurd (above b a h y x)

-- ---- one
module _ (n d q r : ℕ) (whole : q * d + r ≡ n) (less : r < d) where
  down : r * 2 ≤ d → ¬ (r * 2 ≡ d) → Nearest n d q
  down h t = record { near = omega arith; even = λ e. absurd (t (omega arith)) }

  up : d ≤ r * 2 → ¬ (r * 2 ≡ d) → Nearest n d (suc q)
  up h t = record { near = omega arith; even = λ e. absurd (t (omega arith)) }

  tie : r * 2 ≡ d → (p : ℕ) → p ≡ q % 2 → Nearest n d (q + p)
  tie h zero e = record { near = omega arith; even = λ _. omega arith }
  tie h (suc zero) e = record { near = omega arith; even = λ _. omega arith }
  tie h (suc (suc p)) e = absurd (omega arith)

  chosen : (o : Ordering) → (T (is_le o) → r * 2 ≤ d) → (T (not (is_le o)) → d < r * 2) → (T (compare_is_eq o) → r * 2 ≡ d) → (r * 2 ≡ d → T (compare_is_eq o))
      → Nearest n d (nearest q o)
  chosen Ordering.lt le gt eq ne = down (le tt) ne
  chosen Ordering.eq le gt eq ne = tie (eq tt) (q % 2) refl
  chosen Ordering.gt le gt eq ne = let h = gt tt in up (omega arith) ne

pub closest_nearest : (n d : ℕ) → 0 < d → Nearest n d (closest n d)
closest_nearest n d p =
    let r = n % d in
    chosen n d (n / d) r (div-add-mod' n d) (mod-lt n p) (compare (r * 2) d) (leb→le (r * 2) d) (nleb→lt (r * 2) d) (eqb→eq (r * 2) d)
    (λ (e : r * 2 ≡ d). subst (λ (x : ℕ). T (eqb (r * 2) x)) e (eqb_refl (r * 2)))

pub closest_exactly : (n d b : ℕ) → 0 < d → (b ≡ closest n d) ↔ Nearest n d b
closest_exactly n d b p = (
  λ e. subst (Nearest n d) (sym e) (closest_nearest n d p),
  λ h. nearest-one n d b (closest n d) p h (closest_nearest n d p),
)
