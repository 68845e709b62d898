-- The rule of the curve holds of one level for a code, and agrees with its tests; 0.04045 lies between codes 41 and 42.
-- Half way between two levels stands an odd number; what is compared with it is even, so there is no tie.
use mathlib.Core.Path.{◌≡◌, ◌∙◌, ap, refl}
use mathlib.Core.Bool.{Bool, true, false, ◌&&◌}
use mathlib.Core.Logic.{◌↔◌}
use Prim.Native.Nat.{ℕ, zero, suc, ◌+◌, ◌-◌, ◌*◌, ◌/◌, ◌%◌, ◌^◌, ◌≤◌, ◌<◌}
use native.Mathlib.Nat.{add-mul, le_antisymm, le_refl, le_trans, mul_assoc, mul-le-mul, one-mul, pow-le-pow_left, pow-suc, pow-zero}
use native.Mathlib.Omega.{arith}
use borrow.Author.Tests.{le-leb, leb-false, leb-true, lt-leb}
use lib.Dec.{T, le→leb, leb, leb→le}
use lib.Ieee.Fits.{and_i, and_l, and_r}
use Rattle.notation.specs.Choice.{when◌then◌else◌}
use Rattle.srgb10.specs.Curve.{IsLevel, base_of, line_end, line_of, linear, near, near_line, near_power, on_line, on_power, power_of}

-- "linear part up to 0.04045 (codes 0 to 41)"
pub linear-exactly : (c : ℕ) → (linear c ≡ true) ↔ (c ≤ 41)
linear-exactly c = (λ e. let h = leb-true (100_000 * c) (line_end * 1023) e in omega arith, λ h. le-leb (100_000 * c) (line_end * 1023) (omega arith))

-- ---- one level
odd_mul : (a b : ℕ) → a % 2 ≡ 1 → b % 2 ≡ 1 → a * b % 2 ≡ 1
odd_mul a b o p =
    let e : a ≡ 2 * (a / 2) + 1 = omega arith in
    let g = ap (λ (z : ℕ). z * b) e ∙ spread (a / 2) in
    omega arith
  where
    spread : (q : ℕ) → (2 * q + 1) * b ≡ 2 * (q * b) + b
    spread q = rw (add-mul (2 * q) 1 b, mul_assoc 2 q b, one-mul b)

odd_power : (a k : ℕ) → a % 2 ≡ 1 → a ^ k % 2 ≡ 1
odd_power a zero o = rw (pow-zero a)
odd_power a (suc k) o = rw (pow-suc a k) (odd_mul (a ^ k) a (odd_power a k o) o)

power_even : (c : ℕ) → power_of c % 2 ≡ 0
power_even c =
    halves (power_of c) (65535 * (2 * 65535) ^ 4 * base_of c ^ 12) (mul_assoc 2 (65535 * (2 * 65535) ^ 4) (base_of c ^ 12))
  where
    halves : (x y : ℕ) → x ≡ 2 * y → x % 2 ≡ 0
    halves x y e = omega arith

-- an even x is not the odd number between two levels
no_tie : (a b w x : ℕ) → a % 2 ≡ 1 → w % 2 ≡ 1 → x % 2 ≡ 0 → a ≤ b → x ≤ a * w → b * w ≤ x → ⊥
no_tie a b w x o p z h hi lo =
    let e : x ≡ a * w = le_antisymm hi (le_trans (mul-le-mul h (le_refl w)) lo) in
    omega (arith, odd_mul a w o p)

power_apart : (c l m : ℕ) → power_of c ≤ (2 * l + 1) ^ 5 * (1055 * 1023) ^ 12 → (2 * m - 1) ^ 5 * (1055 * 1023) ^ 12 ≤ power_of c → l < m → ⊥
power_apart c l m hi lo h =
    let o = odd_power (2 * l + 1) 5 (odd l) in
    let k = pow-le-pow_left (further l m h) 5 in
    no_tie ((2 * l + 1) ^ 5) ((2 * m - 1) ^ 5) ((1055 * 1023) ^ 12) (power_of c) o refl (power_even c) k hi lo
  where
    odd : (l : ℕ) → (2 * l + 1) % 2 ≡ 1
    odd l = omega arith

    further : (l m : ℕ) → l < m → 2 * l + 1 ≤ 2 * m - 1
    further l m h = omega arith

none_above : (c l m : ℕ) → IsLevel c l → IsLevel c m → l < m → ⊥
none_above c l m (on_line a p q) (on_line b r s) h = omega arith
none_above c l m (on_line a p q) (on_power b r s) h = omega arith
none_above c l m (on_power a p q) (on_line b r s) h = omega arith
none_above c l m (on_power a p q) (on_power b r s) h = power_apart c l m q r h

-- two numbers of which none is the smaller
pub neither : (r c : ℕ) → (c < r → ⊥) → (r < c → ⊥) → r ≡ c
neither r c f g = omega arith

-- "the whole number nearest" is one
pub one_level : (c l m : ℕ) → IsLevel c l → IsLevel c m → l ≡ m
one_level c l m p q = neither l m (none_above c m l q p) (none_above c l m p q)

-- ---- the tests
between : (a x b : ℕ) → T (leb a x && leb x b) → (a ≤ x) × (x ≤ b)
between a x b t = (leb→le a x (and_l (leb a x) (leb x b) t), leb→le x b (and_r (leb a x) (leb x b) t))

within : (a x b : ℕ) → a ≤ x → x ≤ b → T (leb a x && leb x b)
within a x b h k = and_i (leb a x) (leb x b) (le→leb a x h) (le→leb x b k)

module _ (c l : ℕ) where
  passes : (b : Bool) → linear c ≡ b → T (when b then near_line c l else near_power c l) → IsLevel c l
  passes true e t =
      let k = between ((2 * l - 1) * (1023 * 1292)) (line_of c) ((2 * l + 1) * (1023 * 1292)) t in
      on_line (leb-true (100_000 * c) (line_end * 1023) e) k.0 k.1
  passes false e t =
      let k = between ((2 * l - 1) ^ 5 * (1055 * 1023) ^ 12) (power_of c) ((2 * l + 1) ^ 5 * (1055 * 1023) ^ 12) t in
      on_power (leb-false (100_000 * c) (line_end * 1023) e) k.0 k.1

  holds : IsLevel c l → T (when linear c then near_line c l else near_power c l)
  holds (on_line a p q) = rw (le-leb (100_000 * c) (line_end * 1023) a) (within ((2 * l - 1) * (1023 * 1292)) (line_of c) ((2 * l + 1) * (1023 * 1292)) p q)
  holds (on_power a p q) =
      rw (lt-leb (100_000 * c) (line_end * 1023) a) (within ((2 * l - 1) ^ 5 * (1055 * 1023) ^ 12) (power_of c) ((2 * l + 1) ^ 5 * (1055 * 1023) ^ 12) p q)

  -- the rule and its tests agree
  pub near-exactly : T (near c l) ↔ IsLevel c l
  unfolding near
  near-exactly = (passes (linear c) refl, holds)
