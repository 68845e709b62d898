-- The sum of two numbers p * 2 ^ i from that of their halves of 61 digits; the order of the two, and parts that are zero.
-- Both are scaled by the same power of two, and `sum` of equal fractions is equal.
use mathlib.Core.Path.{ap, refl, sym, ◌∙◌, ◌≡◌}
use mathlib.Core.Logic.{inl, inr, ◌⊎◌}
use mathlib.Core.Bool.{◌&&◌, Bool, false, not, true}
use Prim.Native.Nat.{◌*◌, ◌+◌, ◌-◌, ◌/◌, ◌<◌, ◌^◌, ℕ, ◌≤◌}
use native.Mathlib.Nat.{add_comm, add-zero, eq-or-lt_of_le, le_of_eq, le_of_lt, le_trans, lt_of_lt_of_le, lt_of_not-le, mul_assoc, mul-le-mul, mul-le-mul_right, mul-pos, mul_right_comm, not-le_of_lt, zero-add, zero-mul}
use native.Mathlib.Omega.{arith}
use lib.Dec.{lit≤}
use lib.Pow.{pow-add, pow_mono, pow_pos, shl_lt}
use lib.Ieee.{binary32, round, sum, units}
use lib.Ieee.Scale.{round_same}
use Rattle.binary32.proofs.Pattern.{together}
use Rattle.binary32.specs.Pattern.{with_sign}
use Rattle.fused.proofs.Settled.{topped}
use Rattle.rounding.proofs.Sums.{sum_less, sum_like, sum_more, sum-none, sum_same}
use Rattle.fused.specs.Steps.{Topped, Under, sized}

-- with 14 zeros or more at its end, m has a half that has 13
module _ (n e m f : ℕ) (h : n < 0x1_0000_0000_0000) (t : Topped n e m f) where
  z-ge : 13 < t.z
  z-ge = lt_of_not-le (λ (g : t.z ≤ 13). not-le_of_lt (lt_of_lt_of_le (shl_lt 48 t.z h) (pow_mono (room t.z g))) (le_trans t.m_ge (le_of_eq t.m_is)))
    where
      room : (z : ℕ) → z ≤ 13 → 48 + z ≤ 61
      room z h = omega arith

  half_is : m ≡ n * 2 ^ (t.z - 3) * 8
  half_is = t.m_is ∙ ap (λ (x : ℕ). n * 2 ^ x) (back t.z z-ge) ∙ ap (λ (x : ℕ). n * x) (pow-add 2 (t.z - 3) 3) ∙ sym (mul_assoc n (2 ^ (t.z - 3)) 8)
    where
      back : (z : ℕ) → 13 < z → z ≡ z - 3 + 3
      back z h = omega arith

  half-sized : sized (m / 2)
  half-sized = (omega (arith, t.m_ge), omega (arith, t.m_lt), omega (arith, half_is))

  half-value : m / 2 * 2 ^ f ≡ n * 2 ^ e * 2 ^ 61
  half-value =
      let two : m / 2 * 2 ≡ m = omega (arith, half_is) in
      let a : m / 2 * 2 ^ f * 2 ≡ n * 2 ^ e * 2 ^ 61 * 2 =
      mul_right_comm (m / 2) (2 ^ f) 2 ∙ ap (λ (x : ℕ). x * 2 ^ f) two ∙ topped n e m f t ∙ ap (λ (x : ℕ). n * x) (pow-add 2 e 62) ∙ sym (mul_assoc n (2 ^ e) (2 ^ 62)) ∙ sym (mul_assoc (n * 2 ^ e) (2 ^ 61) 2) in
      omega arith

  f_lt : e < 1000 → f < 2000
  f_lt k = omega (arith, t.f_is)

-- what `half` leaves of it: 61 digits, 13 zeros at the end
pub record Halved (n e m f : ℕ) : Type 0 where
  pub size : sized m
  pub value : m * 2 ^ f ≡ n * 2 ^ e * 2 ^ 61
  pub low : f < 2000

pub halved : (n e m f u g : ℕ) → n < 0x1_0000_0000_0000 → e < 1000 → Topped n e m f → (u ≡ m / 2) × (g ≡ f) → Halved n e u g
halved n e m f u g h k t (p, q) = rw (p, q) (record { size = half-sized n e m f h t; value = half-value n e m f h t; low = f_lt n e m f h t k })

-- ---- the sum of the two numbers, and that of the halves
pub sum-up : (s t : Bool) (a b A B : ℕ) → A ≡ a * 2 ^ 61 → B ≡ b * 2 ^ 61 → sum binary32 s A t B (2 ^ 359) ≡ sum binary32 s a t b (2 ^ 298)
sum-up s t a b A B p q =
    sum_same binary32 s A t B (2 ^ 359) a b (2 ^ 298) (pow_pos 359) (pow_pos 298)
    (ap (λ (x : ℕ). x * 2 ^ 298) p ∙ mul_assoc a (2 ^ 61) (2 ^ 298) ∙ ap (λ (x : ℕ). a * x) (sym (pow-add 2 61 298)))
    (ap (λ (x : ℕ). x * 2 ^ 298) q ∙ mul_assoc b (2 ^ 61) (2 ^ 298) ∙ ap (λ (x : ℕ). b * x) (sym (pow-add 2 61 298)))

-- and of the two in the other order
swap : (s : Bool) (A B : ℕ) → A ≤ B → sum binary32 s B (not s) A (2 ^ 359) ≡ sum binary32 (not s) A s B (2 ^ 359)
swap s A B h = elim (eq-or-lt_of_le h) [
  | inl e ↦ ap (λ (x : ℕ). sum binary32 s B (not s) x (2 ^ 359)) e ∙ sum-none binary32 s B (2 ^ 359) ∙ sym (none' s B) ∙ ap (λ (x : ℕ). sum binary32 (not s) x s B (2 ^ 359)) (sym e)
  | inr l ↦ sum_more binary32 s B A (2 ^ 359) l ∙ sym (sum_less binary32 s A B (2 ^ 359) l)
]
  where
    none' : (s : Bool) (B : ℕ) → sum binary32 (not s) B s B (2 ^ 359) ≡ round binary32 false 0 (2 ^ 359)
    none' true B = sum-none binary32 false B (2 ^ 359)
    none' false B = sum-none binary32 true B (2 ^ 359)

pub exchanged : (s t : Bool) (A B : ℕ) → A ≤ B → sum binary32 t B s A (2 ^ 359) ≡ sum binary32 s A t B (2 ^ 359)
exchanged true true A B h = sum_like binary32 true B A (2 ^ 359) ∙ ap (λ (x : ℕ). round binary32 true x (2 ^ 359)) (add_comm B A) ∙ sym (sum_like binary32 true A B (2 ^ 359))
exchanged true false A B h = swap false A B h
exchanged false true A B h = swap true A B h
exchanged false false A B h = sum_like binary32 false B A (2 ^ 359) ∙ ap (λ (x : ℕ). round binary32 false x (2 ^ 359)) (add_comm B A) ∙ sym (sum_like binary32 false A B (2 ^ 359))

-- the one that `below` calls smaller is
pub ordered : (u v e f : ℕ) → sized u → sized v → Under u e v f → u * 2 ^ e ≤ v * 2 ^ f
ordered u v e f U W l = go (eq-or-lt_of_le l.0)
  where
    one : (e f : ℕ) → e < f → 1 + e ≤ f
    one e f h = omega arith

    go : (e ≡ f) ⊎ (e < f) → u * 2 ^ e ≤ v * 2 ^ f
    go (inl h) = le_trans (mul-le-mul_right (2 ^ e) (l.1 h)) (le_of_eq (ap (λ (k : ℕ). v * 2 ^ k) h))
    go (inr h) =
        le_trans (mul-le-mul_right (2 ^ e) (le_of_lt U.1))
        (le_trans (le_of_eq (mul_assoc 0x1000_0000_0000_0000 2 (2 ^ e) ∙ ap (λ (x : ℕ). 0x1000_0000_0000_0000 * x) (sym (pow-add 2 1 e))))
        (mul-le-mul W.0 (pow_mono (one e f h))))

-- ---- a part that is zero
scaled : (s : Bool) (q j : ℕ) → round binary32 s (q * 2 ^ (j + 61)) (2 ^ 359) ≡ round binary32 s (q * 2 ^ j) (2 ^ 298)
scaled s q j =
    round_same binary32 s (q * 2 ^ (j + 61)) (2 ^ 359) (q * 2 ^ j) (2 ^ 298) (pow_pos 359) (pow_pos 298)
    (ap (λ (x : ℕ). x * 2 ^ 298) (ap (λ (x : ℕ). q * x) (pow-add 2 j 61) ∙ sym (mul_assoc q (2 ^ j) (2 ^ 61)))
    ∙ mul_assoc (q * 2 ^ j) (2 ^ 61) (2 ^ 298)
    ∙ ap (λ (x : ℕ). q * 2 ^ j * x) (sym (pow-add 2 61 298)))

less_none : (b : ℕ) → b - 0 ≡ b
less_none b = omega arith

zero-plus : (s t : Bool) (b : ℕ) → 0 < b → sum binary32 s 0 t b (2 ^ 298) ≡ round binary32 t b (2 ^ 298)
zero-plus true true b h = sum_like binary32 true 0 b (2 ^ 298) ∙ ap (λ (x : ℕ). round binary32 true x (2 ^ 298)) (zero-add b)
zero-plus true false b h = sum_less binary32 false 0 b (2 ^ 298) h ∙ ap (λ (x : ℕ). round binary32 false x (2 ^ 298)) (less_none b)
zero-plus false true b h = sum_less binary32 true 0 b (2 ^ 298) h ∙ ap (λ (x : ℕ). round binary32 true x (2 ^ 298)) (less_none b)
zero-plus false false b h = sum_like binary32 false 0 b (2 ^ 298) ∙ ap (λ (x : ℕ). round binary32 false x (2 ^ 298)) (zero-add b)

plus-zero : (s t : Bool) (a : ℕ) → 0 < a → sum binary32 s a t 0 (2 ^ 298) ≡ round binary32 s a (2 ^ 298)
plus-zero true true a h = sum_like binary32 true a 0 (2 ^ 298) ∙ ap (λ (x : ℕ). round binary32 true x (2 ^ 298)) (add-zero a)
plus-zero true false a h = sum_more binary32 true a 0 (2 ^ 298) h ∙ ap (λ (x : ℕ). round binary32 true x (2 ^ 298)) (less_none a)
plus-zero false true a h = sum_more binary32 false a 0 (2 ^ 298) h ∙ ap (λ (x : ℕ). round binary32 false x (2 ^ 298)) (less_none a)
plus-zero false false a h = sum_like binary32 false a 0 (2 ^ 298) ∙ ap (λ (x : ℕ). round binary32 false x (2 ^ 298)) (add-zero a)

zero-zero : (s t : Bool) → sum binary32 s 0 t 0 (2 ^ 298) ≡ units binary32 (s && t) 0 0
unfolding sum round
zero-zero true true = refl
zero-zero true false = refl
zero-zero false true = refl
zero-zero false false = refl

pos_of : (q j : ℕ) → (q ≡ 0 → ⊥) → 0 < q * 2 ^ j
pos_of q j h = mul-pos (some q h) (pow_pos j)
  where
    some : (q : ℕ) → (q ≡ 0 → ⊥) → 0 < q
    some q h = omega (arith, h)

pub first-zero : (s t : Bool) (p i q j : ℕ) → p ≡ 0 → (q ≡ 0 → ⊥) → round binary32 t (q * 2 ^ (j + 61)) (2 ^ 359) ≡ sum binary32 s (p * 2 ^ i) t (q * 2 ^ j) (2 ^ 298)
first-zero s t p i q j z n =
    scaled t q j ∙ sym (zero-plus s t (q * 2 ^ j) (pos_of q j n)) ∙ ap (λ (x : ℕ). sum binary32 s x t (q * 2 ^ j) (2 ^ 298)) (sym (ap (λ (x : ℕ). x * 2 ^ i) z ∙ zero-mul (2 ^ i)))

pub second-zero : (s t : Bool) (p i q j : ℕ) → (p ≡ 0 → ⊥) → q ≡ 0 → round binary32 s (p * 2 ^ (i + 61)) (2 ^ 359) ≡ sum binary32 s (p * 2 ^ i) t (q * 2 ^ j) (2 ^ 298)
second-zero s t p i q j n z =
    scaled s p i ∙ sym (plus-zero s t (p * 2 ^ i) (pos_of p i n)) ∙ ap (λ (x : ℕ). sum binary32 s (p * 2 ^ i) t x (2 ^ 298)) (sym (ap (λ (x : ℕ). x * 2 ^ j) z ∙ zero-mul (2 ^ j)))

pub both_zero : (s t : Bool) (p i q j : ℕ) → p ≡ 0 → q ≡ 0 → with_sign (s && t) 0 ≡ sum binary32 s (p * 2 ^ i) t (q * 2 ^ j) (2 ^ 298)
both_zero s t p i q j y z =
    together (s && t) 0 0 (lit≤ tt) (lit≤ tt) (inl refl)
    ∙ sym (zero-zero s t)
    ∙ ap (λ (x : ℕ). sum binary32 s x t 0 (2 ^ 298)) (sym (ap (λ (x : ℕ). x * 2 ^ i) y ∙ zero-mul (2 ^ i)))
    ∙ ap (λ (x : ℕ). sum binary32 s (p * 2 ^ i) t x (2 ^ 298)) (sym (ap (λ (x : ℕ). x * 2 ^ j) z ∙ zero-mul (2 ^ j)))
