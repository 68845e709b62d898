-- `fused` of f32 values by f64: the product of two has 48 digits at most and is exact, so the sum alone is rounded, to 53 digits and then to 24.
-- The two roundings are one where the first ends clear of the midpoints of f32 (`Midpoint`, `ByPattern`).
use mathlib.Core.Path.{ap, refl, subst, sym, ◌∙◌, ◌≡◌}
use mathlib.Core.Logic.{inl, inr}
use mathlib.Core.Bool.{Bool, beq, cond, false, true}
use Prim.Native.Nat.{◌%◌, ◌*◌, ◌+◌, ◌-◌, ◌/◌, ◌<◌, ◌^◌, suc, ℕ, ◌≤◌}
use native.Mathlib.Nat.{le_of_eq, lt_of_le_of_lt, lt_of_lt_of_le, mul_assoc, mul-mul-mul_comm}
use native.Mathlib.Omega.{arith}
use lib.Dec.{T, eqb, lit≤}
use lib.Pow.{pow-add, pow_mono, pow_pos, shl_lt}
use lib.Ieee.{Float, add, binary32, binary64, fin, fits, inf, mul, nan, round, sum, to_bits, unlike}
use lib.Ieee.Exact.{HasValue}
use lib.Ieee.Scale.{finite}
use Rattle.binary32.proofs.Apart.{IsFinite, is_finite}
use Rattle.rounding.specs.Steps.{Clear, Narrows}
use Rattle.rounding.proofs.ByPattern.{Settled, settled-sum}
use Rattle.rounding.proofs.Exact.{fine}
use Rattle.rounding.proofs.Midpoint.{careful_sum}
use Rattle.rounding.proofs.Single.{widened}
use Rattle.rounding.proofs.Sums.{add_at, mul_val}
use Rattle.fused.proofs.Product.{by_digits, product_lt}
use Rattle.fused.specs.Fused.{fused}

-- 2 ^ w taken out of a number that has it
whole_of : (o x w : ℕ) → w ≤ x → o * 2 ^ (x - w) * 2 ^ w ≡ o * 2 ^ x
whole_of o x w h = mul_assoc o (2 ^ (x - w)) (2 ^ w) ∙ ap (λ (y : ℕ). o * y) (sym (pow-add 2 (x - w) w) ∙ ap (λ (y : ℕ). 2 ^ y) (back x w h))
  where
    back : (x w : ℕ) → w ≤ x → x - w + w ≡ x
    back x w h = omega arith

-- ---- a * b + c at f64, and `fused`: the same sum, over 2 ^ 298, at two formats
module _ (a b c : Float) (s t u : Bool) (m n o i j k : ℕ)
    (p : HasValue a s (m * 2 ^ i) (2 ^ 149)) (q : HasValue b t (n * 2 ^ j) (2 ^ 149)) (r : HasValue c u (o * 2 ^ k) (2 ^ 149)) (l : m * n < 0x1_0000_0000_0000) (h : i + j ≤ 1200) where
  at-f64 : sum binary64 (unlike s t) (m * n * 2 ^ (i + j)) u (o * 2 ^ (k + 149)) (2 ^ 298) ≡ add binary64 (mul binary64 a b) c
  at-f64 =
      let A = m * n * 2 ^ (i + j) in
      let B = o * 2 ^ (k + 149) in
      let ea : m * 2 ^ i * (n * 2 ^ j) ≡ A = mul-mul-mul_comm m (2 ^ i) n (2 ^ j) ∙ ap (λ (x : ℕ). m * n * x) (sym (pow-add 2 i j)) in
      let product : HasValue (mul binary64 a b) (unlike s t) A (2 ^ 298) =
      subst (λ (v : Float). HasValue v (unlike s t) A (2 ^ 298))
      (sym (mul_val binary64 a b s t (m * 2 ^ i) (n * 2 ^ j) (2 ^ 149) (2 ^ 149) (pow_pos 149) (pow_pos 149) p q ∙ ap (λ (x : ℕ). round binary64 (unlike s t) x (2 ^ 298)) ea))
      (fine (unlike s t) (m * n) (i + j) (lt_of_lt_of_le l (lit≤ tt)) h) in
      sym (add_at binary64 (mul binary64 a b) c (unlike s t) u A B (2 ^ 298) (pow_pos 298) product (widened c u o k r))

  -- what holds of the one sum at the two formats
  both : (P : Float → Float → Type 0) → P (sum binary64 (unlike s t) (m * n * 2 ^ (i + j)) u (o * 2 ^ (k + 149)) (2 ^ 298)) (sum binary32 (unlike s t) (m * n * 2 ^ (i + j)) u (o * 2 ^ (k + 149)) (2 ^ 298))
      → P (add binary64 (mul binary64 a b) c) (fused a b c)
  both P e =
      subst (λ (v : Float). P v (fused a b c)) at-f64
      (subst (λ (v : Float). P (sum binary64 (unlike s t) (m * n * 2 ^ (i + j)) u (o * 2 ^ (k + 149)) (2 ^ 298)) v) (by_digits a b c s t u m n o i j k p q r) e)

  -- in a window where the sum is no smaller nor larger than an f32 can be, and is a zero otherwise
  pub settled-fused : (w d : ℕ) → 172 ≤ w → d ≤ 424 → w ≤ i + j → w ≤ k + 149 → m * n * 2 ^ (i + j) < 2 ^ d → o * 2 ^ (k + 149) < 2 ^ d → Settled w (suc d) (add binary64 (mul binary64 a b) c) (fused a b c)
  settled-fused w d lo hi f g al bl =
      let A = whole_of (m * n) (i + j) w f in
      let B = whole_of o (k + 149) w g in
      both (Settled w (suc d)) (subst (λ (x : ℕ). Settled w (suc d) (sum binary64 (unlike s t) x u (o * 2 ^ (k + 149)) (2 ^ 298)) (sum binary32 (unlike s t) x u (o * 2 ^ (k + 149)) (2 ^ 298))) A
      (subst (λ (x : ℕ). Settled w (suc d) (sum binary64 (unlike s t) (m * n * 2 ^ (i + j - w) * 2 ^ w) u x (2 ^ 298)) (sum binary32 (unlike s t) (m * n * 2 ^ (i + j - w) * 2 ^ w) u x (2 ^ 298))) B
      (settled-sum (m * n * 2 ^ (i + j - w)) (o * 2 ^ (k + 149 - w)) w d lo hi (lt_of_le_of_lt (le_of_eq A) al) (lt_of_le_of_lt (le_of_eq B) bl) (unlike s t) u)))

-- ---- any three f32, where the sum at f64 is clear
by_parts_lem : (a b c : Float) (s t u : Bool) (m n o i j k : ℕ) → IsFinite a s m i → IsFinite b t n j → IsFinite c u o k
    → Clear (to_bits binary64 (add binary64 (mul binary64 a b) c)) → Narrows (add binary64 (mul binary64 a b) c) (fused a b c)
by_parts_lem a b c s t u m n o i j k p q r C =
    let l : m * n < 0x1_0000_0000_0000 = product_lt m n p.few q.few in
    let h : i + j ≤ 506 = omega (arith, p.bounded, q.bounded) in
    let wide : i + j ≤ 1200 = omega arith in
    let A = m * n * 2 ^ (i + j) in
    let B = o * 2 ^ (k + 149) in
    let al : A < 2 ^ 599 = lt_of_lt_of_le (shl_lt 48 (i + j) l) (pow_mono (room (i + j) h)) in
    let bl : B < 2 ^ 599 = lt_of_lt_of_le (shl_lt 24 (k + 149) r.few) (pow_mono (fit k r.bounded)) in
    both a b c s t u m n o i j k p.value q.value r.value l wide Narrows
    (careful_sum A B al bl (unlike s t) u (subst (λ (v : Float). Clear (to_bits binary64 v)) (sym (at-f64 a b c s t u m n o i j k p.value q.value r.value l wide)) C))
  where
    room : (w : ℕ) → w ≤ 506 → 48 + w ≤ 599
    room w h = omega arith

    fit : (k : ℕ) → k ≤ 253 → 24 + (k + 149) ≤ 599
    fit k h = omega arith

-- a pattern that is clear is a finite value's
too_far : (b : ℕ) → Clear b → 2047 ≤ b % 0x8000_0000_0000_0000 / 0x10_0000_0000_0000 → ⊥
too_far b (inl e) h = omega arith
too_far b (inr C) h = omega (arith, C.2)

clear_finite : (x : Float) → Clear (to_bits binary64 x) → T (finite x)
unfolding to_bits
clear_finite nan C = absurd (too_far 0x7ff8_0000_0000_0000 C (lit≤ tt))
clear_finite (inf true) C = absurd (too_far 0xfff0_0000_0000_0000 C (lit≤ tt))
clear_finite (inf false) C = absurd (too_far 0x7ff0_0000_0000_0000 C (lit≤ tt))
clear_finite (fin s m e) C = tt

-- and comes of finite operands
add-inf : (s : Bool) (c : Float) → T (finite (add binary64 (inf s) c)) → ⊥
unfolding add
add-inf s nan f = f
add-inf s (inf t) f = either (beq s t) f
  where
    either : (b : Bool) → T (finite (cond b (inf s) nan)) → ⊥
    either true f = f
    either false f = f
add-inf s (fin t n d) f = f

add-nan : (c : Float) → T (finite (add binary64 nan c)) → ⊥
unfolding add
add-nan c f = f

add-cond : (b : Bool) (s : Bool) (c : Float) → T (finite (add binary64 (cond b nan (inf s)) c)) → ⊥
add-cond true s c f = add-nan c f
add-cond false s c f = add-inf s c f

product-finite : (a b c : Float) → T (finite (add binary64 (mul binary64 a b) c)) → T (finite a) × T (finite b)
unfolding mul
product-finite nan b c f = absurd (add-nan c f)
product-finite (inf s) nan c f = absurd (add-nan c f)
product-finite (inf s) (inf t) c f = absurd (add-inf (unlike s t) c f)
product-finite (inf s) (fin t n d) c f = absurd (add-cond (eqb n 0) (unlike s t) c f)
product-finite (fin s m e) nan c f = absurd (add-nan c f)
product-finite (fin s m e) (inf t) c f = absurd (add-cond (eqb m 0) (unlike s t) c f)
product-finite (fin s m e) (fin t n d) c f = (tt, tt)

addend_finite : (x c : Float) → T (finite (add binary64 x c)) → T (finite c)
unfolding add
addend_finite nan c f = absurd f
addend_finite (inf s) c f = absurd (add-inf s c f)
addend_finite (fin s m e) nan f = absurd f
addend_finite (fin s m e) (inf t) f = absurd f
addend_finite (fin s m e) (fin t n d) f = tt

pub clear_fused : (a b c : Float) → T (fits binary32 a) → T (fits binary32 b) → T (fits binary32 c)
    → Clear (to_bits binary64 (add binary64 (mul binary64 a b) c)) → Narrows (add binary64 (mul binary64 a b) c) (fused a b c)
clear_fused a b c p q r C =
    let f = clear_finite (add binary64 (mul binary64 a b) c) C in
    let g = product-finite a b c f in
    by_cases a b c p q r g.0 g.1 (addend_finite (mul binary64 a b) c f) C
  where
    by_cases : (a b c : Float) → T (fits binary32 a) → T (fits binary32 b) → T (fits binary32 c) → T (finite a) → T (finite b) → T (finite c)
        → Clear (to_bits binary64 (add binary64 (mul binary64 a b) c)) → Narrows (add binary64 (mul binary64 a b) c) (fused a b c)
    by_cases nan b c p q r f g h C = absurd f
    by_cases (inf s) b c p q r f g h C = absurd f
    by_cases (fin s m i) nan c p q r f g h C = absurd g
    by_cases (fin s m i) (inf t) c p q r f g h C = absurd g
    by_cases (fin s m i) (fin t n j) nan p q r f g h C = absurd h
    by_cases (fin s m i) (fin t n j) (inf u) p q r f g h C = absurd h
    by_cases (fin s m i) (fin t n j) (fin u o k) p q r f g h C =
        by_parts_lem (fin s m i) (fin t n j) (fin u o k) s t u _ _ _ _ _ _ (is_finite (fin s m i) s _ _ p refl) (is_finite (fin t n j) t _ _ q refl) (is_finite (fin u o k) u _ _ r refl) C
