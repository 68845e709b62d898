-- Where a sum of f32 that are not below zero is at most some value, so is each part of it.
-- A part is rounded to itself, and rounding keeps the order.
use Rattle.std.proofs.Common.{ℕ, ◌+◌, ◌*◌, ◌^◌, ◌≤◌, Bool, true, false, cond, not, T, ltb, sym, refl, ◌∙◌, subst, inl, inr, zero-le, le_trans, le_of_eq, le_refl, lt_of_lt_of_le, le-add_right, mul-le-mul_right, eq-zero-or-pos, zero-mul, le-add_left, arith, pow_pos, pow_mono, shl_lt}
use lib.Ieee.{Float, add, binary32, down, eq, fin, fits, inf, le, lt, nan, odd, round, units, up}
use lib.Ieee.Exact.{HasValue, odd_sign, round_exact}
use lib.Ieee.Fits.{round_is}
use lib.Ieee.Order.{le_of_values, round_mono}
use lib.Ieee.Positive.{between, den, den_pos, le_trans_positive, num, own_value, positive, positive_of_value}
use Rattle.binary32.proofs.Apart.{IsFinite, is_finite}
use Rattle.rounding.proofs.Sums.{add_at, sum_like}

-- ---- what has no sign: a NaN, or a value that is not below zero
abbrev pub unsigned : Float → Bool
unsigned nan = true
unsigned (inf s) = not s
unsigned (fin s m e) = not s

of_value : (x : Float) (a c : ℕ) → HasValue x false a c → T (unsigned x)
of_value nan a c v = tt
of_value (inf s) a c v = absurd v
of_value (fin s m e) a c v = subst (λ (b : Bool). T (not b)) (sym v.0) tt

units_unsigned : (q k : ℕ) → T (unsigned (units binary32 false q k))
unfolding units
units_unsigned q k = by (ltb (q * 2 ^ k) (2 ^ 277))
  where
    by : (b : Bool) → T (unsigned (cond b (odd 25 false q k 149) (inf false)))
    by true = of_value (odd 25 false q k 149) (q * 2 ^ k) (2 ^ 149) (odd_sign 25 false q k 149)
    by false = tt

round_unsigned : (a c : ℕ) → T (unsigned (round binary32 false a c))
round_unsigned a c = subst (λ (x : Float). T (unsigned x)) (sym (round_is binary32 false a c)) (units_unsigned _ _)

pub sum-unsigned : (x y : Float) → T (unsigned x) → T (unsigned y) → T (unsigned (add binary32 x y))
unfolding add
sum-unsigned nan y p q = tt
sum-unsigned (inf true) y p q = absurd p
sum-unsigned (inf false) nan p q = tt
sum-unsigned (inf false) (inf true) p q = absurd q
sum-unsigned (inf false) (inf false) p q = tt
sum-unsigned (inf false) (fin t n d) p q = tt
sum-unsigned (fin true m e) y p q = absurd p
sum-unsigned (fin false m e) nan p q = tt
sum-unsigned (fin false m e) (inf t) p q = q
sum-unsigned (fin false m e) (fin true n d) p q = absurd q
sum-unsigned (fin false m e) (fin false n d) p q = subst (λ (x : Float). T (unsigned x)) (sym (sum_like binary32 false (m * up e * down d) (n * up d * down e) (down e * down d))) (round_unsigned (m * up e * down d + n * up d * down e) (down e * down d))

-- ---- a part and the sum, rounded
module _ (most : Float) (above : T (positive most)) where
  under : (x : Float) (M y D : ℕ) → IsFinite x false M y → M * 2 ^ y ≤ D → T (le (round binary32 false D (2 ^ 149)) most) → T (le x most)
  under x M y D d h b = elim (eq-zero-or-pos (M * 2 ^ y)) [
    | inl z ↦ le_of_values x most 0 (2 ^ 149) (num most) (den most) (pow_pos 149) (den_pos most) (subst (λ (n : ℕ). HasValue x false n (2 ^ 149)) z d.value) (own_value most above) (le_trans (le_of_eq (zero-mul (den most))) zero-le)
    | inr p ↦
        let W = M * 2 ^ y in
        let r = round binary32 false W (2 ^ 149) in
        let l : 24 + y ≤ 277 = omega (arith, d.bounded) in
        let v : HasValue r false W (2 ^ 149) = round_exact binary32 false W (2 ^ 149) M y (pow_pos 149) d.few (lt_of_lt_of_le (shl_lt 24 y d.few) (pow_mono l)) refl in
        let a = le_of_values x r W (2 ^ 149) W (2 ^ 149) (pow_pos 149) (pow_pos 149) d.value v (le_refl _) in
        let m = round_mono binary32 W (2 ^ 149) D (2 ^ 149) (pow_pos 149) (pow_pos 149) (mul-le-mul_right (2 ^ 149) h) in
        let px = positive_of_value x W (2 ^ 149) d.value p in
        let pr = positive_of_value r W (2 ^ 149) v p in
        let ps = between r _ most pr above m b in
        le_trans_positive x r most px pr above a (le_trans_positive r _ most pr ps above m b)
  ]

  no-infinity : (x : Float) → T (positive x) → T (le (inf false) x) → ⊥
  unfolding le lt eq
  no-infinity nan p b = p
  no-infinity (inf s) p b = p
  no-infinity (fin s m e) p b = b

  pub parts-under : (x y : Float) → T (fits binary32 x) → T (fits binary32 y) → T (unsigned x) → T (unsigned y) → T (le (add binary32 x y) most) → T (le x most) × T (le y most)
  parts-under nan y f g p q b = unfold add le lt eq in absurd b
  parts-under (inf true) y f g p q b = absurd p
  parts-under (inf false) nan f g p q b = unfold add le lt eq in absurd b
  parts-under (inf false) (inf true) f g p q b = absurd q
  parts-under (inf false) (inf false) f g p q b = unfold add in absurd (no-infinity most above b)
  parts-under (inf false) (fin t n d) f g p q b = unfold add in absurd (no-infinity most above b)
  parts-under (fin true m e) y f g p q b = absurd p
  parts-under (fin false m e) nan f g p q b = unfold add le lt eq in absurd b
  parts-under (fin false m e) (inf true) f g p q b = absurd q
  parts-under (fin false m e) (inf false) f g p q b = unfold add in absurd (no-infinity most above b)
  parts-under (fin false m e) (fin true n d) f g p q b = absurd q
  parts-under (fin false m e) (fin false n d) f g p q b =
      let a = is_finite (fin false m e) false _ _ f refl in
      let c = is_finite (fin false n d) false _ _ g refl in
      let s = subst (λ (z : Float). T (le z most)) (add_at binary32 (fin false m e) (fin false n d) false false _ _ (2 ^ 149) (pow_pos 149) a.value c.value ∙ sum_like binary32 false _ _ (2 ^ 149)) b in
      (under (fin false m e) _ _ _ a (le-add_right _ _) s, under (fin false n d) _ _ _ c (le-add_left _ _) s)
