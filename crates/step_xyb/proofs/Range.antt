-- Where g is from 1/8 to 4, and the bias negative and of a size from 2 ^ -15 to 2 ^ -8, g * g * g + bias may be worked out by parts.
-- The last digit of the product weighs from 2 ^ -55 to 2 ^ -40, and that of the bias from 2 ^ -38 to 2 ^ -32: from 4 to 2 ^ 23 of these (`by-parts-fused`).
use mathlib.Core.Path.{◌≡◌, ap, refl, subst, ◌∙◌}
use mathlib.Core.Logic.{inl, inr}
use mathlib.Core.Bool.{false, not, true}
use Prim.Native.Nat.{ℕ, ◌+◌, ◌-◌, ◌*◌, ◌^◌, ◌≤◌}
use native.Mathlib.Nat.{le_antisymm, le_of_lt, le_of_mul-le-mul_right, lt_of_lt_of_le}
use native.Mathlib.Omega.{arith}
use lib.Dec.{T, lit<, lit≤}
use lib.Pow.{pow_pos}
use lib.Ieee.{Float, binary32, fin, fits, inf, le, mul, nan, neg, of_bits, round}
use lib.Ieee.Exact.{HasValue}
use lib.Ieee.Fits.{add-fits, mul-fits, neg-fits}
use lib.Ieee.Positive.{above, above_of_le, between, mul_mono, positive}
use Rattle.notation.specs.F32.{◌+f◌, bits}
use Rattle.binary32.proofs.Size.{split_le}
use Rattle.rounding.specs.Steps.{Parted, by_parts}
use Rattle.rounding.proofs.Lost.{by-products, parted}
use Rattle.rounding.proofs.Placed.{Placed, place}
use Rattle.rounding.proofs.Unsigned.{parts-under, sum-unsigned, unsigned}
use Rattle.fused.specs.Fused.{fused}
use Rattle.fused.proofs.ByParts.{by-parts-fused}
use Rattle.step_xyb.specs.Steps.{Bias, Within, least, most, squared}

-- ---- the bias
abbrev pub least_bias : Float
least_bias = bits 0x3800_0000

abbrev pub most_bias : Float
most_bias = bits 0x3b80_0000

least_bias_lem : HasValue least_bias false (2 ^ 134) (2 ^ 149)
unfolding of_bits
least_bias_lem = (refl, refl)

most_bias_lem : HasValue most_bias false (2 ^ 141) (2 ^ 149)
unfolding of_bits
most_bias_lem = (refl, refl)

un_neg : (c : Float) (a : ℕ) → HasValue (neg c) false a (2 ^ 149) → HasValue c true a (2 ^ 149)
unfolding neg
un_neg nan a h = h
un_neg (inf t) a h = h
un_neg (fin true m e) a h = (refl, h.1)
un_neg (fin false m e) a h = (ap not h.0, h.1)

pub bias_is : (c : Float) → T (fits binary32 c) → T (le least_bias (neg c)) → T (le (neg c) most_bias) → Bias c
bias_is c f a b = by (place least_bias (neg c) most_bias 134 141 (lit≤ tt) least_bias_lem most_bias_lem (neg-fits binary32 c f) a b)
  where
    by : Placed (neg c) 134 141 → Bias c
    by p = elim (split_le p.y 117) [
      | inl h ↦ record { O = p.M; k = p.y; value = un_neg c (p.M * 2 ^ p.y) p.value; some = lt_of_lt_of_le (lit< tt) p.full; few = le_of_lt p.few; from = omega (arith, p.from); to = h }
      | inr h ↦
          let y : p.y ≡ 118 = omega (arith, p.to) in
          let m : p.M ≤ 0x80_0000 = le_of_mul-le-mul_right (subst (λ (n : ℕ). p.M * 2 ^ n ≤ 2 ^ 141) y p.under) (pow_pos 118) in
          let e : p.M * 2 ^ p.y ≡ 0x100_0000 * 2 ^ 117 = ap (λ (n : ℕ). p.M * 2 ^ n) y ∙ ap (λ (n : ℕ). n * 2 ^ 118) (le_antisymm m p.full) in
          record { O = 0x100_0000; k = 117; value = un_neg c (0x100_0000 * 2 ^ 117) (subst (λ (n : ℕ). HasValue (neg c) false n (2 ^ 149)) e p.value); some = lit< tt; few = lit≤ tt; from = lit≤ tt; to = lit≤ tt }
    ]

-- ---- g, and its square
least_has : HasValue least false (2 ^ 146) (2 ^ 149)
unfolding of_bits
least_has = (refl, refl)

most_has : HasValue most false (2 ^ 151) (2 ^ 149)
unfolding of_bits
most_has = (refl, refl)

least_squared : HasValue (squared least) false (2 ^ 143) (2 ^ 149)
unfolding of_bits mul round
least_squared = (refl, refl)

most_squared : HasValue (squared most) false (2 ^ 153) (2 ^ 149)
unfolding of_bits mul round
most_squared = (refl, refl)

least_positive : T (positive least)
unfolding of_bits
least_positive = tt

most_positive : T (positive most)
unfolding of_bits
most_positive = tt

-- ---- what one sample of the quick way asks
pub record Ready (g c : Float) : Type 0 where
  pub square : Parted (squared g)
  pub root : Parted g
  pub sum : by_parts (squared g) g c ≡ fused (squared g) g c

pub windowed : (g c : Float) → Within g → Bias c → Ready g c
windowed g c w k =
    let pg = between least g most least_positive most_positive w.from w.to in
    let a = place least g most 146 151 (lit≤ tt) least_has most_has w.single w.from w.to in
    let h = place (squared least) (squared g) (squared most) 143 153 (lit≤ tt) least_squared most_squared (mul-fits binary32 g g)
    (mul_mono binary32 least g least g least_positive pg least_positive pg w.from w.from) (mul_mono binary32 g most g most pg most_positive pg most_positive w.to w.to) in
    let gl : a.y ≤ 200 = omega (arith, a.to) in
    let hl : h.y ≤ 200 = omega (arith, h.to) in
    let lo : 173 ≤ h.y + a.y = omega (arith, h.from, a.from) in
    let hi : h.y + a.y ≤ 330 = omega arith in
    record {
      square = parted (squared g) h.M h.y h.value h.full h.few hl;
      root = parted g a.M a.y a.value a.full a.few gl;
      sum = by-parts-fused (squared g) g c h.M a.M k.O h.y a.y k.k (k.k + 149 - (h.y + a.y)) h.value a.value k.value
          (by-products (squared g) g h.M a.M h.y a.y h.value a.value h.full h.few a.full a.few hl gl lo hi)
          k.some k.few lo hi (omega (arith, k.from, h.to, a.to)) (omega (arith, k.to, h.from, a.from));
    }

-- ---- the test
above-unsigned : (x : Float) → T (above x) → T (unsigned x)
above-unsigned nan h = absurd h
above-unsigned (inf s) h = h
above-unsigned (fin true m e) h = absurd h
above-unsigned (fin false m e) h = tt

-- where each is 1/8 at least, and their sum 4 at most
pub all_within : (l m s : Float) → T (fits binary32 l) → T (fits binary32 m) → T (fits binary32 s) → T (le least l) → T (le least m) → T (le least s) → T (le (l +f m +f s) most) → Within l × Within m × Within s
all_within l m s f g h a b c t =
    let ul = above-unsigned l (above_of_le least l least_positive a) in
    let um = above-unsigned m (above_of_le least m least_positive b) in
    let us = above-unsigned s (above_of_le least s least_positive c) in
    let p = parts-under most most_positive (l +f m) s (add-fits binary32 l m) h (sum-unsigned l m ul um) us t in
    let q = parts-under most most_positive l m f g ul um p.0 in
    (record { single = f; from = a; to = q.0 }, record { single = g; from = b; to = q.1 }, record { single = h; from = c; to = p.1 })
