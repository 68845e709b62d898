-- What rounding a product of two f32 loses, by the products of their parts of twelve digits.
-- Each of these is exact, and so is each sum of them, since what is taken away first is near to all that is added after it: the remainder is always of 24 digits.
use Rattle.std.proofs.Common.{◌≡◌, ℕ, ◌+◌, ◌-◌, ◌*◌, ◌/◌, ◌%◌, ◌^◌, ◌<◌, ◌≤◌, Bool, true, false, sym, refl, ap, ◌∙◌, subst, inl, inr, lt_of_lt_of_le, mul_assoc, add-mul, mul-le-mul, mul-one, mul-add, mul_right_comm, arith, pow_mono, pow-add, shl_lt}
use native.Mathlib.Nat.{mul-mul-mul_comm}
use lib.Ieee.{Float, add, binary32, mul, neg, of_bits, sub, to_bits, units}
use lib.Ieee.Exact.{HasValue, units_val}
use Rattle.binary32.specs.Pattern.{sign_bit}
use Rattle.binary32.proofs.Pattern.{no_nan, pattern-at, together, with_sign-is}
use Rattle.binary32.proofs.Size.{split_le}
use Rattle.rounding.specs.Steps.{Parted, lost, lower, upper}
use Rattle.rounding.proofs.Cut.{not_nan_of}
use Rattle.rounding.proofs.Differences.{Firm, Near, Once, Proper, Side, adds, also, close, exactly, minus, near, positive, times, times_is}
use Rattle.rounding.proofs.Placed.{pow-back}
use Rattle.rounding.proofs.Single.{narrowed, widened}

-- ---- the parts
module _ (x : Float) (M y : ℕ) (v : HasValue x false (M * 2 ^ y) (2 ^ 149)) (lo : 0x80_0000 ≤ M) (hi : M < 0x100_0000) (l : y ≤ 200) where
  abbrev first : ℕ
  first = M / 0x1000 * 0x1000

  pattern : to_bits binary32 x / 0x1000 * 0x1000 ≡ sign_bit false + (y * 0x80_0000 + first)
  pattern = omega (arith, pattern-at x false M y lo hi v)

  pub parted : Parted x
  parted = record { real = not_nan_of x false (M * 2 ^ y) (2 ^ 149) v; still = rw pattern (no_nan false (y * 0x80_0000 + first) (omega arith)) }

  upper_is : upper x ≡ units binary32 false first y
  unfolding upper
  upper_is = ap (of_bits binary32) pattern ∙ sym (with_sign-is false (y * 0x80_0000 + first) (omega arith)) ∙ together false first y (omega arith) (omega arith) (inr (omega arith))

  upper-has : HasValue (upper x) false (first * 2 ^ y) (2 ^ 149)
  upper-has = rw upper_is (units_val binary32 false first y (lt_of_lt_of_le (shl_lt 24 y (omega arith)) (pow_mono {i = 24 + y} {j = 277} (omega arith))))

  -- in units of its last digit, over 2 ^ 298
  firm : (z : Float) (n : ℕ) → HasValue z false (n * 2 ^ y) (2 ^ 149) → Firm (y + 149) z n 0
  firm z n h = record { is = record { sign = false; D = n; value = widened z false n y h; side = omega arith }; proper = positive n }

  lower-has : HasValue (lower x) false (M % 0x1000 * 2 ^ y) (2 ^ 149)
  unfolding sub
  lower-has =
      let f = exactly (M % 0x1000) 0 (adds (y + 149) x (neg (upper x)) (firm x M v) (minus (firm (upper x) first upper-has).is)) (inl (omega (arith, mul-one (M % 0x1000)))) (omega arith) (omega arith) (omega arith) in
      narrowed (lower x) false (M % 0x1000) y (upright f.is.sign f.is.D f.is.value f.is.side f.proper)
    where
      upright : (s : Bool) (D : ℕ) → HasValue (lower x) s (D * 2 ^ (y + 149)) (2 ^ 298) → Side s D (M + 0) (0 + first) → Proper s D → HasValue (lower x) false (M % 0x1000 * 2 ^ (y + 149)) (2 ^ 298)
      upright false D h e p = subst (λ (n : ℕ). HasValue (lower x) false (n * 2 ^ (y + 149)) (2 ^ 298)) (omega arith) h
      upright true D h e p = let q = p refl in absurd (omega arith)

-- ---- the products of the parts
part-le : (p q : ℕ) → p < 0x1000 → q < 0x1000 → p * q ≤ 16769025
part-le p q a b = mul-le-mul (under p a) (under q b)
  where
    under : (p : ℕ) → p < 0x1000 → p ≤ 4095
    under p h = omega arith

expand : (p q r s : ℕ) → (p * 0x1000 + q) * (r * 0x1000 + s) ≡ p * r * 0x100_0000 + p * s * 0x1000 + (q * r * 0x1000 + q * s)
expand p q r s =
    add-mul (p * 0x1000) q (r * 0x1000 + s)
    ∙ ap (λ (x : ℕ). x + q * (r * 0x1000 + s)) (mul-add (p * 0x1000) (r * 0x1000) s ∙ ap (λ (x : ℕ). x + p * 0x1000 * s) (mul-mul-mul_comm p 0x1000 r 0x1000) ∙ ap (λ (x : ℕ). p * r * 0x100_0000 + x) (mul_right_comm p 0x1000 s))
    ∙ ap (λ (x : ℕ). p * r * 0x100_0000 + p * s * 0x1000 + x) (mul-add q (r * 0x1000) s ∙ ap (λ (x : ℕ). x + q * s) (sym (mul_assoc q r 0x1000)))

product-of : (x y : Float) (n k i j F m : ℕ) → HasValue x false (n * 2 ^ i) (2 ^ 149) → HasValue y false (k * 2 ^ j) (2 ^ 149) → n * k ≡ F * 2 ^ m → F ≤ 0x100_0000 → 149 ≤ i + j → i + j + m < 400 → Firm (i + j) (mul binary32 x y) (F * 2 ^ m) 0
product-of x y n k i j F m p q e f l u = exactly F m (subst (λ (z : ℕ). Once (i + j) (mul binary32 x y) z 0) e (times x y n k i j p q)) (inl (omega arith)) f l u

-- the product of N units, rounded to Q * 2 ^ n of them, and what it lost
pub record Product (w : ℕ) (a b : Float) (N : ℕ) : Type 0 where
  pub Q : ℕ
  pub n : ℕ
  pub rounded : Firm w (mul binary32 a b) (Q * 2 ^ n) 0
  pub rest : Firm w (lost a b (mul binary32 a b)) N (Q * 2 ^ n)
  pub few : Q ≤ 0x100_0000
  pub from : 23 ≤ n
  pub to : n ≤ 24
  pub over : Q * 2 ^ n ≤ N + 0x80_0000
  pub less : N ≤ Q * 2 ^ n + 0x80_0000

module _ (a b : Float) (H G i j : ℕ) (va : HasValue a false (H * 2 ^ i) (2 ^ 149)) (vb : HasValue b false (G * 2 ^ j) (2 ^ 149))
    (ha : 0x80_0000 ≤ H) (hb : H < 0x100_0000) (ga : 0x80_0000 ≤ G) (gb : G < 0x100_0000) (il : i ≤ 200) (jl : j ≤ 200) (lo : 173 ≤ i + j) (hi : i + j ≤ 330) where
  abbrev Hu : ℕ
  Hu = H / 0x1000

  abbrev Hl : ℕ
  Hl = H % 0x1000

  abbrev Gu : ℕ
  Gu = G / 0x1000

  abbrev Gl : ℕ
  Gl = G % 0x1000

  -- all of the product
  all-is : H * G ≡ Hu * Gu * 0x100_0000 + Hu * Gl * 0x1000 + (Hl * Gu * 0x1000 + Hl * Gl)
  all-is = ap (λ (x : ℕ). x * G) (whole H) ∙ ap (λ (x : ℕ). (Hu * 0x1000 + Hl) * x) (whole G) ∙ expand Hu Hl Gu Gl
    where
      whole : (n : ℕ) → n ≡ n / 0x1000 * 0x1000 + n % 0x1000
      whole n = omega arith

  uu : Hu * Gu ≤ 16769025
  uu = part-le Hu Gu (omega arith) (omega arith)

  ul : Hu * Gl ≤ 16769025
  ul = part-le Hu Gl (omega arith) (omega arith)

  lu : Hl * Gu ≤ 16769025
  lu = part-le Hl Gu (omega arith) (omega arith)

  ll : Hl * Gl ≤ 16769025
  ll = part-le Hl Gl (omega arith) (omega arith)

  all-lt : H * G < 0x1_0000_0000_0000
  all-lt = omega (arith, all-is, uu, ul, lu, ll)

  all-ge : 0x4000_0000_0000 ≤ H * G
  all-ge = mul-le-mul ha ga

  -- and what rounding makes of it
  product : Near (i + j) (mul binary32 a b) false (H * G)
  product = subst (λ (r : Float). Near (i + j) r false (H * G)) (sym (times_is a b H G i j va vb)) (near (i + j) false (H * G) lo hi all-lt)

  abbrev P : ℕ
  P = product.Q * 2 ^ product.n

  firm-product : Firm (i + j) (mul binary32 a b) P 0
  firm-product = record { is = record { sign = false; D = P; value = product.value; side = omega arith }; proper = positive P }

  place-from : 23 ≤ product.n
  place-from = pow-back 22 product.n (omega (arith, all-ge, product.under))

  -- a multiple of 2 ^ 23
  abbrev R : ℕ
  R = product.Q * 2 ^ (product.n - 23)

  P-is : P ≡ R * 0x80_0000
  P-is = ap (λ (x : ℕ). product.Q * x) (ap (λ (x : ℕ). 2 ^ x) (back product.n place-from) ∙ pow-add 2 (product.n - 23) 23) ∙ sym (mul_assoc product.Q (2 ^ (product.n - 23)) 0x80_0000)
    where
      back : (n : ℕ) → 23 ≤ n → n ≡ n - 23 + 23
      back n h = omega arith

  weight : 2 ^ product.n ≤ 0x100_0000
  weight = pow_mono product.place

  off : (P ≤ H * G + 0x80_0000) × (H * G ≤ P + 0x80_0000)
  off = (omega (arith, product.over, weight), omega (arith, product.less, weight))

  -- ---- the sums
  u-u : Firm (i + j) (mul binary32 (upper a) (upper b)) (Hu * Gu * 2 ^ 24) 0
  u-u = product-of (upper a) (upper b) (Hu * 0x1000) (Gu * 0x1000) i j (Hu * Gu) 24 (upper-has a H i va ha hb il) (upper-has b G j vb ga gb jl) (mul-mul-mul_comm Hu 0x1000 Gu 0x1000) (omega (arith, uu)) (omega arith) (omega arith)

  u-l : Firm (i + j) (mul binary32 (upper a) (lower b)) (Hu * Gl * 2 ^ 12) 0
  u-l = product-of (upper a) (lower b) (Hu * 0x1000) Gl i j (Hu * Gl) 12 (upper-has a H i va ha hb il) (lower-has b G j vb ga gb jl) (mul_right_comm Hu 0x1000 Gl) (omega (arith, ul)) (omega arith) (omega arith)

  l-u : Firm (i + j) (mul binary32 (lower a) (upper b)) (Hl * Gu * 2 ^ 12) 0
  l-u = product-of (lower a) (upper b) Hl (Gu * 0x1000) i j (Hl * Gu) 12 (lower-has a H i va ha hb il) (upper-has b G j vb ga gb jl) (sym (mul_assoc Hl Gu 0x1000)) (omega (arith, lu)) (omega arith) (omega arith)

  l-l : Firm (i + j) (mul binary32 (lower a) (lower b)) (Hl * Gl * 2 ^ 0) 0
  l-l = product-of (lower a) (lower b) Hl Gl i j (Hl * Gl) 0 (lower-has a H i va ha hb il) (lower-has b G j vb ga gb jl) (sym (mul-one (Hl * Gl))) (omega (arith, ll)) (omega arith) (omega arith)

  abbrev d1 : Float
  d1 = sub binary32 (mul binary32 (upper a) (upper b)) (mul binary32 a b)

  first-sum : Firm (i + j) d1 (Hu * Gu * 2 ^ 24 + 0) (0 + P)
  unfolding sub
  first-sum = elim (split_le R (2 * (Hu * Gu))) [
    | inl h ↦ exactly (2 * (Hu * Gu) - R) 23 (adds (i + j) _ _ u-u (minus firm-product.is)) (inl (omega (arith, P-is))) (omega (arith, P-is, off.1, all-is, uu, ul, lu, ll)) (omega arith) (omega arith)
    | inr h ↦ exactly (R - 2 * (Hu * Gu)) 23 (adds (i + j) _ _ u-u (minus firm-product.is)) (inr (omega (arith, P-is))) (omega (arith, P-is, off.0, all-is, uu, ul, lu, ll)) (omega arith) (omega arith)
  ]

  abbrev d2 : Float
  d2 = add binary32 d1 (mul binary32 (upper a) (lower b))

  second-sum : Firm (i + j) d2 (Hu * Gu * 2 ^ 24 + 0 + Hu * Gl * 2 ^ 12) (0 + P + 0)
  second-sum = elim (split_le (R * 0x800) (Hu * Gu * 0x1000 + Hu * Gl)) [
    | inl h ↦ exactly (Hu * Gu * 0x1000 + Hu * Gl - R * 0x800) 12 (adds (i + j) _ _ first-sum u-l.is) (inl (omega (arith, P-is))) (omega (arith, P-is, off.1, all-is, lu, ll)) (omega arith) (omega arith)
    | inr h ↦ exactly (R * 0x800 - (Hu * Gu * 0x1000 + Hu * Gl)) 12 (adds (i + j) _ _ first-sum u-l.is) (inr (omega (arith, P-is))) (omega (arith, P-is, off.0, all-is, lu, ll)) (omega arith) (omega arith)
  ]

  abbrev d3 : Float
  d3 = add binary32 d2 (mul binary32 (lower a) (upper b))

  third-sum : Firm (i + j) d3 (Hu * Gu * 2 ^ 24 + 0 + Hu * Gl * 2 ^ 12 + Hl * Gu * 2 ^ 12) (0 + P + 0 + 0)
  third-sum = elim (split_le (R * 0x800) (Hu * Gu * 0x1000 + Hu * Gl + Hl * Gu)) [
    | inl h ↦ exactly (Hu * Gu * 0x1000 + Hu * Gl + Hl * Gu - R * 0x800) 12 (adds (i + j) _ _ second-sum l-u.is) (inl (omega (arith, P-is))) (omega (arith, P-is, off.1, all-is, ll)) (omega arith) (omega arith)
    | inr h ↦ exactly (R * 0x800 - (Hu * Gu * 0x1000 + Hu * Gl + Hl * Gu)) 12 (adds (i + j) _ _ second-sum l-u.is) (inr (omega (arith, P-is))) (omega (arith, P-is, off.0, all-is, ll)) (omega arith) (omega arith)
  ]

  -- what the product lost
  lost-is : Firm (i + j) (lost a b (mul binary32 a b)) (H * G) P
  lost-is = also (H * G) P (omega (arith, all-is)) (close (adds (i + j) _ _ third-sum l-l.is) (omega (arith, all-is, off.1)) (omega (arith, all-is, off.0)) (omega arith) (omega arith))

  pub by-products : Product (i + j) a b (H * G)
  by-products = record { Q = product.Q; n = product.n; rounded = firm-product; rest = lost-is; few = product.few; from = place-from; to = product.place; over = off.0; less = off.1 }
