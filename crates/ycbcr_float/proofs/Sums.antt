-- The sums of a pixel by f64: none is too small or too large for f32, so that each may be rounded by its pattern.
-- A number's size gives the place of its last digit; a sum of two is a whole number of the smaller of their places, so that it is a zero or no smaller (`settled-fused`).
use Rattle.std.proofs.Common.{ℕ, suc, ◌+◌, ◌*◌, ◌^◌, ◌<◌, ◌≤◌, Bool, not, ◌&&◌, T, lt_of_lt_of_le, lt_of_le_of_lt, arith, lit≤, pow_mono, shl_lt}
use lib.Pow.{pow-lt}
use lib.Ieee.{Float, add, binary64, fits, is_nan, mul}
use lib.Ieee.Exact.{HasValue}
use lib.Ieee.Fits.{and_i, fits_widens}
use Rattle.rounding.specs.Steps.{rounded}
use Rattle.rounding.proofs.ByPattern.{Settled}
use Rattle.rounding.proofs.Cut.{not_nan_of}
use Rattle.fused.specs.Fused.{fused}
use Rattle.fused.proofs.Product.{product_lt}
use Rattle.fused.proofs.Twice.{settled-fused}
use Rattle.ycbcr_float.specs.Steps.{Digits, Factor, Ordinary}

-- at f64
pub widens : {from to : ℕ} {x : Float} → Digits from to x → T (fits binary64 x && not (is_nan x))
widens {x = x} d = and_i (fits binary64 x) (not (is_nan x)) (fits_widens x d.single) (not_nan_of x d.sign _ _ d.value)

-- ---- a product and a sum
module _ (a k : Float) (p : Ordinary a) (q : Factor k) where
  product-under : (d : ℕ) → 304 ≤ d → p.M * q.M * 2 ^ (p.y + q.y) < 2 ^ d
  product-under d h =
      let l : 48 + (p.y + q.y) ≤ d = omega (arith, p.high, q.high) in
      lt_of_lt_of_le (shl_lt 48 (p.y + q.y) (product_lt p.M q.M p.few q.few)) (pow_mono l)

  -- with an addend o * 2 ^ i that ends at 2 ^ w or above
  sum : (w d : ℕ) (c : Float) (u : Bool) (o i : ℕ) → HasValue c u (o * 2 ^ i) (2 ^ 149) → 172 ≤ w → w ≤ 213 → w ≤ i + 149 → o * 2 ^ (i + 149) < 2 ^ d → 304 ≤ d → d ≤ 424 → Settled w (suc d) (add binary64 (mul binary64 a k) c) (fused a k c)
  sum w d c u o i v lo hi from under far most =
      settled-fused a k c p.sign q.sign u p.M q.M o p.y q.y i p.value q.value v (product_lt p.M q.M p.few q.few) (omega (arith, p.high, q.high))
      w d lo most (omega (arith, p.low, q.low)) from (product-under d far) under

  pub first-sum : (c : Float) → Ordinary c → Settled 213 305 (add binary64 (mul binary64 a k) c) (fused a k c)
  first-sum c r =
      let l : 24 + (r.y + 149) ≤ 304 = omega (arith, r.high) in
      sum 213 304 c r.sign r.M r.y r.value (lit≤ tt) (lit≤ tt) (omega (arith, r.low)) (lt_of_lt_of_le (shl_lt 24 (r.y + 149) r.few) (pow_mono l)) (lit≤ tt) (lit≤ tt)

  -- with the sum before in place of the luma
  pub next-sum : (x r : Float) → Settled 213 305 x r → Settled 190 307 (add binary64 (mul binary64 a k) (rounded x)) (fused a k (rounded x))
  next-sum x r t =
      sum 190 306 (rounded x) t.sign t.Q t.k t.value (lit≤ tt) (lit≤ tt) (omega (arith, t.from)) (lt_of_le_of_lt t.under (pow-lt {i = 305} {j = 306} (lit≤ tt))) (lit≤ tt) (lit≤ tt)
