-- From RGB bytes, there and back moves no channel by more than 1, by any balanced weights. Y, Cb and Cr each lie within a half of their exact fraction; what red,
-- green and blue are computed from is then off by a sum of these errors, less than 3/2, and a byte less than 3/2 from a fraction lies beside its byte.
use Prim.Native.Nat.{ℕ, ◌+◌, ◌*◌, ◌≤◌, ◌<◌}
use mathlib.Core.Path.{◌≡◌, ap}
use mathlib.Core.Logic.{◌⊎◌, inl, inr}
use native.Mathlib.Nat.{eq-zero-or-pos, mul-le-mul_left, mul-pos}
use native.Mathlib.Omega.{arith}
use Rattle.nearest.specs.Nearest.{byte_of}
use Rattle.nearest.proofs.Distance.{Half, byte-half, byte_one}
use Rattle.ycbcr_weights.specs.declared.Weights.{Weights}
use Rattle.ycbcr_weights.specs.declared.Pixel.{Pixel}
use Rattle.ycbcr_weights.specs.Weights.{Lawful, blue_factor, bt709, red_factor, t871, whole}
use Rattle.ycbcr_weights.specs.Rgb.{Bytes, blue_at, green_at, pixel, red_at, rgb_of}
use Rattle.ycbcr_luma.specs.Near.{Balanced, Beside, Near}
use Rattle.ycbcr_luma.specs.Ycbcr.{cb_at, cr_at, luma_at, lumas, ycbcr_of}

-- balanced weights have some green
balanced_lawful : (w : Weights) → Balanced w → Lawful w
balanced_lawful w s = by (eq-zero-or-pos w.kg)
  where
    by : (w.kg ≡ 0) ⊎ (0 < w.kg) → 0 < w.kg
    by (inl e) = let h = s.green in absurd (omega (arith, ap (λ (x : ℕ). x * whole w) e))
    by (inr h) = h

-- each exact fraction lies within 0 and 255 1/2, so that holding costs nothing
module _ (w : Weights) (l : Lawful w) (p : Pixel) (b : Bytes p) where
  by-r : w.kr * p.c0 ≤ w.kr * 255
  by-r = mul-le-mul_left w.kr b.first

  by-g : w.kg * p.c1 ≤ w.kg * 255
  by-g = mul-le-mul_left w.kg b.second

  by-b : w.kb * p.c2 ≤ w.kb * 255
  by-b = mul-le-mul_left w.kb b.third

  luma-half : Half (luma_at w p) (byte_of (luma_at w p))
  luma-half = byte-half (luma_at w p) (omega arith) (omega arith) (omega (arith, by-r, by-g, by-b))

  cb-half : Half (cb_at w p) (byte_of (cb_at w p))
  cb-half = byte-half (cb_at w p) (omega arith) (omega (arith, by-r, by-g)) (omega (arith, mul-le-mul_left w.kr b.third, mul-le-mul_left w.kg b.third))

  cr-half : Half (cr_at w p) (byte_of (cr_at w p))
  cr-half = byte-half (cr_at w p) (omega arith) (omega (arith, by-g, by-b)) (omega (arith, mul-le-mul_left w.kg b.first, mul-le-mul_left w.kb b.first))

-- green's sum, with N, Cb's and Cr's factors d and e, and the lumas m as numbers of their own: the three errors times kg, kb and kr
module _ (kr kg kb n d e m r g b y u v : ℕ)
    (is : kg * m + kb * m + kr * m ≡ kg * (n * g) + kb * (n * b) + kr * (n * r))
    (few : kg * n + kb * d + kr * e < 3 * (kg * n)) where
  green-low :
      2 * m ≤ 2 * (n * y) + 2 * 0 + n → 2 * (d * u) + 2 * m ≤ 2 * (d * 128 + n * b) + d → 2 * (e * v) + 2 * m ≤ 2 * (e * 128 + n * r) + e →
      2 * (kg * n * g) + 2 * (kb * d * u + kr * e * v) ≤ 2 * (kg * n * y + (kb * d + kr * e) * 128) + 3 * (kg * n)
  green-low hy hb hr = omega (arith, mul-le-mul_left kg hy, mul-le-mul_left kb hb, mul-le-mul_left kr hr)

  green-high :
      2 * (n * y) + 2 * 0 ≤ 2 * m + n → 2 * (d * 128 + n * b) ≤ 2 * (d * u) + 2 * m + d → 2 * (e * 128 + n * r) ≤ 2 * (e * v) + 2 * m + e →
      2 * (kg * n * y + (kb * d + kr * e) * 128) < 2 * (kg * n * g) + 2 * (kb * d * u + kr * e * v) + 3 * (kg * n)
  green-high hy hb hr = omega (arith, mul-le-mul_left kg hy, mul-le-mul_left kb hb, mul-le-mul_left kr hr)

-- back from any Y, Cb and Cr that lie within a half of the exact ones
module _ (w : Weights) (s : Balanced w) (p : Pixel) (b : Bytes p) (q : Pixel) (hy : Half (luma_at w p) q.c1) where
  -- the errors of N Y and of red_factor (Cr - 128), each doubled, come to at most N + red_factor, less than 3N
  red-back : Half (cr_at w p) q.c2 → Beside p.c0 (byte_of (red_at w q))
  red-back hr = let k = s.red in byte_one (red_at w q) (omega arith) p.c0 b.first (omega arith) (omega arith)

  blue-back : Half (cb_at w p) q.c0 → Beside p.c2 (byte_of (blue_at w q))
  blue-back hb = let k = s.blue in byte_one (blue_at w q) (omega arith) p.c2 b.third (omega arith) (omega arith)

  -- kg lumas - kb (N B - lumas) - kr (N R - lumas) = N kg G, as kr + kg + kb = N
  weighed : w.kg * lumas w p + w.kb * lumas w p + w.kr * lumas w p ≡ w.kg * (whole w * p.c1) + w.kb * (whole w * p.c2) + w.kr * (whole w * p.c0)
  weighed = omega arith

  green-back : Half (cb_at w p) q.c0 → Half (cr_at w p) q.c2 → Beside p.c1 (byte_of (green_at w q))
  green-back hb hr =
      let k = s.green in
      let few : w.kg * whole w + w.kb * blue_factor w + w.kr * red_factor w < 3 * (w.kg * whole w) = omega arith in
      let l = balanced_lawful w s in
      byte_one (green_at w q) (mul-pos l (omega arith)) p.c1 b.second
      (green-low _ _ _ (whole w) (blue_factor w) (red_factor w) (lumas w p) _ _ _ q.c1 q.c0 q.c2 weighed few hy.under hb.above hr.above)
      (green-high _ _ _ (whole w) (blue_factor w) (red_factor w) (lumas w p) _ _ _ q.c1 q.c0 q.c2 weighed few hy.above hb.under hr.under)

pub there_and_back : (w : Weights) → Balanced w → (p : Pixel) → Bytes p → Near p (rgb_of w (ycbcr_of w p))
unfolding rgb_of ycbcr_of
there_and_back w s p b =
    let q = pixel (byte_of (cb_at w p)) (byte_of (luma_at w p)) (byte_of (cr_at w p)) in
    let l = balanced_lawful w s in
    let hy = luma-half w l p b in
    let hb = cb-half w l p b in
    let hr = cr-half w l p b in
    record { first = red-back w s p b q hy hr; second = green-back w s p b q hy hb hr; third = blue-back w s p b q hy hb }

-- both sets are balanced
pub balanced_t871 : Balanced t871
balanced_t871 = record { red = omega arith; blue = omega arith; green = omega arith }

pub balanced_bt709 : Balanced bt709
balanced_bt709 = record { red = omega arith; blue = omega arith; green = omega arith }

pub there_and_back_at_both : (p : Pixel) → Bytes p → Near p (rgb_of t871 (ycbcr_of t871 p)) × Near p (rgb_of bt709 (ycbcr_of bt709 p))
there_and_back_at_both p b = (there_and_back t871 balanced_t871 p b, there_and_back bt709 balanced_bt709 p b)
