-- BT.709 has no tie: neither red, nor green, nor blue of any pixel lies half way between two whole numbers.
-- Each would leave chroma 128 + h by 2h, with h above 255; for green Cb + Cr is 256 first, since both factors leave 217 by 894.
use Prim.Native.Nat.{ℕ, ◌+◌, ◌*◌, ◌≤◌, ◌<◌}
use mathlib.Core.Path.{◌≡◌, ap}
use native.Mathlib.Omega.{arith}
use Rattle.nearest.specs.Nearest.{Tie}
use Rattle.ycbcr_weights.specs.declared.Pixel.{Pixel}
use Rattle.ycbcr_weights.specs.Weights.{bt709}
use Rattle.ycbcr_weights.specs.Rgb.{Bytes, red_at, green_at, blue_at}
use Rattle.ycbcr_weights.proofs.Ties.{remainder}

-- f (c - 128) is no odd multiple of h, where 2l + 1 is f's inverse by 2h
no_half : (h f l j c a b : ℕ) → (2 * l + 1) * f ≡ 1 + 2 * h * j → 255 < h → c ≤ 255 → f * c + 2 * h * a ≡ f * 128 + h + 2 * h * b → ⊥
no_half h f l j c a b inverse high byte e =
    let times = ap (λ (z : ℕ). (2 * l + 1) * z) e in
    let ones = ap (λ (z : ℕ). z * c) inverse in
    let is : c ≡ 128 + h = remainder (2 * h) c (128 + h) (j * c + (2 * l + 1) * a) (j * 128 + l + (2 * l + 1) * b) (omega arith) (omega arith) (omega arith) in
    omega arith

module _ (p : Pixel) (b : Bytes p) where
  pub red-never : ¬ Tie (red_at bt709 p)
  red-never t =
      let e = t.half in
      no_half 1250 3937 1186 3737 p.c2 (p.c1 + t.m) t.n (omega arith) (omega arith) b.third (omega arith)

  pub blue-never : ¬ Tie (blue_at bt709 p)
  blue-never t =
      let e = t.half in
      no_half 1250 4639 879 3264 p.c0 (p.c1 + t.m) t.n (omega arith) (omega arith) b.first (omega arith)

  pub green-never : ¬ Tie (green_at bt709 p)
  green-never t =
      let e = t.half in
      let x = b.first in
      let z = b.third in
      let sum : p.c0 + p.c2 ≡ 256 = remainder 894 (p.c0 + p.c2) 256 (192944 * p.c0 + 482168 * p.c2 + 1030000 * t.n + 515000) (1030000 * (p.c1 + t.m) + 86414336) (omega arith) (omega arith) (omega arith) in
      no_half 625 351 450 253 p.c0 (p.c1 + t.m) t.n (omega arith) (omega arith) x (omega arith)
