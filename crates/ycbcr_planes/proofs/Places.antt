-- What a conversion of each pixel makes of three equally long channels, place by place; its channels are as long.
-- A channel out is one part of f of every row (`Rows`).
use Prim.Native.Nat.{ℕ, ◌<◌}
use mathlib.Core.Path.{◌≡◌, refl, sym, ◌∙◌}
use lib.ListN.{length}
use Rattle.channels.proofs.Rows.{length_part, part_at}
use Rattle.ycbcr_weights.specs.declared.Pixel.{Pixel}
use Rattle.ycbcr_weights.specs.Rgb.{pixel}
use Rattle.ycbcr_planes.specs.Planes.{EquallyLong, Planes, c0_of, c1_of, c2_of, each_pixel, pixel_at}

module _ (f : Pixel → Pixel) (s : Planes) (e : EquallyLong s s) where
  pub each_long : length (each_pixel f s).a ≡ length s.a
  each_long = length_part pixel f s.a s.b s.c e.0 e.1 c0_of

  pub each-equal : EquallyLong (each_pixel f s) (each_pixel f s)
  each-equal =
      let b = length_part pixel f s.a s.b s.c e.0 e.1 c1_of ∙ sym each_long in
      let c = length_part pixel f s.a s.b s.c e.0 e.1 c2_of ∙ sym each_long in
      (b, c, refl, b, c)

  pub each_at : (i : ℕ) → i < length s.a → pixel_at (each_pixel f s) i ≡ f (pixel_at s i)
  each_at i h =
      let at = part_at pixel f s.a s.b s.c e.0 e.1 in
      rw (at c0_of i 0 h, at c1_of i 0 h, at c2_of i 0 h)
