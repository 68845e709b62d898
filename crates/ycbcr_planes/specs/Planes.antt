-- "Three lent byte channels in, in the float entry's order, and three out as R, G, B. Refusals: 4 for unequal lengths" (02, W5). Definitions only.
use Rattle.std.specs.Prelude.{ℕ, ◌≡◌, Bool, ◌&&◌, List, map, eqb, get_or, length}
use Rattle.channels.specs.Channels.{zip3}
use Rattle.ycbcr_weights.specs.Rgb.{pixel}
use Rattle.ycbcr_weights.specs.declared.Pixel.{Pixel}

-- three byte channels
pub record Planes : Type 0 where
  pub a : List ℕ
  pub b : List ℕ
  pub c : List ℕ

abbrev pub planes : List ℕ → List ℕ → List ℕ → Planes
planes a b c = record { a = a; b = b; c = c }

-- whether three in and three out are equally long: the test, and in words
abbrev pub same_lengths : ℕ → ℕ → ℕ → ℕ → ℕ → ℕ → Bool
same_lengths a b c d e f = eqb a b && (eqb a c && (eqb a d && (eqb a e && eqb a f)))

abbrev pub equally_long : Planes → Planes → Bool
equally_long s t = same_lengths (length s.a) (length s.b) (length s.c) (length t.a) (length t.b) (length t.c)

abbrev pub EquallyLong : Planes → Planes → Type 0
EquallyLong s t =
    (length s.b ≡ length s.a) × (length s.c ≡ length s.a) × (length t.a ≡ length s.a) × (length t.b ≡ length s.a) × (length t.c ≡ length s.a)

abbrev pub c0_of : Pixel → ℕ
c0_of p = p.c0

abbrev pub c1_of : Pixel → ℕ
c1_of p = p.c1

abbrev pub c2_of : Pixel → ℕ
c2_of p = p.c2

-- each pixel by f
abbrev pub each_pixel : (Pixel → Pixel) → Planes → Planes
each_pixel f s =
    let ps = map f (zip3 pixel s.a s.b s.c) in
    planes (map c0_of ps) (map c1_of ps) (map c2_of ps)

-- the pixel at a place
abbrev pub pixel_at : Planes → ℕ → Pixel
pixel_at s i = pixel (get_or s.a i 0) (get_or s.b i 0) (get_or s.c i 0)
