-- The pixels of a portable pixmap (PPM): the bytes of red, green and blue one behind the other. Definitions only.
use Rattle.std.specs.Prelude.{ℕ, List, [], ◌∷◌, length}
use Rattle.notation.specs.Choice.{when◌then◌else◌}
use Rattle.channels.specs.Channels.{zip3}
use Rattle.block_write.specs.Bytes.{joined}
use Rattle.pfm.specs.Samples.{fits_by}

pub record Pixel : Type 0 where
  pub red : ℕ
  pub green : ℕ
  pub blue : ℕ

abbrev pub pixel : ℕ → ℕ → ℕ → Pixel
pixel r g b = record { red = r; green = g; blue = b }

abbrev pub three_bytes : Pixel → List ℕ
three_bytes p = p.red ∷ p.green ∷ p.blue ∷ []

abbrev pub pixels_of : List ℕ → List ℕ → List ℕ → List ℕ
pixels_of r g b = joined three_bytes (zip3 pixel r g b)

-- three bytes a pixel
abbrev pub pixels_left : List ℕ → List ℕ → List ℕ → List ℕ → List ℕ
pixels_left r g b old = when fits_by 3 (length old) (length r) (length g) (length b) then pixels_of r g b else old
