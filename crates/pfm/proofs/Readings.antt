-- Headers and what they say: good ones, and how others are refused.
-- Both sides of each are computed.
use Prim.Native.Nat.{ℕ}
use mathlib.Core.Path.{◌≡◌, refl}
use mathlib.Core.Bool.{true, false}
use mathlib.Core.List.{List, [], ◌∷◌, ◌++◌}
use Rattle.notation.specs.Text.{ascii}
use Rattle.pfm.specs.Header.{header_of}
use Rattle.pfm.specs.declared.headers.Stage.TheVariants.{Whole, Start, Height, Done, NotPfm, BadSize, BadScale}

-- a line, and what comes behind it
infixr 5 ◌⏎◌
abbrev ◌⏎◌ : List ℕ → List ℕ → List ℕ
l ⏎ s = l ++ (10 ∷ s)

-- of three channels, the lowest byte first; bytes behind it change nothing
pub colour :
    header_of (ascii "PF" ⏎ ascii "3 2" ⏎ ascii "-1.0" ⏎ (70 ∷ 10 ∷ []))
    ≡ record { stage = Done; numbers = record { channels = 3; width = 3; height = 2; little = true; nonzero = true; sized = 7; used = 12 } }
unfolding header_of
colour = refl

-- of one channel, the highest byte first
pub grey :
    header_of (ascii "Pf" ⏎ ascii "2147483647 1" ⏎ ascii "1" ⏎ [])
    ≡ record { stage = Done; numbers = record { channels = 1; width = 2147483647; height = 1; little = false; nonzero = true; sized = 16; used = 18 } }
unfolding header_of
grey = refl

-- lines that end with CR and LF: the header ends behind the last CR, and its LF is a byte of the picture
pub two_bytes_a_line :
    header_of (ascii "PF" ++ (13 ∷ 10 ∷ ascii "3 2" ++ (13 ∷ 10 ∷ ascii "-1.0" ++ (13 ∷ 10 ∷ []))))
    ≡ record { stage = Done; numbers = record { channels = 3; width = 3; height = 2; little = true; nonzero = true; sized = 8; used = 14 } }
unfolding header_of
two_bytes_a_line = refl

-- no PFM; a size of 0, or above 2^31 - 1, or with a sign; a scale that is 0, or no number
pub refused :
    ((header_of (ascii "P6" ⏎ ascii "3 2" ⏎ ascii "255" ⏎ [])).stage ≡ NotPfm)
    × ((header_of (ascii "PFM 3 2 -1.0 ")).stage ≡ NotPfm)
    × ((header_of (ascii "PF" ⏎ ascii "0 2" ⏎ ascii "-1.0" ⏎ [])).stage ≡ BadSize)
    × ((header_of (ascii "PF" ⏎ ascii "3 2147483648" ⏎ ascii "-1.0" ⏎ [])).stage ≡ BadSize)
    × ((header_of (ascii "PF" ⏎ ascii "-3 2" ⏎ ascii "-1.0" ⏎ [])).stage ≡ BadSize)
    × ((header_of (ascii "PF" ⏎ ascii "3 2" ⏎ ascii "-0.0" ⏎ [])).stage ≡ BadScale)
    × ((header_of (ascii "PF" ⏎ ascii "3 2" ⏎ ascii "one" ⏎ [])).stage ≡ BadScale)
unfolding header_of
refused = (refl, refl, refl, refl, refl, refl, refl)

-- a header that ends early stays where it is
pub early :
    ((header_of []).stage ≡ Start) × ((header_of (ascii "PF" ⏎ ascii "3 2")).stage ≡ Height) × ((header_of (ascii "PF" ⏎ ascii "3 2" ⏎ ascii "-1")).stage ≡ Whole)
unfolding header_of
early = (refl, refl, refl)
