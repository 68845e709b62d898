-- The words by which numbers are named, each table in the order of its numbers: those of an encoding's fourteen numbers, and those that begin a
-- line. Definitions only.
use Rattle.std.specs.Prelude.{ℕ, suc, Bool, List, [], ◌∷◌, ◌++◌, ◌==◌}
use Rattle.std.specs.Str.{bytes_eq}
use Rattle.notation.specs.Choice.{when◌then◌else◌}
use Rattle.notation.specs.Text.{ascii}

-- whether two words are the same, byte by byte
abbrev pub same_word : List ℕ → List ℕ → Bool
same_word = bytes_eq

-- a word's number in a table: how many words stand before it; of a word that is not there, how many stand in the table
abbrev pub place_in : List (List ℕ) → List ℕ → ℕ
place_in [] w = 0
place_in (t ∷ ts) w = when same_word w t then 0 else suc (place_in ts w)

-- the words of a text in which a space stands behind each; `w` is what of the first one was read
abbrev pub words_from : List ℕ → List ℕ → List (List ℕ)
words_from w [] = []
words_from w (c ∷ s) = when c == 32 then w ∷ words_from [] s else words_from (w ++ (c ∷ [])) s

unfoldable pub number_in : List ℕ → List ℕ → ℕ
number_in table w = place_in (words_from [] table) w

abbrev pub spaces : List ℕ
spaces = ascii "Rgb Grey Xyb Unknown Icc "

abbrev pub whites : List ℕ
whites = ascii "D65 E Dci Custom "

abbrev pub primaries : List ℕ
primaries = ascii "Srgb Bt2100 P3 Custom "

abbrev pub curves : List ℕ
curves = ascii "Gamma GammaInverted Bt709 Unknown Linear Srgb Pq Dci Hlg "

abbrev pub intents : List ℕ
intents = ascii "Perceptual Relative Saturation Absolute "

-- what begins a line
abbrev pub keys : List ℕ
keys = ascii "source target intensity min_nits version detect_peak from_pq "
