-- Texts and what they give: the numbers of a good one, the place of what is not understood in others, numbers as words, and where a place stands.
-- Both sides of each are computed.
use Rattle.std.proofs.Common.{◌≡◌, ℕ, ◌+◌, false, List, [], ◌∷◌, ◌++◌, ℤ, pos, negsuc, refl, Option, None, Some}
use Rattle.notation.specs.Text.{ascii}
use Rattle.plan_words.specs.Words.{number_in}
use Rattle.plan_words.specs.Decimal.{signed, whole}
use Rattle.plan_words.specs.Filling.{behind, ended, filled_of, line_ended, number_at, word_taken}
use Rattle.plan_words.specs.Wanted.{side_at}
use Rattle.plan_words.specs.Places.{line_of, word_of}

-- a line, and those behind it
infixr 5 ◌⏎◌
abbrev ◌⏎◌ : List ℕ → List ℕ → List ℕ
l ⏎ s = l ++ (10 ∷ s)

abbrev good : List ℕ
good =
    ascii "source Rgb D65 Srgb Linear Relative"
    ⏎ ascii "target Grey Custom 312700 329000 Srgb Gamma 4545454 Perceptual"
    ⏎ ascii "intensity 255"
    ⏎ ascii "min_nits 0"
    ⏎ ascii "version 2"
    ⏎ ascii "detect_peak"
    ⏎ ascii "from_pq"

abbrev is : ℕ → Option ℕ
is n = Some n

abbrev no : Option ℕ
no = None

abbrev numbers : List (Option ℕ)
numbers =
    is 0 ∷ is 0 ∷ no ∷ no ∷ is 0 ∷ no ∷ no ∷ no ∷ no ∷ no ∷ no ∷ is 4 ∷ no ∷ is 1
    ∷ is 1 ∷ is 3 ∷ is 312_700 ∷ is 329_000 ∷ is 0 ∷ no ∷ no ∷ no ∷ no ∷ no ∷ no ∷ is 0 ∷ is 4_545_454 ∷ is 0
    ∷ is 255 ∷ is 0 ∷ is 2 ∷ is 1 ∷ is 1 ∷ []

pub a_good_one : filled_of good ≡ record { numbers = numbers; next = None; inside = false; fault = None }
unfolding filled_of ended line_ended word_taken behind number_at number_in
a_good_one = refl

-- its target, in which a number that no word gave stands below all that words can give
abbrev absent : ℤ
absent = negsuc 2_147_483_646

pub its_target :
    side_at 14 numbers
    ≡ pos 1 ∷ pos 3 ∷ pos 312_700 ∷ pos 329_000 ∷ pos 0 ∷ absent ∷ absent ∷ absent ∷ absent ∷ absent ∷ absent ∷ pos 0 ∷ pos 4_545_454 ∷ pos 0 ∷ []
its_target = refl

-- not understood, by this place
abbrev Fault : List ℕ → ℕ → Type 0
Fault s at = (filled_of s).fault ≡ Some at

-- an unknown word; a line without its last word; a second source; a word too many; a text without a target
pub faults :
    Fault (ascii "source Rgb D66 Srgb") 11
    × Fault (ascii "target Grey D65 Srgb Linear" ⏎ ascii "source Icc") 27
    × Fault (ascii "source Icc" ⏎ ascii "target Icc" ⏎ ascii "source Icc") 22
    × Fault (ascii "source Icc" ⏎ ascii "version 1 2") 21
    × Fault (ascii "source Icc") 10
unfolding filled_of ended line_ended word_taken behind number_at number_in
faults = (refl, refl, refl, refl, refl)

pub as_words :
    (whole (ascii "-329000") ≡ Some (0x8000_0000 + 329_000))
    × (signed (0x8000_0000 + 329_000) ≡ negsuc 328_999)
    × (whole (ascii "999999999") ≡ Some 999_999_999)
    × (whole (ascii "1000000000") ≡ None)
    × (whole (ascii "-") ≡ None)
    × (whole (ascii "1e3") ≡ None)
as_words = (refl, refl, refl, refl, refl, refl)

-- the word Custom, and the end of its line
pub stands : (line_of good 48 ≡ 2) × (word_of good 48 ≡ 3) × (line_of good 98 ≡ 2) × (word_of good 98 ≡ 10)
unfolding line_of word_of
stands = (refl, refl, refl, refl)
