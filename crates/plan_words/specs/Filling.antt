-- How words fill numbers, line by line. A line `source` or `target` has an encoding's fourteen numbers in their order: a word of its table for each, and whole
-- numbers for points, in millionths, and for `g`. "Points are read only where Custom, `g` where the curve is a Gamma", and nothing behind `Icc`. The
-- lines `intensity`, `min_nits` (in millionths) and `version` have one whole number, `detect_peak` and `from_pq` none. Definitions only.
use Rattle.std.specs.Prelude.{ℕ, ◌+◌, ◌-◌, Bool, true, false, not, ◌&&◌, List, [], ◌∷◌, ◌++◌, length, replicate, ◌==◌, nat_le, nat_lt, slice_get, slice_index_or, slice_range, slice_set, Option, None, Some, is_some, is_none}
use Rattle.notation.specs.Choice.{when◌then◌else◌}
use Rattle.plan_words.specs.Words.{number_in, spaces, whites, primaries, curves, intents, keys}
use Rattle.plan_words.specs.Decimal.{whole}
use Rattle.plan_words.specs.declared.filling.Filling.{Filling}

-- the numbers: 0 to 13 the source's, 14 to 27 the target's, then intensity, min_nits, version, detect_peak and from_pq; none is given, or waited for
abbrev pub begun : Filling
begun = record { numbers = replicate 33 None; next = None; inside = false; fault = None }

-- what is not understood: the first word that is not, by the place of its first byte, or the place where a word is missing
abbrev pub faulty : Filling → ℕ → Filling
faulty m at = record { numbers = m.numbers; next = m.next; inside = m.inside; fault = Some at }

-- the place of a number in its encoding
abbrev pub field_of : ℕ → ℕ
field_of n = when nat_lt n 14 then n else n - 14

-- a word of a table of so many
abbrev pub named : ℕ → ℕ → Option ℕ
named count n = when nat_lt n count then Some n else None

-- the number that a word stands for at a place
unfoldable pub number_at : ℕ → List ℕ → Option ℕ
number_at n w =
    when nat_le 28 n then whole w
    else when field_of n == 0 then named 5 (number_in spaces w)
    else when field_of n == 1 then named 4 (number_in whites w)
    else when field_of n == 4 then named 4 (number_in primaries w)
    else when field_of n == 11 then named 9 (number_in curves w)
    else when field_of n == 13 then named 4 (number_in intents w)
    else whole w

-- how many places on the next number of an encoding stands, behind a field whose number is v: "Points are read only where Custom, `g` where the curve
-- is a Gamma"
abbrev pub stride_of : ℕ → ℕ → ℕ
stride_of field v =
    when field == 1 then when v == 3 then 1 else 3
    else when field == 4 then when v == 3 then 1 else 7
    else when field == 11 then when nat_le v 1 then 1 else 2
    else 1

-- the place of the number behind it; behind an intent, an ICC profile and each of the settings there is none
unfoldable pub behind : ℕ → ℕ → Option ℕ
behind n v =
    when nat_le 28 n then None
    else when field_of n == 13 then None
    else when field_of n == 0 && v == 4 then None
    else Some (n + stride_of (field_of n) v)

-- where a line's numbers begin
abbrev pub start_of : ℕ → Option ℕ
start_of key = slice_get (0 ∷ 14 ∷ 28 ∷ 29 ∷ 30 ∷ 31 ∷ 32 ∷ []) key

-- the first word of a line, which no line before had; `detect_peak` and `from_pq` are on where they stand
abbrev pub line_begun : Filling → ℕ → ℕ → Option ℕ → Filling
line_begun m at key None = faulty m at
line_begun m at key (Some start) =
    when is_some (slice_index_or m.numbers start None) then faulty m at
    else when nat_le 5 key then record { numbers = slice_set m.numbers start (Some 1); next = None; inside = true; fault = None }
    else record { numbers = m.numbers; next = Some start; inside = true; fault = None }

abbrev pub key_taken : Filling → ℕ → ℕ → Filling
key_taken m at key = line_begun m at key (start_of key)

-- the number that stands at a place
abbrev pub number_taken : Filling → ℕ → ℕ → Option ℕ → Filling
number_taken m at place None = faulty m at
number_taken m at place (Some v) = record { numbers = slice_set m.numbers place (Some v); next = behind place v; inside = true; fault = None }

-- the word of a number that is waited for, or of none
abbrev pub word_at : Filling → ℕ → List ℕ → Option ℕ → Filling
word_at m at w None = faulty m at
word_at m at w (Some place) = when nat_lt place 33 then number_taken m at place (number_at place w) else faulty m at

-- a word that begins at this place
unfoldable pub word_taken : Filling → ℕ → List ℕ → Filling
word_taken m at w =
    when is_some m.fault then m
    else when not m.inside then key_taken m at (number_in keys w)
    else word_at m at w m.next

-- the end of a line, at this place: no number is waited for
unfoldable pub line_ended : Filling → ℕ → Filling
line_ended m at =
    when is_some m.fault then m
    else when is_some m.next then faulty m at
    else record { numbers = m.numbers; next = None; inside = false; fault = None }

-- the end of the text: both encodings were given
unfoldable pub ended : Filling → ℕ → Filling
ended m at =
    when is_some m.fault then m
    else when is_none (slice_index_or m.numbers 0 None) then faulty m at
    else when is_none (slice_index_or m.numbers 14 None) then faulty m at
    else m

-- the bytes from one place up to another
abbrev pub slice : ℕ → ℕ → List ℕ → List ℕ
slice start end s = slice_range s start end

-- what was read of a word, up to this place
abbrev pub up_to : Filling → ℕ → List ℕ → Filling
up_to m at [] = m
up_to m at (c ∷ w) = word_taken m (at - length (c ∷ w)) (c ∷ w)

-- a space, and what is below it
abbrev pub is_blank : ℕ → Bool
is_blank c = nat_le c 32

-- what a byte leaves of a word
abbrev pub word_by : List ℕ → ℕ → List ℕ
word_by w c = when is_blank c then [] else w ++ (c ∷ [])

-- and what it makes of the numbers: a line feed ends a word and a line, another blank a word
abbrev pub filling_by : Filling → ℕ → List ℕ → ℕ → Filling
filling_by m at w c =
    when not (is_blank c) then m
    else when c == 10 then line_ended (up_to m at w) at
    else up_to m at w

-- byte after byte, from this place on
abbrev pub filled_from : Filling → ℕ → List ℕ → List ℕ → Filling
filled_from m at w [] = ended (line_ended (up_to m at w) at) at
filled_from m at w (c ∷ s) = filled_from (filling_by m at w c) (at + 1) (word_by w c) s

unfoldable pub filled_of : List ℕ → Filling
filled_of s = filled_from begun 0 [] s
