-- Where in a text a place stands: its line, and its word of that line, both counted from 1. Definitions only.
use Rattle.std.specs.Prelude.{ℕ, ◌+◌, Bool, false, not, List, [], ◌∷◌, take, count_by, ◌==◌}
use Rattle.notation.specs.Choice.{when◌then◌else◌}
use Rattle.plan_words.specs.Filling.{is_blank}

-- how many line feeds there are
abbrev pub line_feeds : List ℕ → ℕ
line_feeds s = count_by (λ c. c == 10) s

-- 1 and the number of line feeds before the place
unfoldable pub line_of : List ℕ → ℕ → ℕ
line_of s place = line_feeds (take place s) + 1

-- a byte behind so many words of a line: a word, a run of bytes above 32, begins where none goes on
abbrev pub words_by : ℕ → Bool → ℕ → ℕ
words_by n inside c =
    when c == 10 then 0
    else when is_blank c then n
    else when inside then n
    else n + 1

-- how many words of the last line begin in these bytes, and so many before them; whether one goes on
abbrev pub words_begun : ℕ → Bool → List ℕ → ℕ
words_begun n inside [] = n
words_begun n inside (c ∷ s) = words_begun (words_by n inside c) (not (is_blank c)) s

-- 1 and the number of words of that line that begin before the place
unfoldable pub word_of : List ℕ → ℕ → ℕ
word_of s place = words_begun 0 false (take place s) + 1
