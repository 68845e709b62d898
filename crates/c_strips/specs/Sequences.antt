-- Strips one after the other, each on the words that the one before left: the words at the end, and the samples that are left. Definitions only.
use Rattle.std.specs.Prelude.{ℕ, List, [], ◌∷◌}
use Rattle.channels.specs.Channels.{Channels}
use Rattle.c_strips.specs.BlockStrips.{strip_words, strip_left}

abbrev pub words_all : List ℕ → List ℕ → List Channels → List ℕ
words_all bytes words [] = words
words_all bytes words (s ∷ ss) = words_all bytes (strip_words bytes words s) ss

abbrev pub left_all : List ℕ → List ℕ → List Channels → List Channels
left_all bytes words [] = []
left_all bytes words (s ∷ ss) = strip_left bytes words s ∷ left_all bytes (strip_words bytes words s) ss
