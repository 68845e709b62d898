-- `word_of` is the word of its line at a place.
-- What is left to count, from where the loop is, gives what the whole does.
use Rattle.std.proofs.Common.{◌≡◌, ◌≤◌, false, drop}
use Rattle.plan_words.specs.Places.{words_begun}
use Rattle.plan_words.proofs.places.word_of.Given as goal

abbrev pub invariant-loop-c : goal.invariant-loop-c
invariant-loop-c l = (words_begun l.n l.inside (drop l.c-index l.c-items) ≡ words_begun 0 false l.c-items) × (l.n ≤ l.c-index)
