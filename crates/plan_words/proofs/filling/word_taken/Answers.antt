-- `word_taken` takes a word: the first of a line, or a number's.
-- By its tests; the table is its bytes.
use Rattle.plan_words.specs.Filling.{word_taken}
use Rattle.plan_words.proofs.filling.word_taken.Goals as goal

pub returns-then-not-m : goal.returns-then-not-m
unfolding word_taken
returns-then-not-m c = rw (c.key_taken.ensures, c.number_in-key.ensures, ← c.is_some.ensures, c.if-is_some.false, c.if-not-m.true)
