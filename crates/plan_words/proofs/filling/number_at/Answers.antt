-- `number_at` is the number that a word stands for at a place.
-- By the place; the table is its bytes.
use borrow.Author.Tests.{lt-leb}
use Rattle.plan_words.specs.Filling.{number_at}
use Rattle.plan_words.proofs.filling.number_at.Goals as goal

pub returns-in-1 : goal.returns-in-1
unfolding number_at
returns-in-1 c = rw (c.named-in-1.ensures, c.number_in-in-1.ensures, lt-leb _ _ c.if-n-ge28.false, ← c.field_of-field.ensures, c.in-1.is)
