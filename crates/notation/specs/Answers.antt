-- What an entry answers: "Success is 0. A position not named is 0." (01, Refusal numbers), and so of a width. Definitions only.
-- Where an answer is an enum, `paper` of its crate gives this for each of its cases.
use Rattle.std.specs.Prelude.{ℕ, ◌≡◌}
use Rattle.notation.specs.declared.Answer.{Answer}

abbrev pub answer : ℕ → ℕ → ℕ → Answer
answer number position width = record { number = number; position = position; width = width }

-- the same verdict and end width: "The verdict is pass or not; the position in a 5 may move." (01, Planning)
abbrev pub Alike : Answer → Answer → Type 0
Alike a b = (a.number ≡ b.number) × (a.width ≡ b.width)
