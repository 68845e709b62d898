-- What the conversion to screen bytes answers and leaves; it names no width. "4 | run or conversion: lent lengths unequal | no buffer changed"
-- (01, Refusal numbers). Definitions only.
use Rattle.std.specs.Prelude.{ℕ, Bool, List, map, eqb, Float, length, Result, Ok, Err, ⊤}
use Rattle.notation.specs.Choice.{when◌then◌else◌}
use Rattle.notation.specs.Answers.{answer}
use Rattle.notation.specs.declared.Answer.{Answer}
use Rattle.channels.specs.Stepping.{unequal}
use Rattle.channels.specs.declared.Unequal.{Unequal}
use Rattle.screen_bytes.specs.Screen.{screen_byte}

-- done, or that there are not as many bytes as samples
abbrev pub Showing : Type 0
Showing = Result ⊤ Unequal

abbrev pub paper : Showing → Answer
paper (Ok done) = answer 0 0 0
paper (Err e) = answer 4 0 0

-- "a conversion from a lent slice of samples to a lent slice of as many bytes" (01, Samples)
abbrev pub as_many : List Float → List ℕ → Bool
as_many samples bytes = eqb (length samples) (length bytes)

abbrev pub showing_of : List Float → List ℕ → Showing
showing_of samples bytes = when as_many samples bytes then Ok tt else Err unequal

abbrev pub shown_of : List Float → List ℕ → List ℕ
shown_of samples bytes = when as_many samples bytes then map screen_byte samples else bytes
