-- The first number of a range of which a test holds: by it a meaning is looked for that a rule describes. Definitions only.
use Rattle.std.specs.Prelude.{ℕ, zero, suc, Bool}
use Rattle.notation.specs.Choice.{when◌then◌else◌}

-- the first of the n numbers from i on of which p holds, and i + n where there is none
unfoldable pub first : (ℕ → Bool) → ℕ → ℕ → ℕ
first p zero i = i
first p (suc n) i = when p i then i else first p n (suc i)
