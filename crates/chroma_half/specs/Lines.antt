-- A line of bytes by an index rule. Definitions only.
use Rattle.std.specs.Prelude.{ℕ, zero, suc, ◌≤◌, List, [], ◌∷◌, get_or}

-- the n bytes at 0, at 1, and so on
abbrev pub line : ℕ → (ℕ → ℕ) → List ℕ
line zero at = []
line (suc n) at = at 0 ∷ line n (λ i. at (suc i))

-- no number of the line is above 255
abbrev pub ByteLine : List ℕ → Type 0
ByteLine c = (i : ℕ) → get_or c i 0 ≤ 255
