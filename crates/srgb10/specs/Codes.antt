-- The level of a code, and "the way back: the code whose entry is nearest, the lower one on a tie" (02, W9). Definitions and relations only.
use Rattle.std.specs.Prelude.{Bool, true, ◌&&◌, ℕ, zero, suc, ◌+◌, ◌-◌, ◌≤◌, ◌<◌, leb}
use Rattle.notation.specs.Choice.{when◌then◌else◌}
use Rattle.notation.specs.First.{first}
use Rattle.srgb10.specs.Curve.{near}

-- The level of a code, looked for among all levels; "a single such code gives level 0", of one above 1023.
-- That it is the one level of the rule is `proofs/Levels.antt: level-exactly`.
unfoldable pub level_of : ℕ → ℕ
level_of c = when leb c 1023 then first (near c) 65536 0 else 0

-- how far two levels are apart: ℕ's `-` stops at 0, so one difference is 0
abbrev pub apart : ℕ → ℕ → ℕ
apart a b = (a - b) + (b - a)

-- r is the code whose entry is nearest the level v: no other code's entry is nearer, and none below r is as near
pub record Nearest (v r : ℕ) : Type 0 where
  pub is_code : r ≤ 1023
  pub none_nearer : (c : ℕ) → c ≤ 1023 → apart (level_of r) v ≤ apart (level_of c) v
  pub none_below : (c : ℕ) → c < r → apart (level_of r) v < apart (level_of c) v

-- whether a test holds of each number below n
unfoldable pub every : ℕ → (ℕ → Bool) → Bool
every zero p = true
every (suc n) p = p n && every n p

-- whether no code's entry is nearer v than that of r
abbrev pub none_nearer : ℕ → ℕ → Bool
none_nearer v r = every 1024 (λ c. leb (apart (level_of r) v) (apart (level_of c) v))

-- The code of a level, looked for among all codes, the lowest first. That it is the nearest is `proofs/Back.antt: nearest-exactly`.
unfoldable pub code_of : ℕ → ℕ
code_of v = first (none_nearer v) 1024 0
