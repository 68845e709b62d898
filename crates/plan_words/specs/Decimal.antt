-- A whole number as a word: digits, and a minus before them where it is negative; up to nine digits in size. Definitions only.
use Rattle.std.specs.Prelude.{ℕ, ◌+◌, ◌-◌, ◌*◌, List, [], ◌∷◌, ℤ, pos, neg_ℤ, ◌==◌, nat_lt, Option, None, Some}
use Rattle.notation.specs.Choice.{when◌then◌else◌}

-- n, and the digits that follow
abbrev pub digits_from : ℕ → List ℕ → Option ℕ
digits_from n [] = Some n
digits_from n (c ∷ s) =
    when nat_lt c 48 then None
    else when nat_lt 57 c then None
    else when nat_lt 999_999_999 (10 * n + (c - 48)) then None
    else digits_from (10 * n + (c - 48)) s

-- one at least
abbrev pub digits : List ℕ → Option ℕ
digits [] = None
digits (c ∷ s) = digits_from 0 (c ∷ s)

-- a negative number stands as 2^31 and its size, so that every number is one of u32
abbrev pub negative : Option ℕ → Option ℕ
negative (Some n) = Some (0x8000_0000 + n)
negative None = None

abbrev pub whole : List ℕ → Option ℕ
whole [] = None
whole (c ∷ s) = when c == 45 then negative (digits s) else digits (c ∷ s)

abbrev pub signed : ℕ → ℤ
signed n = when nat_lt n 0x8000_0000 then pos n else neg_ℤ (pos (n - 0x8000_0000))
