-- "The output has 2n bytes or 2n-1, for n = 0 none." (02, W13). Definitions and relations only.
use Rattle.std.specs.Prelude.{ℕ, ◌+◌, ◌-◌, ◌*◌, ◌<◌, Bool, ◌||◌, eqb}

-- in words: n bytes widen to m
pub data FitsTwice : ℕ → ℕ → Type 0 where
  two_each : {n : ℕ} → FitsTwice n (2 * n)
  one_less : {n : ℕ} → 0 < n → FitsTwice n (2 * n - 1)

-- whether they do
abbrev pub fits_twice : ℕ → ℕ → Bool
fits_twice n m = eqb m (2 * n) || eqb (m + 1) (2 * n)
