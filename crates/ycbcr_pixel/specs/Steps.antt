-- What one step of green's code ensures. Relations only.
use Rattle.std.specs.Prelude.{ℕ, ◌+◌, ◌*◌, ◌/◌, ◌≤◌, ◌≡◌}

-- a digit of A and one of B times a byte each, with c, and seven bits less
pub record Row (a b c u v r : ℕ) : Type 0 where
  pub is : r ≡ (a * u + b * v + c) / 128
  pub small : r ≤ 511
