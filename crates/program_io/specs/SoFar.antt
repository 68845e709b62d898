-- A program's input, as far as it came.
use Rattle.std.specs.Prelude.{ℕ, List}

-- the bytes that were passed, and those behind them, which are held
pub record SoFar : Type 0 where
  pub passed : List ℕ
  pub held : List ℕ
