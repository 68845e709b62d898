-- The step of a carried op answers 0, with the width that the op gives, exactly where the lent channels are equally long, and 4 exactly where
-- they are not; then it changes nothing. `step_of` and `where_equal` choose by the test of the lengths.
use Prim.Native.Nat.{ℕ}
use Rattle.std.specs.Prelude.{Ok, Err}
use mathlib.Core.Path.{◌≡◌}
use mathlib.Core.Logic.{◌↔◌}
use native.Mathlib.Omega.{arith}
use Rattle.notation.specs.Answers.{answer}
use Rattle.notation.proofs.Tests.{fails_exactly}
use Rattle.channels.specs.Channels.{Channels, EquallyLong, equally_long, where_equal}
use Rattle.channels.specs.Stepping.{paper, step_of, unequal}
use Rattle.channels.proofs.Choosing.{first-exactly, second-exactly}
use Rattle.channels.proofs.Lengths.{equal_exactly}

module _ (w : ℕ) (s : Channels) where
  pub zero-exactly : (paper (step_of w s) ≡ answer 0 0 w) ↔ EquallyLong s
  zero-exactly = first-exactly paper (Ok w) (Err unequal) (omega arith) (equally_long s) (equal_exactly s)

  pub four-exactly : (paper (step_of w s) ≡ answer 4 0 0) ↔ (¬ EquallyLong s)
  four-exactly = second-exactly paper (Ok w) (Err unequal) (omega arith) (equally_long s) (equal_exactly s)

-- of steps and of conversions
pub refused-changes_nothing : (f : Channels → Channels) (s : Channels) → ¬ EquallyLong s → where_equal f s ≡ s
refused-changes_nothing f s n = rw ((fails_exactly (equal_exactly s)).1 n)
