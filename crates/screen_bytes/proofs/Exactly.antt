-- The conversion to screen bytes answers 0 exactly where there are as many bytes as samples, and 4 exactly where there are not; then it
-- changes nothing. `showing_of` and `shown_of` choose by that test.
use Prim.Native.Nat.{ℕ}
use mathlib.Core.Path.{◌≡◌}
use mathlib.Core.Bool.{true}
use mathlib.Core.Logic.{◌↔◌}
use mathlib.Core.List.{List}
use native.Mathlib.Omega.{arith}
use borrow.Author.Tests.{eq-eqb, eqb-true, ne_eqb}
use lib.Ieee.{Float}
use lib.ListN.{length}
use Rattle.std.specs.Prelude.{Ok, Err}
use Rattle.notation.specs.Answers.{answer}
use Rattle.channels.proofs.Choosing.{first-exactly, second-exactly}
use Rattle.channels.specs.Stepping.{unequal}
use Rattle.screen_bytes.specs.Showing.{as_many, paper, showing_of, shown_of}

module _ (samples : List Float) (bytes : List ℕ) where
  many-exactly : (as_many samples bytes ≡ true) ↔ (length samples ≡ length bytes)
  many-exactly = (eqb-true (length samples) (length bytes), eq-eqb (length samples) (length bytes))

  pub zero-exactly : (paper (showing_of samples bytes) ≡ answer 0 0 0) ↔ (length samples ≡ length bytes)
  zero-exactly = first-exactly paper (Ok tt) (Err unequal) (omega arith) (as_many samples bytes) many-exactly

  pub four-exactly : (paper (showing_of samples bytes) ≡ answer 4 0 0) ↔ (¬ (length samples ≡ length bytes))
  four-exactly = second-exactly paper (Ok tt) (Err unequal) (omega arith) (as_many samples bytes) many-exactly

  pub refused-changes_nothing : ¬ (length samples ≡ length bytes) → shown_of samples bytes ≡ bytes
  refused-changes_nothing n = rw (ne_eqb (length samples) (length bytes) n)
