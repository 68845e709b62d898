-- Which versions there are, how long the head of each is, and when the end width that a block tells is false.
-- By comparing the version with 1 and with 2.
use Prim.Native.Nat.{ℕ, ◌≤◌}
use mathlib.Core.Path.{◌≡◌, refl}
use mathlib.Core.Bool.{Bool, true, false, not, ◌&&◌}
use mathlib.Core.Logic.{◌↔◌}
use native.Mathlib.Omega.{arith}
use borrow.Author.Tests.{eqb-true, eqb-false}
use lib.Dec.{eqb}
use Rattle.notation.specs.Choice.{when◌then◌else◌}
use Rattle.notation.proofs.Deciding.{exactly, numbers}
use Rattle.notation.proofs.Tests.{fails_exactly, negated, both-exactly, either-exactly}
use Rattle.block_read.specs.Block.{known_version, head_of}
use Rattle.block_read.specs.Refusals.{Known}

module _ (v : ℕ) where
  pub known_exactly : (known_version v ≡ true) ↔ Known v
  known_exactly = either-exactly (exactly numbers v 1) (exactly numbers v 2)

  pub head-within : (7 ≤ head_of v) × (head_of v ≤ 8)
  head-within = by (eqb v 2)
    where
      by : (b : Bool) → (7 ≤ (when b then 8 else 7)) × ((when b then 8 else 7) ≤ 8)
      by true = (omega arith, omega arith)
      by false = (omega arith, omega arith)

  pub eight : v ≡ 2 → head_of v ≡ 8
  eight e = rw e

  pub false-exactly : (told end : ℕ) → ((eqb v 2 && not (eqb told end)) ≡ true) ↔ ((v ≡ 2) × (¬ (told ≡ end)))
  false-exactly told end = both-exactly (exactly numbers v 2) (negated (fails_exactly (exactly numbers told end)))

  -- an end width that version 2 tells, and not falsely
  pub truly-told : (told end : ℕ) → ¬ ((v ≡ 2) × (¬ (told ≡ end))) → v ≡ 2 → told ≡ end
  truly-told told end n e = by (eqb told end) refl
    where
      by : (b : Bool) → eqb told end ≡ b → told ≡ end
      by true q = eqb-true told end q
      by false q = absurd (n (e, eqb-false told end q))
