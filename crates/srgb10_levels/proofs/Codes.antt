-- Whether a code of a list is above 1023: then some code is, and else each is a code.
-- By induction on the list.
use mathlib.Core.Path.{◌≡◌}
use mathlib.Core.Bool.{false, true}
use mathlib.Core.Logic.{◌↔◌}
use mathlib.Core.List.{List, [], ◌∷◌}
use Prim.Native.Nat.{ℕ, zero, suc, ◌<◌, ◌≤◌}
use native.Mathlib.Omega.{arith}
use borrow.Author.Tests.{lt-ltb, ltb-false, ltb-true}
use lib.ListN.{get_or, length}
use Rattle.notation.specs.Several.{any, Some}
use Rattle.notation.proofs.Several.{any_exactly, neither}
use Rattle.srgb10_levels.specs.Levelling.{is_above}
use Rattle.srgb10_levels.specs.Refusals.{Above}

-- where none is above 1023, each is a code
pub is_code : (s : List ℕ) → any is_above s ≡ false → (i : ℕ) → i < length s → get_or s i 0 ≤ 1023
is_code [] e i h = absurd (omega arith)
is_code (c ∷ s) e zero h = ltb-false 1023 c (neither (is_above c) (any is_above s) e).0
is_code (c ∷ s) e (suc i) h = is_code s (neither (is_above c) (any is_above s) e).1 i (omega arith)

-- the test holds exactly where some code is above 1023
pub above-exactly : (s : List ℕ) → (any is_above s ≡ true) ↔ Some Above s
above-exactly s = any_exactly (λ c. (ltb-true 1023 c, lt-ltb 1023 c)) s
