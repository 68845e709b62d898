-- Each answer is given exactly when W9 says, in the order 4, 14; a refusal writes nothing, and else each code has its level.
-- One answer is given, the first in the order whose cause holds: by the values of the two tests.
use Prim.Native.Nat.{ℕ}
use mathlib.Core.Path.{◌≡◌, refl, ap, subst, sym, ◌∙◌}
use mathlib.Core.Bool.{Bool, true, false, not}
use mathlib.Core.Logic.{◌↔◌}
use mathlib.Core.List.{List}
use native.Mathlib.Omega.{arith}
use borrow.Author.Tests.{eq-eqb, eqb-true}
use lib.Dec.{eqb}
use lib.Ieee.{Float}
use lib.ListN.{length}
use Rattle.std.specs.Prelude.{Ok, Err}
use Rattle.notation.specs.Answers.{answer}
use Rattle.notation.specs.Choice.{when◌then◌else◌}
use Rattle.notation.specs.Order.{none, this, later}
use Rattle.notation.specs.Several.{any, Some}
use Rattle.notation.specs.declared.Answer.{Answer}
use Rattle.notation.proofs.Order.{caused, one-given, passed}
use Rattle.notation.proofs.Tests.{fails_exactly}
use Rattle.srgb10_levels.specs.Levelling.{Levelling, is_above, as_many, left_by, left_of, levelling_of, paper}
use Rattle.srgb10_levels.specs.Refusals.{Above, Given}
use Rattle.srgb10_levels.specs.declared.LevelError.TheVariants.{Unequal, NoCode}
use Rattle.srgb10_levels.proofs.Codes.{above-exactly}

-- the answer of a number
abbrev by_number : ℕ → Levelling
by_number n = when eqb n 4 then Err Unequal else when eqb n 14 then Err NoCode else Ok tt

named : (a : Levelling) → by_number (paper a).number ≡ a
named (Ok _) = refl
named (Err Unequal) = refl
named (Err NoCode) = refl

other : (a b : Levelling) → ¬ ((paper a).number ≡ (paper b).number) → ¬ (a ≡ b)
other a b n e = n (rw e)

module _ (codes : List ℕ) (levels : List Float) where
  many-exactly : (as_many codes levels ≡ true) ↔ (length codes ≡ length levels)
  many-exactly = (eqb-true (length codes) (length levels), eq-eqb (length codes) (length levels))

  equal : ¬ (¬ (length codes ≡ length levels)) → length codes ≡ length levels
  equal n = by (as_many codes levels) refl
    where
      by : (m : Bool) → as_many codes levels ≡ m → length codes ≡ length levels
      by true e = many-exactly.0 e
      by false e = absurd (n ((fails_exactly many-exactly).0 e))

  not-unequal : length codes ≡ length levels → ¬ (¬ (length codes ≡ length levels))
  not-unequal e n = n e

  given : Given codes levels (levelling_of codes levels)
  given = by (as_many codes levels) (any is_above codes) refl refl
    where
      by : (m a : Bool) → as_many codes levels ≡ m → any is_above codes ≡ a → Given codes levels (when not m then Err Unequal else when a then Err NoCode else Ok tt)
      by false a e f = this ((fails_exactly many-exactly).0 e)
      by true true e f = later (not-unequal (many-exactly.0 e)) (this ((above-exactly codes).0 f))
      by true false e f = later (not-unequal (many-exactly.0 e)) (later ((fails_exactly (above-exactly codes)).0 f) none)

  -- the answer is the one that the words give, and no other
  pub given-exactly : (levelling : Levelling) → (levelling_of codes levels ≡ levelling) ↔ Given codes levels levelling
  given-exactly levelling = (λ e. subst (Given codes levels) e given, one-given given)

  exactly : (a : Levelling) → (paper (levelling_of codes levels) ≡ paper a) ↔ Given codes levels a
  exactly a = (
    λ e. (given-exactly a).0 (sym (named (levelling_of codes levels)) ∙ ap (λ (x : Answer). by_number x.number) e ∙ named a),
    λ g. ap paper ((given-exactly a).1 g),
  )

  -- 4 exactly when the lengths are unequal
  pub four-exactly : (paper (levelling_of codes levels) ≡ answer 4 0 0) ↔ (¬ (length codes ≡ length levels))
  four-exactly = (λ e. caused ((exactly (Err Unequal)).0 e) (other (Ok tt) (Err Unequal) (omega arith)), λ n. (exactly (Err Unequal)).1 (this n))

  -- 14 exactly when they are equal, and a code is above 1023
  pub fourteen-exactly : (paper (levelling_of codes levels) ≡ answer 14 0 0) ↔ ((length codes ≡ length levels) × Some Above codes)
  fourteen-exactly = (
    λ e. let g = (exactly (Err NoCode)).0 e in (equal (passed g (other (Err Unequal) (Err NoCode) (omega arith))).0, caused g (other (Ok tt) (Err NoCode) (omega arith))),
    λ h. (exactly (Err NoCode)).1 (later (not-unequal h.0) (this h.1)),
  )

  -- 0 otherwise
  pub zero-exactly : (paper (levelling_of codes levels) ≡ answer 0 0 0) ↔ ((length codes ≡ length levels) × (¬ Some Above codes))
  zero-exactly = (
    λ e. let h = passed ((exactly (Ok tt)).0 e) (other (Err Unequal) (Ok tt) (omega arith)) in (equal h.0, (passed h.1 (other (Err NoCode) (Ok tt) (omega arith))).0),
    λ h. (exactly (Ok tt)).1 (later (not-unequal h.0) (later h.1 none)),
  )

  -- "nothing written"
  pub refused-writes-nothing : ¬ (paper (levelling_of codes levels) ≡ answer 0 0 0) → left_of codes levels ≡ levels
  refused-writes-nothing n = by (levelling_of codes levels) n
    where
      by : (a : Levelling) → ¬ (paper a ≡ answer 0 0 0) → left_by a codes levels ≡ levels
      by (Ok _) n = absurd (n refl)
      by (Err Unequal) n = refl
      by (Err NoCode) n = refl
