-- An answer that a test chooses between two of unlike numbers is the first exactly where the test holds, and the second exactly where not.
-- By the test's two values.
use mathlib.Core.Path.{ap, refl, sym, ◌≡◌}
use mathlib.Core.Bool.{Bool, false, false≢true, true}
use mathlib.Core.Logic.{◌↔◌}
use Rattle.notation.specs.Choice.{when◌then◌else◌}
use Rattle.notation.specs.declared.Answer.{Answer}

module _ {E : Type 0} (paper : E → Answer) (x y : E) (unlike : ¬ ((paper x).number ≡ (paper y).number)) {P : Type 0} where
  pub first-exactly : (test : Bool) → ((test ≡ true) ↔ P) → ((paper (when test then x else y) ≡ paper x) ↔ P)
  first-exactly true f = (λ e. f.0 refl, λ p. refl)
  first-exactly false f = (λ e. absurd (unlike (ap (λ (a : Answer). a.number) (sym e))), λ p. absurd (false≢true (f.1 p)))

  pub second-exactly : (test : Bool) → ((test ≡ true) ↔ P) → ((paper (when test then x else y) ≡ paper y) ↔ (¬ P))
  second-exactly true f = (λ e. absurd (unlike (ap (λ (a : Answer). a.number) e)), λ n. absurd (n (f.0 refl)))
  second-exactly false f = (λ e p. false≢true (f.1 p), λ n. refl)
