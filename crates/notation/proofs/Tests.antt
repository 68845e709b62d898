-- Tests made of tests hold exactly where the statements made of theirs do: not, and, or.
-- By the values of the tests.
use mathlib.Core.Path.{◌≡◌, refl, ap, sym, ◌∙◌}
use mathlib.Core.Bool.{Bool, true, false, not, ◌&&◌, ◌||◌, false≢true, true≢false}
use borrow.Author.Tests.{not-true}
use mathlib.Core.Logic.{◌↔◌, ◌⊎◌, inl, inr, ⊎_elim}

-- a test that fails exactly where a statement does not hold
pub fails_exactly : {a : Bool} {P : Type 0} → ((a ≡ true) ↔ P) → ((a ≡ false) ↔ (¬ P))
fails_exactly {a} {P} f = (λ e p. true≢false (sym (f.1 p) ∙ e), by a f)
  where
    by : (a : Bool) → ((a ≡ true) ↔ P) → ¬ P → a ≡ false
    by true f n = absurd (n (f.0 refl))
    by false f n = refl

pub negated : {a : Bool} {P : Type 0} → ((a ≡ false) ↔ P) → ((not a ≡ true) ↔ P)
negated {a} f = (λ e. f.0 (not-true a e), λ p. ap not (f.1 p))

module _ {P Q : Type 0} where
  pub both-exactly : {a b : Bool} → ((a ≡ true) ↔ P) → ((b ≡ true) ↔ Q) → (((a && b) ≡ true) ↔ (P × Q))
  both-exactly {a} {b} f g = by a f
    where
      by : (a : Bool) → ((a ≡ true) ↔ P) → (((a && b) ≡ true) ↔ (P × Q))
      by true f = (λ e. (f.0 refl, g.0 e), λ h. g.1 h.1)
      by false f = (λ e. absurd (false≢true e), λ h. f.1 h.0)

  pub either-exactly : {a b : Bool} → ((a ≡ true) ↔ P) → ((b ≡ true) ↔ Q) → (((a || b) ≡ true) ↔ (P ⊎ Q))
  either-exactly {a} {b} f g = by a f
    where
      by : (a : Bool) → ((a ≡ true) ↔ P) → (((a || b) ≡ true) ↔ (P ⊎ Q))
      by true f = (λ e. inl (f.0 refl), λ h. refl)
      by false f = (λ e. inr (g.0 e), ⊎_elim (λ p. absurd (false≢true (f.1 p))) g.1)

  -- one of two tests fails
  pub one-fails : {a b : Bool} → ((a ≡ false) ↔ P) → ((b ≡ false) ↔ Q) → (((a && b) ≡ false) ↔ (P ⊎ Q))
  one-fails {a} {b} f g = by a f
    where
      by : (a : Bool) → ((a ≡ false) ↔ P) → (((a && b) ≡ false) ↔ (P ⊎ Q))
      by true f = (λ e. inr (g.0 e), ⊎_elim (λ p. absurd (true≢false (f.1 p))) g.1)
      by false f = (λ e. inl (f.0 refl), λ h. refl)
