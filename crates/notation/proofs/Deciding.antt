-- Tests that decide equality: each holds of two values where they are equal, and there alone.
-- A value is read back from what is tested of it, and a pair from its parts.
use mathlib.Core.Path.{◌≡◌, refl, ap, sym, subst, ◌∙◌}
use mathlib.Core.Bool.{Bool, true, false, ◌&&◌, beq, and-eq-true_iff}
use mathlib.Core.Logic.{◌↔◌}
use lib.Dec.{eqb}
use borrow.Author.Tests.{eq-eqb, eqb-true}

pub record Decides {A : Type 0} (same : A → A → Bool) : Type 0 where
  pub equal : (a b : A) → same a b ≡ true → a ≡ b
  pub itself : (a : A) → same a a ≡ true

pub exactly : {A : Type 0} {same : A → A → Bool} → Decides same → (a b : A) → (same a b ≡ true) ↔ (a ≡ b)
exactly {A} {same} d a b = (d.equal a b, λ e. subst (λ (x : A). same a x ≡ true) e (d.itself a))

pub both : {a b : Bool} → a ≡ true → b ≡ true → (a && b) ≡ true
both {a} {b} p q = (and-eq-true_iff a b).1 (p, q)

pub numbers : Decides eqb
numbers = record { equal = eqb-true; itself = λ n. eq-eqb n n refl }

pub flags : Decides beq
flags = record { equal = equal; itself = itself }
  where
    equal : (a b : Bool) → beq a b ≡ true → a ≡ b
    equal true true e = refl
    equal true false e = sym e
    equal false true e = e
    equal false false e = refl

    itself : (a : Bool) → beq a a ≡ true
    itself true = refl
    itself false = refl

-- a test of what a value is read back from decides the value
pub through : {A B : Type 0} {same : B → B → Bool} → Decides same → (f : A → B) (back : B → A) → ((a : A) → back (f a) ≡ a) → Decides (λ (a b : A). same (f a) (f b))
through d f back h = record { equal = λ a b e. sym (h a) ∙ ap back (d.equal (f a) (f b) e) ∙ h b; itself = λ a. d.itself (f a) }

-- two tests decide a pair
pub pairs : {A B : Type 0} {s : A → A → Bool} {t : B → B → Bool} → Decides s → Decides t → Decides (λ (x y : A × B). s x.0 y.0 && t x.1 y.1)
pairs {s = s} {t} d e = record {
  equal = λ x y h. let k = (and-eq-true_iff (s x.0 y.0) (t x.1 y.1)).0 h in rw (d.equal x.0 y.0 k.0, e.equal x.1 y.1 k.1);
  itself = λ x. both (d.itself x.0) (e.itself x.1);
}
