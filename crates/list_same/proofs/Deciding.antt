-- The tests of Same decide equality: each holds of two values where they are equal, and there alone.
-- Part by part. A curve is read back from its number and its g, an op from its kind and its values.
use mathlib.Core.Path.{◌≡◌, refl, ap}
use mathlib.Core.Bool.{Bool, true, ◌&&◌, beq, and-eq-true_iff, false≢true}
use mathlib.Core.List.{List, [], ◌∷◌}
use lib.Dec.{eqb}
use lib.IntN.{ℤ, pos, negsuc}
use lib.Ieee.{Float, nan, inf, fin}
use borrow.Author.Tests.{eq-eqb, eqb-true}
use Rattle.notation.proofs.Deciding.{Decides, both, numbers, flags, through, pairs}
use Rattle.op_fields.specs.Curves.{curve_number, gamma_of, curve_numbered}
use Rattle.op_fields.specs.Parts.{kind_of, values_of, cell, op_by}
use Rattle.op_fields.specs.declared.Value.{Value}
use Rattle.op_fields.specs.declared.Value.TheVariants.{Float as the_float, Flag as the_flag, Curve as the_curve}
use Rattle.op_fields.proofs.Back.{op-back}
use Rattle.op_fields.proofs.Numbers.{curve_back}
use Rattle.list_same.specs.Same.{same_whole, same_float, same_all, same_curve, same_value, same_cell, same_op}

pub wholes : Decides same_whole
wholes = record { equal = equal; itself = itself }
  where
    equal : (a b : ℤ) → same_whole a b ≡ true → a ≡ b
    equal (pos m) (pos n) e = ap pos (eqb-true m n e)
    equal (pos m) (negsuc n) e = absurd (false≢true e)
    equal (negsuc m) (pos n) e = absurd (false≢true e)
    equal (negsuc m) (negsuc n) e = ap negsuc (eqb-true m n e)

    itself : (a : ℤ) → same_whole a a ≡ true
    itself (pos n) = eq-eqb n n refl
    itself (negsuc n) = eq-eqb n n refl

pub floats : Decides same_float
floats = record { equal = equal; itself = itself }
  where
    equal : (a b : Float) → same_float a b ≡ true → a ≡ b
    equal nan nan h = refl
    equal nan (inf t) h = absurd (false≢true h)
    equal nan (fin t n d) h = absurd (false≢true h)
    equal (inf s) nan h = absurd (false≢true h)
    equal (inf s) (inf t) h = ap inf (flags.equal s t h)
    equal (inf s) (fin t n d) h = absurd (false≢true h)
    equal (fin s m e) nan h = absurd (false≢true h)
    equal (fin s m e) (inf t) h = absurd (false≢true h)
    equal (fin s m e) (fin t n d) h =
        let p = (and-eq-true_iff (beq s t && eqb m n) (same_whole e d)).0 h in
        let q = (and-eq-true_iff (beq s t) (eqb m n)).0 p.0 in
        rw (flags.equal s t q.0, eqb-true m n q.1, wholes.equal e d p.1)

    itself : (a : Float) → same_float a a ≡ true
    itself nan = refl
    itself (inf s) = flags.itself s
    itself (fin s m e) = both (both (flags.itself s) (numbers.itself m)) (wholes.itself e)

pub alls : {A : Type 0} {same : A → A → Bool} → Decides same → Decides (same_all same)
alls {A} {same} d = record { equal = equal; itself = itself }
  where
    equal : (l m : List A) → same_all same l m ≡ true → l ≡ m
    equal [] [] e = refl
    equal [] (b ∷ m) e = absurd (false≢true e)
    equal (a ∷ l) [] e = absurd (false≢true e)
    equal (a ∷ l) (b ∷ m) e =
        let p = (and-eq-true_iff (same a b) (same_all same l m)).0 e in
        rw (d.equal a b p.0, equal l m p.1)

    itself : (l : List A) → same_all same l l ≡ true
    itself [] = refl
    itself (a ∷ l) = both (d.itself a) (itself l)

pub curves : Decides same_curve
curves = through (pairs numbers numbers) (λ c. (curve_number c, gamma_of c)) (λ p. curve_numbered p.0 p.1) curve_back

pub values : Decides same_value
values = record { equal = equal; itself = itself }
  where
    equal : (a b : Value) → same_value a b ≡ true → a ≡ b
    equal (the_float x) (the_float y) e = ap the_float (floats.equal x y e)
    equal (the_float x) (the_flag c) e = absurd (false≢true e)
    equal (the_float x) (the_curve d) e = absurd (false≢true e)
    equal (the_flag b) (the_float y) e = absurd (false≢true e)
    equal (the_flag b) (the_flag c) e = ap the_flag (flags.equal b c e)
    equal (the_flag b) (the_curve d) e = absurd (false≢true e)
    equal (the_curve c) (the_float y) e = absurd (false≢true e)
    equal (the_curve c) (the_flag b) e = absurd (false≢true e)
    equal (the_curve c) (the_curve d) e = ap the_curve (curves.equal c d e)

    itself : (a : Value) → same_value a a ≡ true
    itself (the_float x) = floats.itself x
    itself (the_flag b) = flags.itself b
    itself (the_curve c) = curves.itself c

pub cells : Decides same_cell
cells = through values (λ c. c.0) cell (λ c. refl)

pub ops : Decides same_op
ops = through (pairs numbers (alls values)) (λ o. (kind_of o, values_of o)) (λ p. op_by p.0 p.1) op-back
