-- What is compared, step by step: a float with another by NaN or by the bits, a loop over two lists, two ops, and two lists of ops.
-- A test that holds exactly where two values are equal is the test that decides equality.
use mathlib.Core.Path.{◌≡◌, refl, ap, sym, ◌∙◌}
use mathlib.Core.Bool.{Bool, true, false, ◌&&◌, true≢false, false≢true}
use Prim.Native.Nat.{ℕ, ◌-◌}
use mathlib.Core.List.{List, [], ◌∷◌, ◌++◌, map}
use native.Mathlib.Omega.{arith}
use lib.Dec.{T, eqb}
use lib.Ieee.{Float, nan, inf, fin, is_nan, binary32, fits, of_bits, to_bits}
use lib.Ieee.Bits.{of_bits-to_bits}
use lib.ListN.{length, replicate, take, length-map}
use borrow.Author.Tests.{eq-eqb, ne_eqb, eqb-true}
use Rattle.notation.specs.F32.{zero}
use Rattle.notation.proofs.Deciding.{exactly}
use Rattle.list.specs.Lists.{op_of}
use Rattle.op.specs.declared.Op.{Op}
use Rattle.op_fields.specs.Layouts.{layout_of}
use Rattle.op_fields.specs.Parts.{field_of, kind_of, values_of, cell, parts_of}
use Rattle.op_fields.specs.declared.Value.{Value}
use Rattle.op_fields.specs.declared.Value.TheVariants.{Float as the_float}
use Rattle.op_fields.proofs.Back.{shape}
use Rattle.list_same.specs.Same.{same_float, same_all, same_value, same_cell, same_op, same_list}
use Rattle.list.specs.declared.Plan.{Plan}
use Rattle.list_same.proofs.Deciding.{floats, alls, cells}

pub first-nan : (a b : Float) → is_nan a ≡ true → is_nan b ≡ same_float a b
unfolding is_nan
first-nan nan nan e = refl
first-nan nan (inf t) e = refl
first-nan nan (fin t n d) e = refl
first-nan (inf s) b e = absurd (false≢true e)
first-nan (fin s m d) b e = absurd (false≢true e)

pub second-nan : (a b : Float) → is_nan a ≡ false → is_nan b ≡ true → false ≡ same_float a b
unfolding is_nan
second-nan nan b e f = absurd (true≢false e)
second-nan (inf s) nan e f = refl
second-nan (inf s) (inf t) e f = absurd (false≢true f)
second-nan (inf s) (fin t n d) e f = absurd (false≢true f)
second-nan (fin s m d) nan e f = refl
second-nan (fin s m d) (inf t) e f = absurd (false≢true f)
second-nan (fin s m d) (fin t n k) e f = absurd (false≢true f)

module _ (a b : Float) where
  decided : (t : Bool) → (t ≡ true → a ≡ b) → (a ≡ b → t ≡ true) → t ≡ same_float a b
  decided true f g = sym ((exactly floats a b).1 (f refl))
  decided false f g = by (same_float a b) refl
    where
      by : (r : Bool) → same_float a b ≡ r → false ≡ same_float a b
      by true e = absurd (false≢true (g (floats.equal a b e)))
      by false e = sym e

  pub by_bits : T (fits binary32 a) → T (fits binary32 b) → eqb (to_bits binary32 a) (to_bits binary32 b) ≡ same_float a b
  by_bits f g =
      decided (eqb (to_bits binary32 a) (to_bits binary32 b))
      (λ e. sym (of_bits-to_bits binary32 a f) ∙ ap (of_bits binary32) (eqb-true (to_bits binary32 a) (to_bits binary32 b) e) ∙ of_bits-to_bits binary32 b g)
      (λ e. eq-eqb (to_bits binary32 a) (to_bits binary32 b) (ap (to_bits binary32) e))

module _ {A : Type 0} (same : A → A → Bool) {l m xs ys : List A} {x y : A} (e : l ≡ x ∷ xs) (f : m ≡ y ∷ ys) {b : Bool} (q : b ≡ same x y) where
  pub stops : b ≡ false → same_all same l m ≡ false
  stops h = rw (e, f, ← q, h)

  pub goes : b ≡ true → same_all same l m ≡ same_all same xs ys
  goes h = rw (e, f, ← q, h)

-- two ops, by all nine cells of each: past the values of one kind stand the same zeros
padded : (n : ℕ) (xs ys : List Value) → length xs ≡ length ys
    → same_all same_cell (map cell xs ++ replicate n (cell (the_float zero))) (map cell ys ++ replicate n (cell (the_float zero))) ≡ same_all same_value xs ys
padded n [] [] e = (alls cells).itself (replicate n (cell (the_float zero)))
padded n [] (y ∷ ys) e = absurd (omega arith)
padded n (x ∷ xs) [] e = absurd (omega arith)
padded n (x ∷ xs) (y ∷ ys) e = ap (λ (b : Bool). same_value x y && b) (padded n xs ys (omega arith))

pub by_cells : (a b : Op) → (eqb (kind_of a) (kind_of b) && same_all same_cell (parts_of a).cells (parts_of b).cells) ≡ same_op a b
by_cells a b = by (eqb (kind_of a) (kind_of b)) refl
  where
    as_long : kind_of a ≡ kind_of b → length (values_of a) ≡ length (values_of b)
    as_long e = sym (length-map (values_of a) field_of) ∙ ap length (shape a ∙ ap layout_of e ∙ sym (shape b)) ∙ length-map (values_of b) field_of

    by : (k : Bool) → eqb (kind_of a) (kind_of b) ≡ k → (eqb (kind_of a) (kind_of b) && same_all same_cell (parts_of a).cells (parts_of b).cells) ≡ same_op a b
    by false e = rw e
    by true e =
        let l = as_long (eqb-true (kind_of a) (kind_of b) e) in
        rw (e, l) (padded (9 - length (values_of b)) (values_of a) (values_of b) l)

-- two lists, by their start widths and counts, and then by their ops
module _ (a b : Plan) where
  pub other-start : ¬ (a.start ≡ b.start) → false ≡ same_list a b
  other-start n = rw (ne_eqb a.start b.start n)

  pub other-count : a.start ≡ b.start → ¬ (a.count ≡ b.count) → false ≡ same_list a b
  other-count s n = rw (eq-eqb a.start b.start s, ne_eqb a.count b.count n)

  pub other-end : a.start ≡ b.start → a.count ≡ b.count → ¬ (a.end ≡ b.end) → false ≡ same_list a b
  other-end s e n = rw (eq-eqb a.start b.start s, eq-eqb a.count b.count e, ne_eqb a.end b.end n)

  pub below-count : a.start ≡ b.start → a.count ≡ b.count → a.end ≡ b.end
      → same_all same_op (map op_of (take a.count a.ops)) (map op_of (take a.count b.ops)) ≡ same_list a b
  below-count s e f = rw (eq-eqb a.start b.start s, eq-eqb a.count b.count e, eq-eqb a.end b.end f, e)
