-- Values in cells: what is read at a place, and what stands up to the count.
-- By the laws of a map; the cells past the values are not taken.
use Prim.Native.Nat.{ℕ, ◌-◌, ◌≤◌, ◌<◌}
use mathlib.Core.Path.{◌≡◌, refl, ap, ◌∙◌}
use mathlib.Core.List.{List, [], ◌∷◌, map}
use native.Mathlib.Omega.{arith}
use lib.Ieee.{nan}
use lib.ListN.{length, get_or, replicate, length-map, get_or-map}
use lib.Seq.{take_at}
use Rattle.notation.specs.F32.{zero}
use Rattle.notation.proofs.Elements.{map_at}
use Rattle.notation.proofs.Tables.{at_most}
use Rattle.op_fields.specs.Layouts.{Field, float, flag, curve, layouts, layout_of}
use Rattle.op_fields.specs.Parts.{cell, field_of, field_in, value_of, parts_by, value_from, kind_of, op_by, fields_of, blank_of, blank_parts}
use Rattle.op_fields.specs.declared.Value.{Value}
use Rattle.op_fields.specs.declared.Value.TheVariants.{Float as the_float}
use Rattle.op_fields.specs.declared.Cell.{Cell}

-- read as the code reads it
pub value_at : (cells : List Cell) (i : ℕ) {v : Value} → i < length cells → value_of (get_or cells i (cell (the_float nan))) ≡ v → value_from (map value_of cells) i ≡ v
value_at cells i h e = map_at value_of cells i (cell (the_float nan)) (the_float zero) h ∙ e

-- up to the count stand the values, in their fields
pub fields_up_to : (kind : ℕ) (vs : List Value) → fields_of (parts_by kind vs) ≡ map field_of vs
fields_up_to kind vs = ap (map field_in) (take_at (map cell vs) (replicate (9 - length vs) (cell (the_float zero))) (length vs) (length-map vs cell)) ∙ in_cells vs
  where
    in_cells : (vs : List Value) → map field_in (map cell vs) ≡ map field_of vs
    in_cells [] = refl
    in_cells (v ∷ vs) = ap (λ (l : List Field). field_of v ∷ l) (in_cells vs)

-- of blank values they are the fields of the kind
pub blank_fields : (kind : ℕ) → fields_of (blank_parts kind) ≡ layout_of kind
blank_fields kind = fields_up_to (kind_of (op_by kind [])) (map blank_of (layout_of kind)) ∙ each-blank (layout_of kind)
  where
    of : (f : Field) → field_of (blank_of f) ≡ f
    of float = refl
    of flag = refl
    of curve = refl

    each-blank : (fs : List Field) → map field_of (map blank_of fs) ≡ fs
    each-blank [] = refl
    each-blank (f ∷ fs) = rw (of f, each-blank fs)

-- no kind has more than nine
pub nine_fields : (kind : ℕ) → length (layout_of kind) ≤ 9
nine_fields kind = omega (arith, get_or-map length layouts kind [], at_most (map length layouts) kind)
