-- What the code says of the fields that the layout of a kind has is what the specs say of the kind.
-- The cells up to the layout's count say the kind's fields; what stands past them does not count.
use Prim.Native.Nat.{ℕ, ◌≤◌}
use mathlib.Core.Path.{◌≡◌, refl, ap, sym, ◌∙◌}
use mathlib.Core.Bool.{Bool}
use mathlib.Core.List.{List, [], ◌∷◌, ◌++◌, map, map-append}
use native.Mathlib.Omega.{arith}
use lib.ListN.{length, take, drop, length-map, take-append-drop}
use Rattle.op.specs.declared.Op.{Op}
use Rattle.op_fields.specs.Layouts.{Field, layout_of}
use Rattle.op_fields.specs.Parts.{value_of, fields_of, op_by, blank_of, blank_parts}
use Rattle.op_fields.specs.declared.Cell.{Cell}
use Rattle.op_fields.specs.declared.Value.{Value}
use Rattle.op_fields.specs.declared.Parts.{Parts}
use Rattle.op_fields.proofs.Back.{fields_alone}
use Rattle.op_fields.proofs.Cells.{blank_fields, nine_fields}
use Rattle.block_read.specs.Fields.{size_of, bytes_of, payload_of, values_in, op_read}
use Rattle.block_read.specs.BadFields.{any_bad, bad_field}

values_length : (fs : List Field) (s : List ℕ) → length (values_in fs s) ≡ length fs
values_length [] s = refl
values_length (f ∷ fs) s = omega (arith, values_length fs (drop (size_of f) s))

module _ (kind : ℕ) {layout : Parts} (e : layout ≡ blank_parts kind) where
  fields-are : fields_of layout ≡ layout_of kind
  fields-are = ap fields_of e ∙ blank_fields kind

  count-is : layout.count ≡ length (layout_of kind)
  count-is = ap (λ (p : Parts). p.count) e ∙ length-map (layout_of kind) blank_of

  pub few : layout.count ≤ 9
  few = omega (arith, count-is, nine_fields kind)

  pub size_is : {n : ℕ} → n ≡ bytes_of (fields_of layout) → n ≡ payload_of kind
  size_is q = q ∙ ap bytes_of fields-are

  module _ (s : List ℕ) where
    pub bad-is : {b : Bool} → b ≡ any_bad (fields_of layout) s → b ≡ bad_field kind s
    unfolding bad_field
    bad-is q = q ∙ ap (λ (fs : List Field). any_bad fs s) fields-are

    pub op-is : (cells : List Cell) {o : Op} → map value_of (take layout.count cells) ≡ values_in (fields_of layout) s → o ≡ op_by kind (map value_of cells) → o ≡ op_read kind s
    unfolding op_read
    op-is cells q r =
        let vs = values_in (layout_of kind) s in
        let more = map value_of (drop layout.count cells) in
        let split : map value_of cells ≡ vs ++ more
        = ap (map value_of) (sym (take-append-drop layout.count cells)) ∙ map-append value_of (take layout.count cells) (drop layout.count cells)
        ∙ ap (λ (l : List Value). l ++ more) (q ∙ ap (λ (fs : List Field). values_in fs s) fields-are) in
        r ∙ ap (op_by kind) split ∙ fields_alone kind vs more (values_length (layout_of kind) s)
