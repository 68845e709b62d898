-- The fields of an op, one after the other, as a loop over the cells that say them meets them.
-- The next field is the first of those that are left, and what follows its bytes is read as the rest of them.
use Prim.Native.Nat.{ℕ, ◌+◌, ◌-◌, ◌*◌, ◌≤◌, ◌<◌}
use mathlib.Core.Path.{◌≡◌, ap, sym, ◌∙◌}
use mathlib.Core.Bool.{Bool, true, false}
use mathlib.Core.List.{List, [], ◌∷◌, ◌++◌, map, append_assoc, map-append}
use native.Mathlib.Numerals.{add-one}
use native.Mathlib.Omega.{arith}
use lib.Ieee.{nan}
use lib.ListN.{length, get_or, set, take, drop, length-drop, length-map, drop_of_length-le}
use lib.Seq.{take_all, take-suc-set, drop-drop}
use Rattle.op_fields.specs.Layouts.{Field, float, flag, curve}
use Rattle.op_fields.specs.Parts.{cell, value_of, field_in}
use Rattle.op_fields.specs.declared.Cell.{Cell}
use Rattle.op_fields.specs.declared.Value.{Value}
use Rattle.op_fields.specs.declared.Value.TheVariants.{Float as the_float}
use Rattle.notation.proofs.Elements as Elements
use Rattle.notation.proofs.Elements.{map_at}
use Rattle.block_read.specs.Fields.{size_of, bytes_of, value_in, values_in}
use Rattle.block_read.specs.BadFields.{is_bad, any_bad}

-- nine fields take no more than forty-five bytes
pub bytes_small : (fs : List Field) → bytes_of fs ≤ 5 * length fs
bytes_small [] = omega arith
bytes_small (f ∷ fs) = omega (arith, bytes_small fs, of f)
  where
    of : (f : Field) → size_of f ≤ 5
    of float = omega arith
    of flag = omega arith
    of curve = omega arith

-- the slice from a place on, as the code cuts it
pub to_end : (s : List ℕ) (at : ℕ) → take (length s - at) (drop at s) ≡ drop at s
to_end s at = take_all (length s - at) (drop at s) (omega (arith, length-drop at s))

-- the fields that cells say, and that of a cell as the code reads it
abbrev pub said : List Cell → List Field
said cells = map field_in cells

abbrev pub field_at : List Cell → ℕ → Field
field_at cells i = field_in (get_or cells i (cell (the_float nan)))

-- at place i, and in s at the byte `at`, where a field of this size comes
module _ (cells : List Cell) (i at : ℕ) (k : i < length cells) where
  next : drop i (said cells) ≡ field_at cells i ∷ drop (i + 1) (said cells)
  next =
      let fs = said cells in
      let q : i < length fs = omega (arith, length-map cells field_in) in
      Elements.next fs i (field_at cells i) q ∙ ap (λ (f : Field). f ∷ drop (i + 1) fs) (map_at field_in cells i (cell (the_float nan)) (field_at cells i) k)

  module _ {size : ℕ} (z : size ≡ size_of (field_at cells i)) where
    pub bytes_next : {n : ℕ} → at + bytes_of (drop i (said cells)) ≡ n → at + size + bytes_of (drop (i + 1) (said cells)) ≡ n
    bytes_next e = omega (arith, ap bytes_of next)

    module _ (s : List ℕ) where
      pub bad-next : {b : Bool} → b ≡ is_bad (field_at cells i) (take (length s - at) (drop at s)) → b ≡ false
          → any_bad (drop (i + 1) (said cells)) (drop (at + size) s) ≡ any_bad (drop i (said cells)) (drop at s)
      bad-next q e = rw (z, next, ← drop-drop (size_of (field_at cells i)) at s, ap (is_bad (field_at cells i)) (sym (to_end s at)) ∙ sym q ∙ e)

      values-next : values_in (drop i (said cells)) (drop at s)
          ≡ value_in (field_at cells i) (take (length s - at) (drop at s)) ∷ values_in (drop (i + 1) (said cells)) (drop (at + size) s)
      values-next = rw (z, next, to_end s at, drop-drop (size_of (field_at cells i)) at s)

      -- the value is stored in the cell at place i of those that are read
      pub stored : (held : List Cell) {v : Value} {all : List Value} → i < length held → v ≡ value_in (field_at cells i) (take (length s - at) (drop at s))
          → map value_of (take i held) ++ values_in (drop i (said cells)) (drop at s) ≡ all
          → map value_of (take (i + 1) (set held i (cell v))) ++ values_in (drop (i + 1) (said cells)) (drop (at + size) s) ≡ all
      stored held {v} l q e =
          let rest = values_in (drop (i + 1) (said cells)) (drop (at + size) s) in
          let front : map value_of (take (i + 1) (set held i (cell v))) ≡ map value_of (take i held) ++ (v ∷ [])
          = rw (add-one i, take-suc-set held i (cell v) l) (map-append value_of (take i held) (cell v ∷ [])) in
          ap (λ (x : List Value). x ++ rest) front
          ∙ append_assoc (map value_of (take i held)) (v ∷ []) rest
          ∙ ap (λ (x : List Value). map value_of (take i held) ++ x) (ap (λ (x : Value). x ∷ rest) q ∙ sym values-next)
          ∙ e

  module _ (s : List ℕ) where
    pub bad-here : {b : Bool} → b ≡ is_bad (field_at cells i) (take (length s - at) (drop at s)) → b ≡ true → true ≡ any_bad (drop i (said cells)) (drop at s)
    bad-here q e = rw (next, ap (is_bad (field_at cells i)) (sym (to_end s at)) ∙ sym q ∙ e)

    pub room : at + bytes_of (drop i (said cells)) ≤ length s → size_of (field_at cells i) ≤ length (take (length s - at) (drop at s))
    room l = rw (to_end s at) (omega (arith, length-drop at s, ap bytes_of next))

-- from the end of the cells no field is left
pub none_left : (cells : List Cell) (i : ℕ) → length cells ≤ i → drop i (said cells) ≡ []
none_left cells i h = drop_of_length-le (said cells) {i = i} (omega (arith, length-map cells field_in))
