-- An op and its parts: the one is built again from the other, both ways.
-- By computing, kind by kind; values build an op that has them where they stand in the fields of its kind.
use Prim.Native.Nat.{ℕ, suc, ◌+◌, ◌≤◌}
use mathlib.Core.Path.{◌≡◌, refl, ap, sym, ◌∙◌}
use mathlib.Core.List.{List, [], ◌∷◌, ◌++◌, map}
use native.Mathlib.Omega.{arith}
use lib.ListN.{length, get_or-append}
use Rattle.notation.specs.F32.{zero}
use Rattle.op.specs.declared.Op.{Op}
use Rattle.op.specs.declared.Op.TheVariants as O
use Rattle.op_fields.specs.Layouts.{Field, layout_of}
use Rattle.op_fields.specs.Parts.{field_of, kind_of, values_of, value_from, op_by}
use Rattle.op_fields.specs.declared.Value.{Value}
use Rattle.op_fields.specs.declared.Value.TheVariants.{Float as the_float, Flag as the_flag, Curve as the_curve}
use Rattle.op_fields.proofs.EachKind.{taken, taken_from, kind-is, kind-same, values-are}

-- the kind of an op is known
pub known_kind : (o : Op) → kind_of o ≤ 9
known_kind (O.XybToMixedLms b i) = omega arith
known_kind (O.LumaToXyz w) = omega arith
known_kind O.XyzToLuma = omega arith
known_kind (O.Matrix m) = omega arith
known_kind (O.TransferFunction c p i) = omega arith
known_kind (O.HlgInverseOotf p) = omega arith
known_kind (O.ToneMapRec2408 p d b) = omega arith
known_kind (O.ToneMapLumaRec2408 p d b) = omega arith
known_kind (O.GamutMap l f) = omega arith
known_kind O.Clip = omega arith

-- the values of an op stand in the fields of its kind
pub shape : (o : Op) → map field_of (values_of o) ≡ layout_of (kind_of o)
shape (O.XybToMixedLms b i) = refl
shape (O.LumaToXyz w) = refl
shape O.XyzToLuma = refl
shape (O.Matrix m) = refl
shape (O.TransferFunction c p i) = refl
shape (O.HlgInverseOotf p) = refl
shape (O.ToneMapRec2408 p d b) = refl
shape (O.ToneMapLumaRec2408 p d b) = refl
shape (O.GamutMap l f) = refl
shape O.Clip = refl

-- an op from its kind and its values
pub op-back : (o : Op) → op_by (kind_of o) (values_of o) ≡ o
op-back (O.XybToMixedLms b i) = refl
op-back (O.LumaToXyz w) = refl
op-back O.XyzToLuma = refl
op-back (O.Matrix m) = refl
op-back (O.TransferFunction c p i) = refl
op-back (O.HlgInverseOotf p) = refl
op-back (O.ToneMapRec2408 p d b) = refl
op-back (O.ToneMapLumaRec2408 p d b) = refl
op-back (O.GamutMap l f) = refl
op-back O.Clip = refl

-- so that two ops with the same kind and values are one
pub same_parts : (a b : Op) → kind_of a ≡ kind_of b → values_of a ≡ values_of b → a ≡ b
same_parts a b e f = sym (op-back a) ∙ ap (λ (k : ℕ). op_by k (values_of a)) e ∙ ap (op_by (kind_of b)) f ∙ op-back b

-- its kind from the op
pub kind_back : (kind : ℕ) (vs : List Value) → kind ≤ 9 → kind_of (op_by kind vs) ≡ kind
kind_back kind vs = kind-is vs kind

taken_back : (v : Value) → taken (field_of v) v ≡ v
taken_back (the_float x) = refl
taken_back (the_flag b) = refl
taken_back (the_curve c) = refl

taken_next : (fs : List Field) (i : ℕ) (v : Value) (vs : List Value) → taken_from fs (suc i) (v ∷ vs) ≡ taken_from fs i vs
taken_next [] i v vs = refl
taken_next (f ∷ fs) i v vs = ap (λ (l : List Value). taken f (value_from vs i) ∷ l) (taken_next fs (suc i) v vs)

taken-all : (vs : List Value) → taken_from (map field_of vs) 0 vs ≡ vs
taken-all [] = refl
taken-all (v ∷ vs) = rw (taken_back v, taken_next (map field_of vs) 0 v vs, taken-all vs)

-- its values from the op, where they stand in the fields of the kind
pub values_back : (kind : ℕ) (vs : List Value) → map field_of vs ≡ layout_of kind → values_of (op_by kind vs) ≡ vs
values_back kind vs e = values-are vs kind ∙ ap (λ (fs : List Field). taken_from fs 0 vs) (sym e) ∙ taken-all vs

-- what stands past the fields of the kind does not count
pub fields_alone : (kind : ℕ) (vs more : List Value) → length vs ≡ length (layout_of kind) → op_by kind (vs ++ more) ≡ op_by kind vs
fields_alone kind vs more e =
    same_parts (op_by kind (vs ++ more)) (op_by kind vs) (kind-same (vs ++ more) vs kind)
    (values-are (vs ++ more) kind ∙ within (layout_of kind) 0 (omega arith) ∙ sym (values-are vs kind))
  where
    within : (fs : List Field) (i : ℕ) → i + length fs ≤ length vs → taken_from fs i (vs ++ more) ≡ taken_from fs i vs
    within [] i h = refl
    within (f ∷ fs) i h = rw (within fs (suc i) (omega arith), get_or-append vs more (the_float zero) i (omega arith))
