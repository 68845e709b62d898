-- An op as its kind and the values of its fields, and back. (01, Plan block). Definitions only.
use Rattle.std.specs.Prelude.{ℕ, ◌+◌, ◌-◌, Bool, false, List, [], ◌∷◌, ◌++◌, map, get_or, length, replicate, take, Float}
use Rattle.notation.specs.F32.{zero}
use Rattle.ciexyz.specs.Matrix.{by_rows}
use Rattle.ciexyz.specs.declared.Vec3.{Vec3}
use Rattle.op.specs.declared.Luminances.{Luminances}
use Rattle.op.specs.declared.HdrParams.{HdrParams}
use Rattle.op.specs.declared.Curve.{Curve}
use Rattle.op.specs.declared.Curve.TheVariants as C
use Rattle.op.specs.declared.Op.{Op}
use Rattle.op.specs.declared.Op.TheVariants as O
use Rattle.op_fields.specs.Layouts.{Field, float, flag, curve, layout_of}
use Rattle.op_fields.specs.declared.Value.{Value}
use Rattle.op_fields.specs.declared.Value.TheVariants.{Float as the_float, Flag as the_flag, Curve as the_curve}
use Rattle.op_fields.specs.declared.Cell.{Cell}
use Rattle.op_fields.specs.declared.Parts.{Parts}

-- which field a value stands in
abbrev pub field_of : Value → Field
field_of (the_float x) = float
field_of (the_flag b) = flag
field_of (the_curve c) = curve

-- the number of an op's kind
abbrev pub kind_of : Op → ℕ
kind_of (O.XybToMixedLms bias intensity) = 0
kind_of (O.LumaToXyz illuminant) = 1
kind_of O.XyzToLuma = 2
kind_of (O.Matrix m) = 3
kind_of (O.TransferFunction c p inverse) = 4
kind_of (O.HlgInverseOotf p) = 5
kind_of (O.ToneMapRec2408 p display detect) = 6
kind_of (O.ToneMapLumaRec2408 p display detect) = 7
kind_of (O.GamutMap l factor) = 8
kind_of O.Clip = 9

-- the values of an op, in the order of its fields
abbrev pub luminances_values : Luminances → List Value
luminances_values l = the_float l.red ∷ the_float l.green ∷ the_float l.blue ∷ []

abbrev pub params_values : HdrParams → List Value
params_values p = luminances_values p.luminances ++ (the_float p.intensity_target ∷ the_float p.min_nits ∷ [])

abbrev pub values_of : Op → List Value
values_of (O.XybToMixedLms b intensity) = the_float b.v0 ∷ the_float b.v1 ∷ the_float b.v2 ∷ the_float intensity ∷ []
values_of (O.LumaToXyz w) = the_float w.x ∷ the_float w.y ∷ []
values_of O.XyzToLuma = []
values_of (O.Matrix m) =
    the_float m.m0 ∷ the_float m.m1 ∷ the_float m.m2
    ∷ the_float m.m3 ∷ the_float m.m4 ∷ the_float m.m5
    ∷ the_float m.m6 ∷ the_float m.m7 ∷ the_float m.m8 ∷ []
values_of (O.TransferFunction c p inverse) = the_curve c ∷ the_flag inverse ∷ params_values p
values_of (O.HlgInverseOotf p) = params_values p
values_of (O.ToneMapRec2408 p display detect) = params_values p ++ (the_float display ∷ the_flag detect ∷ [])
values_of (O.ToneMapLumaRec2408 p display detect) = params_values p ++ (the_float display ∷ the_flag detect ∷ [])
values_of (O.GamutMap l factor) = luminances_values l ++ (the_float factor ∷ [])
values_of O.Clip = []

-- a kind and its values as the code holds them: in nine cells, with zeros past the values
abbrev pub cell : Value → Cell
cell v = record { 0 = v }

abbrev pub value_of : Cell → Value
value_of c = c.0

abbrev pub parts_by : ℕ → List Value → Parts
parts_by kind vs = record { kind = kind; count = length vs; cells = map cell vs ++ replicate (9 - length vs) (cell (the_float zero)) }

abbrev pub parts_of : Op → Parts
parts_of o = parts_by (kind_of o) (values_of o)

-- nine floats, of which so many count
abbrev pub float_cell : Float → Cell
float_cell x = cell (the_float x)

abbrev pub float_parts : ℕ → ℕ → List Float → Parts
float_parts kind count fs = record { kind = kind; count = count; cells = map float_cell fs }

-- back: what a value holds where the field that it stands in is asked for, and else zero, off or Linear
abbrev pub float_in : Value → Float
float_in (the_float x) = x
float_in (the_flag b) = zero
float_in (the_curve c) = zero

abbrev pub flag_in : Value → Bool
flag_in (the_float x) = false
flag_in (the_flag b) = b
flag_in (the_curve c) = false

abbrev pub curve_in : Value → Curve
curve_in (the_float x) = C.Linear
curve_in (the_flag b) = C.Linear
curve_in (the_curve c) = c

-- the same of the value at a place
abbrev pub value_from : List Value → ℕ → Value
value_from vs i = get_or vs i (the_float zero)

abbrev pub float_from : List Value → ℕ → Float
float_from vs i = float_in (value_from vs i)

abbrev pub flag_from : List Value → ℕ → Bool
flag_from vs i = flag_in (value_from vs i)

abbrev pub curve_from : List Value → ℕ → Curve
curve_from vs i = curve_in (value_from vs i)

abbrev pub vec3_from : List Value → ℕ → Vec3
vec3_from vs i = record { v0 = float_from vs i; v1 = float_from vs (i + 1); v2 = float_from vs (i + 2) }

abbrev pub luminances_from : List Value → ℕ → Luminances
luminances_from vs i = record { red = float_from vs i; green = float_from vs (i + 1); blue = float_from vs (i + 2) }

abbrev pub params_from : List Value → ℕ → HdrParams
params_from vs i = record { luminances = luminances_from vs i; intensity_target = float_from vs (i + 3); min_nits = float_from vs (i + 4) }

-- the ops of the kinds 0 to 9 with these values; Clip for an unknown kind
abbrev pub op_rows : List Value → List Op
op_rows vs =
    O.XybToMixedLms (vec3_from vs 0) (float_from vs 3)
    ∷ O.LumaToXyz (record { x = float_from vs 0; y = float_from vs 1 })
    ∷ O.XyzToLuma
    ∷ O.Matrix (by_rows (vec3_from vs 0) (vec3_from vs 3) (vec3_from vs 6))
    ∷ O.TransferFunction (curve_from vs 0) (params_from vs 2) (flag_from vs 1)
    ∷ O.HlgInverseOotf (params_from vs 0)
    ∷ O.ToneMapRec2408 (params_from vs 0) (float_from vs 5) (flag_from vs 6)
    ∷ O.ToneMapLumaRec2408 (params_from vs 0) (float_from vs 5) (flag_from vs 6)
    ∷ O.GamutMap (luminances_from vs 0) (float_from vs 3)
    ∷ O.Clip
    ∷ []

abbrev pub op_by : ℕ → List Value → Op
op_by kind vs = get_or (op_rows vs) kind O.Clip

-- the fields that the cells up to the count stand in
abbrev pub field_in : Cell → Field
field_in c = field_of (value_of c)

abbrev pub fields_of : Parts → List Field
fields_of p = map field_in (take p.count p.cells)

-- the fields of a kind, each with a blank value; those of Clip for an unknown kind
abbrev pub blank_of : Field → Value
blank_of float = the_float zero
blank_of flag = the_flag false
blank_of curve = the_curve C.Linear

abbrev pub blank_parts : ℕ → Parts
blank_parts kind = parts_by (kind_of (op_by kind [])) (map blank_of (layout_of kind))
