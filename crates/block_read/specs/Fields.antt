-- "A kind byte and its fields in f32 unless said": the bytes of the fields, and what they stand for. (01, Plan block). Definitions only.
-- s is what follows the kind byte of an op, from one of its fields on.
use Rattle.std.specs.Prelude.{ℕ, ◌+◌, ◌*◌, List, [], ◌∷◌, eqb, get_or, drop, Float}
use Rattle.notation.specs.F32.{bits}
use Rattle.op.specs.declared.Op.{Op}
use Rattle.op_fields.specs.Layouts.{Field, float, flag, curve, layout_of}
use Rattle.op_fields.specs.Curves.{curve_numbered}
use Rattle.op_fields.specs.Parts.{op_by}
use Rattle.op_fields.specs.declared.Value.{Value}
use Rattle.op_fields.specs.declared.Value.TheVariants.{Float as the_float, Flag as the_flag, Curve as the_curve}

-- an f32; a u8; "curve u8, g u32"
abbrev pub size_of : Field → ℕ
size_of float = 4
size_of flag = 1
size_of curve = 5

abbrev pub bytes_of : List Field → ℕ
bytes_of [] = 0
bytes_of (f ∷ fs) = size_of f + bytes_of fs

-- "payload bytes"
abbrev pub payload_of : ℕ → ℕ
payload_of kind = bytes_of (layout_of kind)

abbrev pub byte_at : List ℕ → ℕ → ℕ
byte_at s at = get_or s at 0

-- "Little-endian."
abbrev pub u16_at : List ℕ → ℕ → ℕ
u16_at s at = byte_at s at + 0x100 * byte_at s (at + 1)

abbrev pub u32_at : List ℕ → ℕ → ℕ
u32_at s at = u16_at s at + 0x1_0000 * u16_at s (at + 2)

unfoldable pub first_float : List ℕ → Float
first_float s = bits (u32_at s 0)

-- the value of the field at the front of s
abbrev pub value_in : Field → List ℕ → Value
value_in float s = the_float (first_float s)
value_in flag s = the_flag (eqb (byte_at s 0) 1)
value_in curve s = the_curve (curve_numbered (byte_at s 0) (u32_at s 1))

-- the values of these fields, one after the other from the front of s
abbrev pub values_in : List Field → List ℕ → List Value
values_in [] s = []
values_in (f ∷ fs) s = value_in f s ∷ values_in fs (drop (size_of f) s)

-- the op of a kind with the fields at the front of s
unfoldable pub op_read : ℕ → List ℕ → Op
op_read kind s = op_by kind (values_in (layout_of kind) s)
