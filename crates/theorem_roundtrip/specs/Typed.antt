-- What the types say: a list has room for thirty-two ops, each float is an f32 and each `g` a u32; the elements of a slice are bytes.
-- The theorems speak of such lists and slices, and no others come up. Definitions only.
use Rattle.std.specs.Prelude.{ℕ, ◌<◌, ◌≡◌, List, [], ◌∷◌, T, length}
use Rattle.std.specs.Float.{binary32}
use Rattle.std.specs.Float.Ieee.{fits}
use Rattle.op.specs.declared.Op.{Op}
use Rattle.op_fields.specs.Curves.{gamma_of}
use Rattle.op_fields.specs.Parts.{values_of}
use Rattle.op_fields.specs.declared.Value.{Value}
use Rattle.op_fields.specs.declared.Value.TheVariants.{Float as the_float, Flag as the_flag, Curve as the_curve}
use Rattle.list.specs.Lists.{ops_of}
use Rattle.list.specs.declared.Plan.{Plan}
use Rattle.block_read.specs.Fields.{byte_at}

-- a value as its field holds it
abbrev pub Held : Value → Type 0
Held (the_float x) = T (fits binary32 x)
Held (the_flag on) = Unit {0}
Held (the_curve c) = gamma_of c < 0x1_0000_0000

-- each of several is such
abbrev pub All : {A : Type 0} → (A → Type 0) → List A → Type 0
All Such [] = Unit {0}
All Such (x ∷ xs) = Such x × All Such xs

abbrev pub OpHeld : Op → Type 0
OpHeld o = All Held (values_of o)

-- "A list is a start width, a count and room for thirty-two ops" (01, Refusal numbers); the ops past its count are not looked at
pub record Typed (p : Plan) : Type 0 where
  pub slots : length p.ops ≡ 32
  pub values : All OpHeld (ops_of p)

-- u8: past the end of the slice `byte_at` is 0
abbrev pub AreBytes : List ℕ → Type 0
AreBytes s = (i : ℕ) → byte_at s i < 0x100
