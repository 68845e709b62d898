-- When each answer is given, in words and apart from the tests. (02, W3, W8, W10). Definitions and relations only.
use Rattle.std.specs.Prelude.{ℕ, ◌<◌, ◌≡◌, List, [], ◌∷◌, Float, length, Ok, Err}
use Rattle.std.specs.Float.{nan}
use Rattle.notation.specs.Order.{FirstOf}
use Rattle.notation.specs.Several.{Some}
use Rattle.op.specs.Retired as R
use Rattle.op.specs.declared.Curve.{Curve}
use Rattle.op.specs.declared.Op.{Op}
use Rattle.op_fields.specs.Curves.{gamma_of}
use Rattle.op_fields.specs.Parts.{values_of}
use Rattle.op_fields.specs.declared.Value.{Value}
use Rattle.op_fields.specs.declared.Value.TheVariants.{Float as the_float, Curve as the_curve}
use Rattle.list.specs.Lists.{ops_of, Unlawful}
use Rattle.list.specs.declared.Plan.{Plan}
use Rattle.block_read.specs.Refusals.{Known}
use Rattle.block_write.specs.Bytes.{block_of}
use Rattle.block_write.specs.Writing.{Writing}
use Rattle.block_write.specs.declared.WriteError.TheVariants.{Malformed, WrongVersion, BadField, Retired, NoRoom}

-- of "Bad fields: NaN, a flag above 1, a curve above 8, `g` out of range or nonzero for curves 2 to 8." (01, Plan block) a list can hold two
pub data Bad : Value → Type 0 where
  not_a_number : {x : Float} → x ≡ nan → Bad (the_float x)
  g_out_of_range : {c : Curve} → 16_777_215 < gamma_of c → Bad (the_curve c)

abbrev pub BadOp : Op → Type 0
BadOp o = Some Bad (values_of o)

abbrev pub BadList : Plan → Type 0
BadList p = Some BadOp (ops_of p)

-- an op of the list has the Unknown curve
abbrev pub RetiredList : Plan → Type 0
RetiredList p = Some R.Retired (ops_of p)

-- what each refusal is given for
abbrev pub Cause : Plan → ℕ → ℕ → Writing → Type 0
Cause p version room (Err Malformed) = Unlawful p
Cause p version room (Err WrongVersion) = ¬ Known version
Cause p version room (Err BadField) = BadList p
Cause p version room (Err Retired) = RetiredList p
Cause p version room (Err NoRoom) = room < length (block_of version p)
Cause p version room (Ok n) = Unit {0}

-- "in this order 10, 9 .., 12", 8 "tested after 10", and 15 "between 9 and 12"; where none of these is given, the block's length
abbrev pub order : List Writing
order = (Err Malformed) ∷ (Err WrongVersion) ∷ (Err BadField) ∷ (Err Retired) ∷ (Err NoRoom) ∷ []

abbrev pub Given : Plan → ℕ → ℕ → Writing → Type 0
Given p version room writing = FirstOf (Cause p version room) (Ok (length (block_of version p))) order writing
