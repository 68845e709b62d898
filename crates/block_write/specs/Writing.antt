-- What writing a list into a lent buffer answers and leaves there. "Refusals: in this order 10, 9 for a list the reader would refuse by 9, 12 for a
-- buffer too short; each gives length 0 and leaves the buffer untouched." (02, W3). "The writer writes the version asked for"; "writing any
-- other version 8, tested after 10". (02, W8). "15 .. in writing, between 9 and 12, buffer untouched". (02, W10). Definitions only.
use Rattle.std.specs.Prelude.{ℕ, Bool, false, not, List, ◌++◌, ltb, length, drop, Ok, Err, Result}
use Rattle.std.specs.Float.Ieee.{is_nan}
use Rattle.notation.specs.Choice.{when◌then◌else◌}
use Rattle.notation.specs.Several.{any}
use Rattle.notation.specs.Answers.{answer}
use Rattle.notation.specs.declared.Answer.{Answer}
use Rattle.op.specs.Retired.{is_retired}
use Rattle.op.specs.declared.Op.{Op}
use Rattle.op_fields.specs.Curves.{gamma_of}
use Rattle.op_fields.specs.Parts.{values_of}
use Rattle.op_fields.specs.declared.Value.{Value}
use Rattle.op_fields.specs.declared.Value.TheVariants.{Float as the_float, Flag as the_flag, Curve as the_curve}
use Rattle.list.specs.Lists.{ops_of, lawful}
use Rattle.list.specs.declared.Plan.{Plan}
use Rattle.block_read.specs.Block.{known_version}
use Rattle.block_write.specs.Bytes.{block_of}
use Rattle.block_write.specs.declared.WriteError.{WriteError}
use Rattle.block_write.specs.declared.WriteError.TheVariants.{Malformed, WrongVersion, BadField, Retired, NoRoom}

-- what writing answers: so many bytes are written, or a refusal
abbrev pub Writing : Type 0
Writing = Result ℕ WriteError

-- no position is named, and no width
abbrev pub paper : Writing → Answer
paper (Ok n) = answer 0 0 0
paper (Err Malformed) = answer 10 0 0
paper (Err WrongVersion) = answer 8 0 0
paper (Err BadField) = answer 9 0 0
paper (Err Retired) = answer 15 0 0
paper (Err NoRoom) = answer 12 0 0

-- "gives the length used"; a refusal "gives length 0"
abbrev pub length_of : Writing → ℕ
length_of (Ok n) = n
length_of (Err e) = 0

-- whether the reader would refuse a value by 9: "NaN, .. `g` out of range" (01, Plan block); a list holds no other bad field
abbrev pub bad_value : Value → Bool
bad_value (the_float x) = is_nan x
bad_value (the_flag on) = false
bad_value (the_curve c) = ltb 16_777_215 (gamma_of c)

abbrev pub bad_op : Op → Bool
bad_op o = any bad_value (values_of o)

abbrev pub bad_list : Plan → Bool
bad_list p = any bad_op (ops_of p)

abbrev pub retired_list : Plan → Bool
retired_list p = any is_retired (ops_of p)

-- what writing in this version into so many bytes answers: "in this order 10, 9 .., 12", 8 "tested after 10", and 15 "between 9 and 12"
unfoldable pub writing_of : Plan → ℕ → ℕ → Writing
writing_of p version room =
    when not (lawful p) then Err Malformed
    else when not (known_version version) then Err WrongVersion
    else when bad_list p then Err BadField
    else when retired_list p then Err Retired
    else when ltb room (length (block_of version p)) then Err NoRoom
    else Ok (length (block_of version p))

-- the buffer after it: the block, "mark first", and "bytes past that length stay as they were"; a refusal "leaves the buffer untouched"
abbrev pub left_by : Writing → List ℕ → List ℕ → List ℕ
left_by (Ok n) block old = block ++ drop n old
left_by (Err e) block old = old

abbrev pub left_of : Plan → ℕ → List ℕ → List ℕ
left_of p version old = left_by (writing_of p version (length old)) (block_of version p) old
