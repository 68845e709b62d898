-- That rewriting speaks of blocks without curve 3 is needed: a block that has it, of either version, is read, and its list is not written.
-- By computing, from a list of one TransferFunction of the Unknown curve.
use Prim.Native.Nat.{ℕ}
use mathlib.Core.Path.{◌≡◌, refl}
use mathlib.Core.List.{List, [], ◌∷◌, ◌++◌}
use lib.Ieee.{is_nan, of_bits}
use lib.ListN.{replicate}
use Rattle.notation.specs.Answers.{answer}
use Rattle.list.specs.Lists.{is_true}
use Rattle.op_fields.specs.Curves.{curve_numbered}
use Rattle.block_read.specs.Fields.{first_float, op_read}
use Rattle.block_read.specs.BadFields.{bad_field}
use Rattle.block_read.specs.Block.{paper as reading_paper, read_of}
use Rattle.block_write.specs.Writing.{paper, writing_of}

-- the op: its kind, curve 3, and zeros
abbrev op : List ℕ
op = 0x04 ∷ 0x03 ∷ replicate 25 0x00

abbrev first : List ℕ
first = (0x43 ∷ 0x54 ∷ 0x50 ∷ 0x01 ∷ 0x00 ∷ 0x01 ∷ 0x01 ∷ []) ++ op

abbrev second : List ℕ
second = (0x43 ∷ 0x54 ∷ 0x50 ∷ 0x02 ∷ 0x00 ∷ 0x01 ∷ 0x01 ∷ 0x01 ∷ []) ++ op

pub still_read : (reading_paper (read_of first).answer ≡ answer 0 0 0) × (reading_paper (read_of second).answer ≡ answer 0 0 0)
unfolding bad_field op_read first_float is_nan of_bits is_true curve_numbered
still_read = (refl, refl)

pub not_written : (paper (writing_of (read_of first).plan 1 1192) ≡ answer 15 0 0) × (paper (writing_of (read_of second).plan 2 1192) ≡ answer 15 0 0)
unfolding bad_field op_read first_float is_nan of_bits is_true curve_numbered writing_of
not_written = (refl, refl)
