-- The example of 01: the bytes of the list that its block holds, in both versions; and a list that cannot be written.
-- By computing.
use Rattle.std.specs.Prelude.{Err}
use Prim.Native.Nat.{ℕ}
use mathlib.Core.Path.{◌≡◌, refl}
use mathlib.Core.List.{List, [], ◌∷◌}
use lib.Ieee.{nan, is_nan, of_bits, to_bits}
use Rattle.notation.specs.F32.{bits, one}
use Rattle.op.specs.declared.Op.TheVariants as O
use Rattle.list.specs.Lists.{plan_of, is_true}
use Rattle.list.specs.declared.Plan.{Plan}
use Rattle.block_write.specs.Bytes.{block_of}
use Rattle.block_write.specs.Writing.{writing_of}
use Rattle.block_write.specs.declared.WriteError.TheVariants.{WrongVersion, BadField}

-- Clip, LumaToXyz at (0.5, 0.25), XyzToLuma
abbrev list : Plan
list = plan_of 1 (O.Clip ∷ O.LumaToXyz (record { x = bits 0x3f00_0000; y = bits 0x3e80_0000 }) ∷ O.XyzToLuma ∷ [])

abbrev ops : List ℕ
ops = 0x09 ∷ 0x01 ∷ 0x00 ∷ 0x00 ∷ 0x00 ∷ 0x3f ∷ 0x00 ∷ 0x00 ∷ 0x80 ∷ 0x3e ∷ 0x02 ∷ []

pub example : block_of 1 list ≡ 0x43 ∷ 0x54 ∷ 0x50 ∷ 0x01 ∷ 0x00 ∷ 0x01 ∷ 0x03 ∷ ops
unfolding of_bits to_bits
example = refl

-- it ends at width 1
pub second : block_of 2 list ≡ 0x43 ∷ 0x54 ∷ 0x50 ∷ 0x02 ∷ 0x00 ∷ 0x01 ∷ 0x03 ∷ 0x01 ∷ ops
unfolding of_bits to_bits
second = refl

-- 8 before 9, and 9 before 12: a NaN, and no byte of room
abbrev unwritable : Plan
unwritable = plan_of 1 (O.LumaToXyz (record { x = nan; y = one }) ∷ [])

pub eight_first : writing_of unwritable 3 0 ≡ Err WrongVersion
unfolding writing_of is_true
eight_first = refl

pub nine_first : writing_of unwritable 2 0 ≡ Err BadField
unfolding writing_of is_true is_nan
nine_first = refl
