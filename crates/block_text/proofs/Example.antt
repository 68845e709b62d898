-- The example of 01: what is printed for its 18 bytes, and for the 19 of version 2; and for blocks that are cut, tell a false end width, or have an
-- op that finds another width or the retired curve. By computing.
use mathlib.Core.Path.{◌≡◌, refl}
use mathlib.Core.List.{[], ◌∷◌, ◌++◌}
use lib.Ieee.{is_nan, of_bits}
use lib.ListN.{replicate}
use Rattle.notation.specs.Text.{ascii}
use Rattle.list.specs.Lists.{is_true}
use Rattle.op_fields.specs.Curves.{curve_numbered}
use Rattle.block_read.specs.Fields.{first_float, op_read}
use Rattle.block_read.specs.BadFields.{bad_field}
use Rattle.block_text.specs.Listing.{text_of}

pub example : text_of (0x43 ∷ 0x54 ∷ 0x50 ∷ 0x01 ∷ 0x00 ∷ 0x01 ∷ 0x03 ∷ 0x09 ∷ 0x01 ∷ 0x00 ∷ 0x00 ∷ 0x00 ∷ 0x3f ∷ 0x00 ∷ 0x00 ∷ 0x80 ∷ 0x3e ∷ 0x02 ∷ [])
    ≡ ascii "start 1 ops 3\n0 Clip\n1 LumaToXyz\n2 XyzToLuma\nend 1\n"
unfolding bad_field op_read first_float is_nan of_bits is_true
example = refl

pub second : text_of (0x43 ∷ 0x54 ∷ 0x50 ∷ 0x02 ∷ 0x00 ∷ 0x01 ∷ 0x03 ∷ 0x01 ∷ 0x09 ∷ 0x01 ∷ 0x00 ∷ 0x00 ∷ 0x00 ∷ 0x3f ∷ 0x00 ∷ 0x00 ∷ 0x80 ∷ 0x3e ∷ 0x02 ∷ [])
    ≡ ascii "start 1 ops 3\n0 Clip\n1 LumaToXyz\n2 XyzToLuma\nend 1\n"
unfolding bad_field op_read first_float is_nan of_bits is_true
second = refl

-- no end width, and one that is false
pub no_end : text_of (0x43 ∷ 0x54 ∷ 0x50 ∷ 0x02 ∷ 0x00 ∷ 0x02 ∷ 0x00 ∷ []) ≡ ascii "refused 7\n"
no_end = refl

pub false_end : text_of (0x43 ∷ 0x54 ∷ 0x50 ∷ 0x02 ∷ 0x00 ∷ 0x01 ∷ 0x01 ∷ 0x03 ∷ 0x09 ∷ []) ≡ ascii "refused 9\n"
unfolding bad_field op_read
false_end = refl

pub cut : text_of (0x43 ∷ 0x54 ∷ 0x50 ∷ 0x01 ∷ 0x00 ∷ 0x01 ∷ 0x03 ∷ 0x09 ∷ []) ≡ ascii "refused 7\n"
unfolding bad_field
cut = refl

pub misfit : text_of (0x43 ∷ 0x54 ∷ 0x50 ∷ 0x01 ∷ 0x00 ∷ 0x01 ∷ 0x02 ∷ 0x09 ∷ 0x02 ∷ []) ≡ ascii "start 1 ops 2\n0 Clip\n1 XyzToLuma\nrefused 5 at 1\n"
unfolding bad_field op_read is_true
misfit = refl

-- a list that fails the check tells 0
pub second-misfit : text_of (0x43 ∷ 0x54 ∷ 0x50 ∷ 0x02 ∷ 0x00 ∷ 0x01 ∷ 0x02 ∷ 0x00 ∷ 0x09 ∷ 0x02 ∷ []) ≡ ascii "start 1 ops 2\n0 Clip\n1 XyzToLuma\nrefused 5 at 1\n"
unfolding bad_field op_read is_true
second-misfit = refl

-- the word `retired` stands behind the name where the curve is Unknown, and not where it is Linear
pub retired : text_of ((0x43 ∷ 0x54 ∷ 0x50 ∷ 0x01 ∷ 0x00 ∷ 0x03 ∷ 0x02 ∷ []) ++ (0x04 ∷ 0x03 ∷ replicate 25 0x00) ++ (0x04 ∷ 0x04 ∷ replicate 25 0x00))
    ≡ ascii "start 3 ops 2\n0 TransferFunction retired\n1 TransferFunction\nend 3\n"
unfolding bad_field op_read first_float is_nan of_bits is_true curve_numbered
retired = refl
