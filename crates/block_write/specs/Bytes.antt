-- A list as the bytes of its plan block: "Little-endian. Mark `CTP`, version u16 = 1, start width u8, count u8, then ops: a kind byte and its
-- fields in f32 unless said." (01, Plan block). "Plan block version 2 has the end width as one byte after the count". (02, W8)
-- Which fields a kind has, and in which order, is said in `op_fields`. Definitions only.
use Rattle.std.specs.Prelude.{ℕ, zero, suc, ◌+◌, ◌/◌, ◌%◌, List, [], ◌∷◌, ◌++◌, eqb}
use Rattle.std.specs.Float.{binary32}
use Rattle.std.specs.Float.Ieee.{to_bits}
use Rattle.notation.specs.Choice.{when◌then◌else◌}
use Rattle.notation.specs.Text.{ascii}
use Rattle.op.specs.declared.Op.{Op}
use Rattle.op_fields.specs.Curves.{curve_number, gamma_of}
use Rattle.op_fields.specs.Parts.{kind_of, values_of}
use Rattle.op_fields.specs.declared.Value.{Value}
use Rattle.op_fields.specs.declared.Value.TheVariants.{Float as the_float, Flag as the_flag, Curve as the_curve}
use Rattle.list.specs.Lists.{ops_of}
use Rattle.list.specs.declared.Plan.{Plan}
use Rattle.block_read.specs.Fields.{payload_of}

-- "Little-endian.": so many bytes of a number, the lowest first
abbrev pub little_endian : ℕ → ℕ → List ℕ
little_endian zero n = []
little_endian (suc k) n = n % 0x100 ∷ little_endian k (n / 0x100)

abbrev pub u16_bytes : ℕ → List ℕ
u16_bytes n = little_endian 2 n

abbrev pub u32_bytes : ℕ → List ℕ
u32_bytes n = little_endian 4 n

-- an f32 by its bits; a flag, u8; "curve u8, g u32"
abbrev pub value_bytes : Value → List ℕ
value_bytes (the_float x) = u32_bytes (to_bits binary32 x)
value_bytes (the_flag on) = (when on then 1 else 0) ∷ []
value_bytes (the_curve c) = curve_number c ∷ u32_bytes (gamma_of c)

-- the bytes of several, one behind the other
abbrev pub joined : {A : Type 0} → (A → List ℕ) → List A → List ℕ
joined bytes [] = []
joined bytes (x ∷ xs) = bytes x ++ joined bytes xs

-- "a kind byte and its fields"
abbrev pub op_bytes : Op → List ℕ
op_bytes o = kind_of o ∷ joined value_bytes (values_of o)

-- version 2 has "the end width as one byte after the count"
abbrev pub end_bytes : ℕ → ℕ → List ℕ
end_bytes version end = when eqb version 2 then end ∷ [] else []

-- "Mark `CTP`, version u16 .., start width u8, count u8"
abbrev pub head_bytes : ℕ → Plan → List ℕ
head_bytes version p = (ascii "CTP" ++ (u16_bytes version ++ (p.start ∷ p.count ∷ []))) ++ end_bytes version p.end

-- the block of a list, in this version
abbrev pub block_of : ℕ → Plan → List ℕ
block_of version p = head_bytes version p ++ joined op_bytes (ops_of p)

-- the bytes that 01's table gives for ops: a kind byte and "payload bytes" each
abbrev pub ops_size : List Op → ℕ
ops_size [] = 0
ops_size (o ∷ os) = 1 + payload_of (kind_of o) + ops_size os
