-- "Bad fields: NaN, a flag above 1, a curve above 8, `g` out of range or nonzero for curves 2 to 8." (01, Plan block). Definitions only.
use Rattle.std.specs.Prelude.{ℕ, Bool, false, not, ◌&&◌, ◌||◌, List, [], ◌∷◌, eqb, leb, ltb, drop}
use Rattle.std.specs.Float.Ieee.{is_nan}
use Rattle.op_fields.specs.Layouts.{Field, float, flag, curve, layout_of}
use Rattle.block_read.specs.Fields.{size_of, byte_at, u32_at, first_float}

-- "`g` is 0 to 16,777,215." (01, Encodings and settings)
abbrev pub bad_curve : ℕ → ℕ → Bool
bad_curve n g = ltb 8 n || ltb 16_777_215 g || (leb 2 n && not (eqb g 0))

-- whether the field at the front of s is bad
abbrev pub is_bad : Field → List ℕ → Bool
is_bad float s = is_nan (first_float s)
is_bad flag s = ltb 1 (byte_at s 0)
is_bad curve s = bad_curve (byte_at s 0) (u32_at s 1)

-- whether one of these fields, one after the other from the front of s, is bad
abbrev pub any_bad : List Field → List ℕ → Bool
any_bad [] s = false
any_bad (f ∷ fs) s = is_bad f s || any_bad fs (drop (size_of f) s)

unfoldable pub bad_field : ℕ → List ℕ → Bool
bad_field kind s = any_bad (layout_of kind) s
