-- A field's value and its bytes, both ways; then several fields, one after the other.
-- A float by the kit's laws on patterns, a flag by cases, a curve by its number and its `g`; then by induction over the fields.
use Prim.Native.Nat.{ℕ, zero, suc, ◌+◌, ◌≤◌, ◌<◌}
use mathlib.Core.Path.{◌≡◌, refl, ap, sym, subst, ◌∙◌}
use mathlib.Core.Bool.{Bool, true, false, not, ◌&&◌, ◌||◌, or-false, true≢false}
use mathlib.Core.List.{List, [], ◌∷◌, ◌++◌, map, append_assoc}
use native.Mathlib.Omega.{arith}
use borrow.Author.Tests.{lt-ltb, ltb-false, le-leb, eqb-true, not-false}
use lib.Dec.{T, eqb, leb, ltb}
use lib.Ieee.{Float, binary32, of_bits, to_bits, fits, is_nan}
use lib.Ieee.Bits.{of_bits-to_bits, to_bits-of_bits, to_bits-lt}
use lib.ListN.{length, take, drop, length-drop}
use lib.Seq.{drop_at, take-add, get_or-drop}
use Rattle.notation.specs.Several.{any}
use Rattle.notation.proofs.Several.{neither}
use Rattle.op.specs.declared.Curve.{Curve}
use Rattle.op.specs.declared.Curve.TheVariants as C
use Rattle.op_fields.specs.Layouts.{Field, float, flag, curve}
use Rattle.op_fields.specs.Curves.{curve_number, gamma_of, curve_numbered}
use Rattle.op_fields.specs.Parts.{field_of}
use Rattle.op_fields.specs.declared.Value.{Value}
use Rattle.op_fields.specs.declared.Value.TheVariants.{Float as the_float, Flag as the_flag, Curve as the_curve}
use Rattle.op_fields.proofs.Numbers.{curve_back, number_back, gamma-back}
use Rattle.block_read.specs.Fields.{size_of, bytes_of, byte_at, u32_at, first_float, value_in, values_in}
use Rattle.block_read.specs.BadFields.{bad_curve, is_bad, any_bad}
use Rattle.block_write.specs.Bytes.{u32_bytes, value_bytes, joined}
use Rattle.block_write.specs.Writing.{bad_value}
use Rattle.block_write.proofs.Lengths.{value_size}
use Rattle.theorem_roundtrip.specs.Typed.{Held, All, AreBytes}
use Rattle.theorem_roundtrip.proofs.Words.{u32_back, u32_bytes_lem, u32_less}

-- one field: what is written is read
module _ (t : List ℕ) where
  float_read : (x : Float) → T (fits binary32 x) → first_float (u32_bytes (to_bits binary32 x) ++ t) ≡ x
  unfolding first_float
  float_read x h = ap (of_bits binary32) (u32_back (to_bits binary32 x) t (to_bits-lt binary32 x h)) ∙ of_bits-to_bits binary32 x h

  curve-read : (c : Curve) → gamma_of c < 0x1_0000_0000 → u32_at (value_bytes (the_curve c) ++ t) 1 ≡ gamma_of c
  curve-read c h = u32_back (gamma_of c) t h

  value_read : (v : Value) → Held v → value_in (field_of v) (value_bytes v ++ t) ≡ v
  value_read (the_float x) h = ap the_float (float_read x h)
  value_read (the_flag true) h = refl
  value_read (the_flag false) h = refl
  value_read (the_curve c) h = ap (λ (g : ℕ). the_curve (curve_numbered (curve_number c) g)) (curve-read c h) ∙ ap the_curve (curve_back c)

  -- and is bad where the value is
  curve-bad : (c : Curve) → bad_curve (curve_number c) (gamma_of c) ≡ ltb 16_777_215 (gamma_of c)
  curve-bad (C.Gamma g true) = or-false (ltb 16_777_215 g)
  curve-bad (C.Gamma g false) = or-false (ltb 16_777_215 g)
  curve-bad C.Bt709 = refl
  curve-bad C.Unknown = refl
  curve-bad C.Linear = refl
  curve-bad C.Srgb = refl
  curve-bad C.Pq = refl
  curve-bad C.Dci = refl
  curve-bad C.Hlg = refl

  value-bad : (v : Value) → Held v → is_bad (field_of v) (value_bytes v ++ t) ≡ bad_value v
  value-bad (the_float x) h = ap is_nan (float_read x h)
  value-bad (the_flag true) h = refl
  value-bad (the_flag false) h = refl
  value-bad (the_curve c) h = ap (bad_curve (curve_number c)) (curve-read c h) ∙ curve-bad c

-- a curve's number and `g`, where they are not bad
module _ (n g : ℕ) (e : bad_curve n g ≡ false) where
  outside : (ltb 8 n || ltb 16_777_215 g) ≡ false
  outside = (neither (ltb 8 n || ltb 16_777_215 g) (leb 2 n && not (eqb g 0)) e).0

  known : n ≤ 8
  known = ltb-false 8 n (neither (ltb 8 n) (ltb 16_777_215 g) outside).0

  in_range : ltb 16_777_215 g ≡ false
  in_range = (neither (ltb 8 n) (ltb 16_777_215 g) outside).1

  none : 2 ≤ n → g ≡ 0
  none h =
      let f : not (eqb g 0) ≡ false = rw (le-leb 2 n h) at (neither (ltb 8 n || ltb 16_777_215 g) (leb 2 n && not (eqb g 0)) e).1 in
      eqb-true g 0 (not-false (eqb g 0) f)

  number_is : curve_number (curve_numbered n g) ≡ n
  number_is = number_back n g known

  gamma-is : gamma_of (curve_numbered n g) ≡ g
  gamma-is = gamma-back n g none

-- one field: what is read, and not bad, is written
value_written : (f : Field) (s : List ℕ) → AreBytes s → size_of f ≤ length s → is_bad f s ≡ false → value_bytes (value_in f s) ≡ take (size_of f) s
unfolding first_float
value_written float s b h e = ap u32_bytes (to_bits-of_bits binary32 (u32_at s 0) (u32_less s b) (subst (λ (x : Bool). T (not x)) (sym e) tt)) ∙ u32_bytes_lem s b h
value_written flag [] b h e = absurd (omega arith)
value_written flag (zero ∷ s) b h e = refl
value_written flag (suc zero ∷ s) b h e = refl
value_written flag (suc (suc n) ∷ s) b h e = absurd (true≢false (sym (lt-ltb 1 (suc (suc n)) (omega arith)) ∙ e))
value_written curve [] b h e = absurd (omega arith)
value_written curve (n ∷ s) b h e = rw (number_is n (u32_at s 0) e, gamma-is n (u32_at s 0) e, u32_bytes_lem s (λ i. b (suc i)) (omega arith))

-- and is not bad
value_good : (f : Field) (s : List ℕ) → is_bad f s ≡ false → bad_value (value_in f s) ≡ false
value_good float s e = e
value_good flag s e = refl
value_good curve s e = ap (ltb 16_777_215) (gamma-is (byte_at s 0) (u32_at s 1) e) ∙ in_range (byte_at s 0) (u32_at s 1) e

-- several fields: what is written is read
module _ (t : List ℕ) where
  behind : (v : Value) (vs : List Value) → drop (size_of (field_of v)) ((value_bytes v ++ joined value_bytes vs) ++ t) ≡ joined value_bytes vs ++ t
  behind v vs = rw (append_assoc (value_bytes v) (joined value_bytes vs) t) (drop_at (value_bytes v) (joined value_bytes vs ++ t) (size_of (field_of v)) (value_size v))

  pub values-read : (vs : List Value) → All Held vs → values_in (map field_of vs) (joined value_bytes vs ++ t) ≡ vs
  values-read [] h = refl
  values-read (v ∷ vs) h =
      rw (behind v vs, append_assoc (value_bytes v) (joined value_bytes vs) t, value_read (joined value_bytes vs ++ t) v h.0, values-read vs h.1)

  pub values-bad : (vs : List Value) → All Held vs → any_bad (map field_of vs) (joined value_bytes vs ++ t) ≡ any bad_value vs
  values-bad [] h = refl
  values-bad (v ∷ vs) h =
      rw (behind v vs, append_assoc (value_bytes v) (joined value_bytes vs) t, value-bad (joined value_bytes vs ++ t) v h.0, values-bad vs h.1)

-- several fields: what is read, none bad, is written
pub values_shape : (fs : List Field) (s : List ℕ) → map field_of (values_in fs s) ≡ fs
values_shape [] s = refl
values_shape (f ∷ fs) s = rw (field-of f s, values_shape fs (drop (size_of f) s))
  where
    field-of : (f : Field) (s : List ℕ) → field_of (value_in f s) ≡ f
    field-of float s = refl
    field-of flag s = refl
    field-of curve s = refl

pub bytes_drop : (n : ℕ) (s : List ℕ) → AreBytes s → AreBytes (drop n s)
bytes_drop n s b i = rw (get_or-drop n s i 0) (b (n + i))

pub values_written : (fs : List Field) (s : List ℕ) → AreBytes s → bytes_of fs ≤ length s → any_bad fs s ≡ false → joined value_bytes (values_in fs s) ≡ take (bytes_of fs) s
values_written [] s b h e = refl
values_written (f ∷ fs) s b h e =
    let n = neither (is_bad f s) (any_bad fs (drop (size_of f) s)) e in
    rw
    (value_written f s b (omega arith) n.0, values_written fs (drop (size_of f) s) (bytes_drop (size_of f) s b) (omega (arith, length-drop (size_of f) s)) n.1, take-add (size_of f) (bytes_of fs) s)

pub values_good : (fs : List Field) (s : List ℕ) → any_bad fs s ≡ false → any bad_value (values_in fs s) ≡ false
values_good [] s e = refl
values_good (f ∷ fs) s e =
    let n = neither (is_bad f s) (any_bad fs (drop (size_of f) s)) e in
    rw (value_good f s n.0, values_good fs (drop (size_of f) s) n.1)
