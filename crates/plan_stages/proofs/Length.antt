-- "At most 10 ops before merging." (01, Planning)
-- At most 2 to decode, 4 to convert, 1 for the curve, and 3 between: tone mapping and the PQ to HLG steps never come together.
use Prim.Native.Nat.{ℕ, ◌+◌, ◌≤◌}
use mathlib.Core.Path.{◌≡◌, refl}
use mathlib.Core.List.{List, ◌∷◌, [], ◌++◌}
use mathlib.Core.Bool.{Bool, true, false, ◌&&◌, not, and-false, or-true}
use native.Mathlib.Omega.{arith}
use lib.Ieee.{Float, lt}
use lib.ListN.{length, length-append}
use Rattle.notation.specs.F32.{bits}
use Rattle.notation.specs.Choice.{when◌then◌else◌}
use Rattle.list_same.specs.Same.{same_curve}
use Rattle.op.specs.declared.Curve.TheVariants as C
use Rattle.op.specs.declared.Op.{Op}
use Rattle.encoding.specs.Named.{same_space, same_intent}
use Rattle.encoding.specs.declared.ColourSpace.{ColourSpace}
use Rattle.encoding.specs.declared.ColourSpace.TheVariants as S
use Rattle.encoding.specs.declared.RenderingIntent.TheVariants as I
use Rattle.encoding.specs.declared.EnumColourEncoding.{EnumColourEncoding}
use Rattle.encoding.specs.declared.Settings.{Settings}
use Rattle.plan_stages.specs.Stages.{decode_from, decode_ops, decoded, differs, adapt_ops, from_xyz_op, convert_ops, converted, gamut_map_ops, is_tone_mapped, tone_map_ops, is_pq_to_hlg, near_thousand, inverse_ootf_ops, pq_to_hlg_ops, curve_ops, last_ops, stage_ops}

pub at_most_ten : (source target : EnumColourEncoding) (settings : Settings) → length (stage_ops source target settings) ≤ 10
at_most_ten source target settings =
    let current = decoded source in
    let reached = converted current target in
    omega (
      arith,
      length-append (decode_ops source settings) (convert_ops current target ++ last_ops reached target settings),
      length-append (convert_ops current target) (last_ops reached target settings),
      length-append (tone_map_ops reached target settings) (pq_to_hlg_ops reached target settings ++ curve_ops reached target settings),
      length-append (pq_to_hlg_ops reached target settings) (curve_ops reached target settings),
      decoding source.colour_space,
      conversion current,
      between reached,
      curve reached,
    )
  where
    -- a choice of two lists is no longer than the longer
    choice : (t : Bool) (a b : List Op) (n : ℕ) → length a ≤ n → length b ≤ n → length (when t then a else b) ≤ n
    choice true a b n h k = h
    choice false a b n h k = k

    decoding : (s : ColourSpace) → length (decode_from s source settings) ≤ 2
    decoding S.Xyb = omega arith
    decoding S.Rgb = omega arith
    decoding S.Grey = omega arith
    decoding S.Unknown = omega arith

    adaptation : (e : EnumColourEncoding) → length (adapt_ops e target) ≤ 1
    adaptation e = choice (same_intent e.rendering_intent I.Absolute) _ _ 1 (omega arith) (omega arith)

    conversion : (e : EnumColourEncoding) → length (convert_ops e target) ≤ 4
    conversion e = choice (differs e target) _ _ 4 (omega (arith, length-append (adapt_ops e target) (from_xyz_op target ∷ []), adaptation e)) (omega arith)

    gamut_map : (e : EnumColourEncoding) (f : Float) → length (gamut_map_ops e f) ≤ 1
    gamut_map e f = choice (not (same_space e.colour_space S.Grey) && same_intent e.rendering_intent I.Perceptual) _ _ 1 (omega arith) (omega arith)

    tone_map : (e : EnumColourEncoding) → length (tone_map_ops e target settings) ≤ 2
    tone_map e = choice (is_tone_mapped target settings) _ _ 2 (omega (arith, gamut_map e (bits 0x3e99_999a))) (omega arith)

    inverse-ootf : (e : EnumColourEncoding) → length (inverse_ootf_ops e settings) ≤ 2
    inverse-ootf e = choice (near_thousand settings.intensity_target) _ _ 2 (omega arith) (omega arith)

    pq_to_hlg : (e : EnumColourEncoding) → length (pq_to_hlg_ops e target settings) ≤ 3
    pq_to_hlg e =
        choice (is_pq_to_hlg target settings) _ _ 3
        (omega (arith, length-append (inverse_ootf_ops e settings) (gamut_map_ops e (bits 0x3dcc_cccd)), inverse-ootf e, gamut_map e (bits 0x3dcc_cccd))) (omega arith)

    curve : (e : EnumColourEncoding) → length (curve_ops e target settings) ≤ 1
    curve e = choice (same_curve target.tf C.Linear) _ _ 1 (omega arith) (omega arith)

    -- an Hlg target is HDR, and has no tone mapping; another has no PQ to HLG steps
    between : (e : EnumColourEncoding) → length (tone_map_ops e target settings) + length (pq_to_hlg_ops e target settings) ≤ 3
    between e = by (same_curve target.tf C.Hlg) refl
      where
        by : (t : Bool) → same_curve target.tf C.Hlg ≡ t → length (tone_map_ops e target settings) + length (pq_to_hlg_ops e target settings) ≤ 3
        by true h =
            let n : is_tone_mapped target settings ≡ false = rw (h, or-true (same_curve target.tf C.Pq)) (and-false (lt (bits 0x437f_0000) settings.intensity_target)) in
            rw n (omega (arith, pq_to_hlg e))
        by false h =
            let n : is_pq_to_hlg target settings ≡ false = rw h (and-false settings.from_pq) in
            rw n (omega (arith, tone_map e))
