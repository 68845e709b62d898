-- The verdict on the stages one after the other, and on the plan that is merged from them.
-- Each stage hands on the width of its current encoding, or fails by its test (Verdicts); merging keeps the verdict.
use Prim.Native.Nat.{ℕ, ◌≤◌}
use mathlib.Core.Path.{◌≡◌, refl, ap, sym, ◌∙◌}
use mathlib.Core.Bool.{Bool, true, false, ◌&&◌, ◌||◌, not, and-false, and_comm, or-false}
use mathlib.Core.List.{List, [], ◌++◌}
use native.Mathlib.Omega.{arith}
use lib.ListN.{length}
use Rattle.notation.specs.F32.{bits}
use Rattle.notation.specs.Choice.{when◌then◌else◌}
use Rattle.ciexyz.specs.Points.{illuminant_of}
use Rattle.ciexyz.specs.Xyz.{to_xyz, from_xyz, adapt_of}
use Rattle.ciexyz.specs.declared.Primaries.TheVariants as P
use Rattle.list.specs.Lists.{plan_of, Formed, Lawful}
use Rattle.list_same.specs.Same.{same_curve}
use Rattle.op.specs.declared.Curve.TheVariants as C
use Rattle.op.specs.declared.Op.{Op}
use Rattle.list.specs.declared.Plan.{Plan}
use Rattle.list.proofs.Building.{plan-true}
use Rattle.list.proofs.Formed.{formed-exactly, lawful-exactly}
use Rattle.notation.specs.Answers.{answer}
use Rattle.notation.specs.declared.Answer.{Answer}
use Rattle.list.specs.Answer.{paper}
use Rattle.list.specs.Check.{check_of}
use Rattle.list.specs.Ends.{end_from}
use Rattle.list.proofs.Ending.{told}
use Rattle.list_merge.specs.Merge.{merge_ops}
use Rattle.list_merge.proofs.Keeps.{merge_keeps}
use Rattle.list_merge.proofs.Front.{no_longer}
use Rattle.encoding.specs.Encodings.{channels_of}
use Rattle.encoding.specs.Named.{same_space, same_intent, same_white, same_primaries}
use Rattle.encoding.specs.Equivalence.{equivalent, Equivalent, both_xyb, alike}
use Rattle.encoding.specs.declared.ColourSpace.{ColourSpace}
use Rattle.encoding.specs.declared.ColourSpace.TheVariants as S
use Rattle.encoding.specs.declared.RenderingIntent.TheVariants as I
use Rattle.encoding.specs.declared.EnumColourEncoding.{EnumColourEncoding}
use Rattle.encoding.specs.declared.Settings.{Settings}
use Rattle.encoding.proofs.SameValues.{same_space-exactly}
use Rattle.encoding.proofs.Equivalence.{equivalent-exactly}
use Rattle.notation.proofs.Tests.{fails_exactly}
use Rattle.plan_stages.specs.Stages.{luminances_of, own_luminances, hdr_params, decode_from, decode_ops, decoded, differs, convert_ops, converted, is_tone_mapped, tone_map_ops, is_pq_to_hlg, near_thousand, pq_to_hlg_ops, curve_intensity, curve_ops, last_ops, stage_ops}
use Rattle.plan_stages.proofs.Length.{at_most_ten}
use Rattle.planner.specs.Planning as Planner
use Rattle.planner.specs.declared.Planned.{Planned}
use Rattle.planner.proofs.Sorting.{Sorted, outside, unlabelled, same, lacking, made}
use Rattle.planner.proofs.Building.{wide, one_or_three, merged}
use Rattle.theorem_exceptions.specs.Exceptions.{grey_hlg, grey_perceptual, moves, exception}
use Rattle.theorem_exceptions.proofs.Verdicts.{unless, go_on, curve_verdict, target_curve, convert-verdict, tone-verdict, hlg-verdict, ootf_or_curve, either_fails}

abbrev is_grey : EnumColourEncoding → Bool
is_grey e = same_space e.colour_space S.Grey

-- decoding
module _ (source : EnumColourEncoding) (settings : Settings) where
  decodes : end_from (channels_of source) (decode_ops source settings) ≡ unless (grey_hlg source) (channels_of source)
  decodes = by source.colour_space
    where
      by : (s : ColourSpace) → end_from (wide (same_space s S.Grey)) (decode_from s source settings) ≡ unless (same_curve source.tf C.Hlg && same_space s S.Grey) (wide (same_space s S.Grey))
      by S.Xyb = rw (and-false (same_curve source.tf C.Hlg))
      by S.Rgb = curve_verdict source.tf (hdr_params (own_luminances source) settings.intensity_target settings) true false
      by S.Grey = curve_verdict source.tf (hdr_params (luminances_of P.Srgb source.white_point) settings.intensity_target settings) true true
      by S.Unknown = rw (and-false (same_curve source.tf C.Hlg))

-- what decoding leaves is as wide
grey_stays : (e : EnumColourEncoding) → is_grey (decoded e) ≡ is_grey e
grey_stays e = by e.colour_space refl
  where
    by : (s : ColourSpace) → e.colour_space ≡ s → is_grey (decoded e) ≡ is_grey e
    by S.Rgb q = rw q
    by S.Grey q = rw q
    by S.Xyb q = rw q
    by S.Unknown q = rw q

-- a conversion from Grey is entered where colour space or white point changes
grey_moves : (e t : EnumColourEncoding) → (differs (decoded e) t && grey_perceptual (decoded e)) ≡ (grey_perceptual e && moves e t)
grey_moves e t = by e.colour_space refl
  where
    other : is_grey e ≡ false → (differs (decoded e) t && grey_perceptual (decoded e)) ≡ (grey_perceptual e && moves e t)
    other h = simp (grey_stays e, h, and-false)

    by : (s : ColourSpace) → e.colour_space ≡ s → (differs (decoded e) t && grey_perceptual (decoded e)) ≡ (grey_perceptual e && moves e t)
    by S.Rgb q = other (rw q)
    by S.Grey q =
        let changes = not (same_space S.Grey t.colour_space) || not (same_white e.white_point t.white_point) in
        rw (q, or-false changes) (and_comm changes (same_intent e.rendering_intent I.Perceptual && true))
    by S.Xyb q = other (rw q)
    by S.Unknown q = other (rw q)

-- conversion leaves the target's colour space
module _ (current target : EnumColourEncoding) where
  no_difference : differs current target ≡ false → current.colour_space ≡ target.colour_space
  no_difference e = (same_space-exactly current.colour_space target.colour_space).0 (by (same_space current.colour_space target.colour_space) (not (same_white current.white_point target.white_point)) (same_space current.colour_space S.Rgb && not (same_primaries current.primaries target.primaries)) e)
    where
      by : (a b c : Bool) → (not a || b || c) ≡ false → a ≡ true
      by true b c e = refl
      by false b c e = sym e

  reached-space : (converted current target).colour_space ≡ target.colour_space
  reached-space = by (differs current target) refl
    where
      by : (d : Bool) → differs current target ≡ d → (converted current target).colour_space ≡ target.colour_space
      by true e = rw e
      by false e = rw e (no_difference e)

  converts : end_from (channels_of current) (convert_ops current target) ≡ unless (differs current target && grey_perceptual current) (channels_of target)
  converts =
      convert-verdict (own_luminances current) (bits 0x3e99_999a) (illuminant_of current.white_point) (to_xyz current.primaries current.white_point) (adapt_of current.white_point target.white_point) (from_xyz target.primaries target.white_point)
      (differs current target) (is_grey current) (same_intent current.rendering_intent I.Perceptual) (same_intent current.rendering_intent I.Absolute) (is_grey target)
      ∙ ap (λ (g : Bool). unless (differs current target && grey_perceptual current) (wide g)) (by (differs current target) refl)
    where
      by : (d : Bool) → differs current target ≡ d → (when d then is_grey target else is_grey current) ≡ is_grey target
      by true e = refl
      by false e = ap (λ (s : ColourSpace). same_space s S.Grey) (no_difference e)

-- the stages after the conversion
module _ (e target : EnumColourEncoding) (settings : Settings) where
  lasts : end_from (channels_of e) (last_ops e target settings) ≡ unless (same_curve target.tf C.Hlg && is_grey e) (channels_of e)
  lasts =
      go_on (tone_map_ops e target settings) (pq_to_hlg_ops e target settings ++ curve_ops e target settings) (channels_of e) (channels_of e) false tones
      ∙ go_on (pq_to_hlg_ops e target settings) (curve_ops e target settings) (channels_of e) (channels_of e) ootf-fails hlgs
      ∙ ap (unless ootf-fails) (target_curve target.tf (hdr_params (own_luminances e) (curve_intensity target settings) settings) (is_grey e))
      ∙ ootf_or_curve settings.from_pq (same_curve target.tf C.Hlg) (is_grey e) (near_thousand settings.intensity_target) (channels_of e)
    where
      ootf-fails : Bool
      ootf-fails = is_pq_to_hlg target settings && (is_grey e && not (near_thousand settings.intensity_target))

      tones : end_from (channels_of e) (tone_map_ops e target settings) ≡ channels_of e
      tones =
          tone-verdict (hdr_params (own_luminances e) settings.intensity_target settings) (bits 0x437f_0000) (bits 0x3e99_999a) settings.detect_peak (own_luminances e)
          (is_tone_mapped target settings) (is_grey e) (same_intent e.rendering_intent I.Perceptual)

      hlgs : end_from (channels_of e) (pq_to_hlg_ops e target settings) ≡ unless ootf-fails (channels_of e)
      hlgs =
          hlg-verdict (hdr_params (own_luminances e) settings.intensity_target settings) (bits 0x447a_0000) (bits 0x3dcc_cccd) false (own_luminances e)
          (is_pq_to_hlg target settings) (near_thousand settings.intensity_target) (is_grey e) (same_intent e.rendering_intent I.Perceptual) (hdr_params (own_luminances e) (bits 0x447a_0000) settings)

module _ (source target : EnumColourEncoding) (settings : Settings) where
  -- the list before merging
  unmerged : end_from (channels_of source) (stage_ops source target settings) ≡ unless (exception source target) (channels_of target)
  unmerged =
      go_on (decode_ops source settings) (convert_ops current target ++ last_ops reached target settings) (channels_of source) (channels_of source) (grey_hlg source) (decodes source settings)
      ∙ ap (unless (grey_hlg source)) (ap (λ (g : Bool). end_from (wide g) (convert_ops current target ++ last_ops reached target settings)) (sym (grey_stays source)) ∙ after-decoding)
      ∙ either_fails (grey_hlg source) (grey_perceptual source && moves source target || grey_hlg target) (channels_of target)
    where
      current : EnumColourEncoding
      current = decoded source

      reached : EnumColourEncoding
      reached = converted current target

      last : end_from (channels_of target) (last_ops reached target settings) ≡ unless (grey_hlg target) (channels_of target)
      last = ap (λ (s : ColourSpace). end_from (wide (same_space s S.Grey)) (last_ops reached target settings)) (sym (reached-space current target)) ∙ lasts reached target settings ∙ rw (reached-space current target)

      after-decoding : end_from (channels_of current) (convert_ops current target ++ last_ops reached target settings) ≡ unless (grey_perceptual source && moves source target || grey_hlg target) (channels_of target)
      after-decoding =
          go_on (convert_ops current target) (last_ops reached target settings) (channels_of current) (channels_of target) (differs current target && grey_perceptual current) (converts current target)
          ∙ ap (unless (differs current target && grey_perceptual current)) last
          ∙ either_fails (differs current target && grey_perceptual current) (grey_hlg target) (channels_of target)
          ∙ ap (λ (b : Bool). unless (b || grey_hlg target) (channels_of target)) (grey_moves source target)

  -- the check on a list that begins at the source's width
  pub checked : (os : List Op) → length os ≤ 10 → (paper (check_of (plan_of (channels_of source) os))).width ≡ end_from (channels_of source) os
  checked os h =
      let q = plan_of (channels_of source) os in
      let l : Formed (channels_of source) (length os) = (one_or_three source, omega arith) in
      told q ∙ rw ((lawful-exactly q).1 (l, plan-true (channels_of source) os)) (rw ((formed-exactly (channels_of source) (length os)).1 l))

  -- and on the merged list
  pub of-merged : (paper (check_of (plan_of (channels_of source) (merge_ops (stage_ops source target settings))))).width ≡ unless (exception source target) (channels_of target)
  of-merged =
      ap (λ (p : Plan). (paper (check_of p)).width) (sym (merged source target settings))
      ∙ (merge_keeps before).1
      ∙ checked (stage_ops source target settings) (at_most_ten source target settings)
      ∙ unmerged
    where
      before : Plan
      before = plan_of (channels_of source) (stage_ops source target settings)

-- an answer by another number is not 0
refused : {A : Type 0} {n : ℕ} → answer n 0 0 ≡ answer 0 0 0 → ¬ (n ≡ 0) → A
refused e d = absurd (d (ap (λ (a : Answer). a.number) e))

-- a plan that is not refused is lawful
pub done-lawful : (s t : EnumColourEncoding) (settings : Settings) {p : Planned} → Sorted s t settings p → Planner.paper p.answer ≡ answer 0 0 0 → Lawful p.plan
done-lawful s t settings (outside o) n = refused n (omega arith)
done-lawful s t settings (same i e) n = ((one_or_three s, omega arith), plan-true (channels_of s) [])
done-lawful s t settings (unlabelled i u) n = refused n (omega arith)
done-lawful s t settings (lacking i d l) n = refused n (omega arith)
done-lawful s t settings (made i d l) n =
    ((one_or_three s, omega (arith, no_longer (stage_ops s t settings), at_most_ten s t settings)), plan-true (channels_of s) (merge_ops (stage_ops s t settings)))

-- and the check tells its end width but for the exceptions
pub done-verdict : (s t : EnumColourEncoding) (settings : Settings) {p : Planned} → Sorted s t settings p → Planner.paper p.answer ≡ answer 0 0 0
    → (paper (check_of p.plan)).width ≡ unless (not (equivalent s t) && exception s t) (channels_of t)
done-verdict s t settings (outside o) n = refused n (omega arith)
done-verdict s t settings (same i e) n = rw ((equivalent-exactly s t).1 e) (checked s t settings [] (omega arith) ∙ ap (λ (c : ColourSpace). wide (same_space c S.Grey)) (space e))
  where
    space : Equivalent s t → s.colour_space ≡ t.colour_space
    space (both_xyb e x) = e
    space (alike e i w c p) = e
done-verdict s t settings (unlabelled i u) n = refused n (omega arith)
done-verdict s t settings (lacking i d l) n = refused n (omega arith)
done-verdict s t settings (made i d l) n = rw ((fails_exactly (equivalent-exactly s t)).1 d) (of-merged s t settings)
