-- A plan that is not refused passes the width check, and ends at the target's width, except exactly where the sides are not equivalent
-- and one of three exceptions holds (demand 3). One equation says it, from the verdict on the stages (Whole); the rest are its readings.
use Prim.Native.Nat.{ℕ}
use mathlib.Core.Path.{◌≡◌, refl, ap, sym, ◌∙◌}
use mathlib.Core.Bool.{Bool, true, false, ◌&&◌, not}
use mathlib.Core.Logic.{◌↔◌, ◌⊎◌, inl, inr, ⊎_elim}
use native.Mathlib.Omega.{arith}
use Rattle.notation.specs.Choice.{when◌then◌else◌}
use Rattle.op.specs.declared.Curve.TheVariants as C
use Rattle.list.specs.declared.Plan.{Plan}
use Rattle.list.proofs.Formed.{never_both}
use Rattle.list.proofs.Bounds.{end-within}
use Rattle.list_same.proofs.Exactly.{same_curve-exactly}
use Rattle.notation.specs.Answers.{answer}
use Rattle.notation.specs.declared.Answer.{Answer}
use Rattle.list.specs.Answer.{paper}
use Rattle.list.specs.Check.{check_of}
use Rattle.list.proofs.Judging.{Judged, malformed, passing, failing, judged, is-malformed, is-passing, is-failing, apart}
use Rattle.encoding.specs.Encodings.{channels_of}
use Rattle.encoding.specs.Equivalence.{equivalent, Equivalent}
use Rattle.encoding.specs.declared.ColourSpace.TheVariants as S
use Rattle.encoding.specs.declared.RenderingIntent.TheVariants as I
use Rattle.encoding.specs.declared.EnumColourEncoding.{EnumColourEncoding}
use Rattle.encoding.specs.declared.ColourEncoding.TheVariants as E
use Rattle.encoding.specs.declared.Settings.{Settings}
use Rattle.encoding.proofs.SameValues.{same_space-exactly, same_intent-exactly, same_white-exactly}
use Rattle.encoding.proofs.Equivalence.{equivalent-exactly}
use Rattle.notation.proofs.Tests.{fails_exactly, negated, both-exactly, either-exactly}
use Rattle.planner.specs.Planning.{planned_of}
use Rattle.planner.specs.Planning as Planner
use Rattle.planner.proofs.Building.{one_or_three}
use Rattle.planner.proofs.Sorting.{sorted}
use Rattle.theorem_exceptions.specs.Exceptions.{exception, Exception, grey_hlg_source, grey_perceptual_source, grey_hlg_target}
use Rattle.theorem_exceptions.proofs.Whole.{done-lawful, done-verdict}

module _ (source target : EnumColourEncoding) where
  -- the test holds exactly for the exceptions in words
  pub exception-exactly : (exception source target ≡ true) ↔ Exception source target
  exception-exactly = (
    λ e. ⊎_elim (λ h. grey_hlg_source h.1 h.0) (⊎_elim (λ h. grey_perceptual_source h.0.1 h.0.0 h.1) (λ h. grey_hlg_target h.1 h.0)) (parts.0 e),
    back,
  )
    where
      Parts : Type 0
      Parts =
          ((source.tf ≡ C.Hlg) × (source.colour_space ≡ S.Grey))
          ⊎ ((((source.rendering_intent ≡ I.Perceptual) × (source.colour_space ≡ S.Grey))
          × ((¬ (source.colour_space ≡ target.colour_space)) ⊎ (¬ (source.white_point ≡ target.white_point))))
          ⊎ ((target.tf ≡ C.Hlg) × (target.colour_space ≡ S.Grey)))

      parts : (exception source target ≡ true) ↔ Parts
      parts =
          either-exactly (both-exactly (same_curve-exactly source.tf C.Hlg) (same_space-exactly source.colour_space S.Grey))
          (either-exactly
          (both-exactly
          (both-exactly (same_intent-exactly source.rendering_intent I.Perceptual) (same_space-exactly source.colour_space S.Grey))
          (either-exactly (negated (fails_exactly (same_space-exactly source.colour_space target.colour_space))) (negated (fails_exactly (same_white-exactly source.white_point target.white_point)))))
          (both-exactly (same_curve-exactly target.tf C.Hlg) (same_space-exactly target.colour_space S.Grey)))

      back : Exception source target → exception source target ≡ true
      back (grey_hlg_source s c) = parts.1 (inl (c, s))
      back (grey_perceptual_source s i m) = parts.1 (inr (inl ((i, s), m)))
      back (grey_hlg_target s c) = parts.1 (inr (inr (c, s)))

  excepted-exactly : ((not (equivalent source target) && exception source target) ≡ true) ↔ ((¬ Equivalent source target) × Exception source target)
  excepted-exactly = both-exactly (negated (fails_exactly (equivalent-exactly source target))) exception-exactly

module _ (source target : EnumColourEncoding) (settings : Settings) (done : Planner.paper (planned_of (E.Enum source) (E.Enum target) settings).answer ≡ answer 0 0 0) where
  abbrev plan : Plan
  plan = (planned_of (E.Enum source) (E.Enum target) settings).plan

  -- the equation: the end width that the check tells, 0 where it refuses
  pub verdict : (paper (check_of plan)).width ≡ (when not (equivalent source target) && exception source target then 0 else channels_of target)
  verdict = done-verdict source target settings (sorted source target settings) done

  -- a width that is told is not 0
  not-0 : (n : ℕ) → n ≡ 0 → n ≡ channels_of target → ⊥
  not-0 n e f = ⊎_elim (λ k. omega arith) (λ k. omega arith) (one_or_three target)

  told-width : {n i v w : ℕ} → paper (check_of plan) ≡ answer n i v → (paper (check_of plan)).width ≡ w → v ≡ w
  told-width e f = sym (ap (λ (a : Answer). a.width) e) ∙ f

  -- it passes, and ends at the target's width, exactly where it is no exception
  pub passes-exactly : (paper (check_of plan) ≡ answer 0 0 (channels_of target)) ↔ (¬ ((¬ Equivalent source target) × Exception source target))
  passes-exactly = (
    λ e x. not-0 (channels_of target) (told-width e (verdict ∙ rw ((excepted-exactly source target).1 x))) refl,
    λ n. by (judged plan) (verdict ∙ rw ((fails_exactly (excepted-exactly source target)).1 n)),
  )
    where
      by : Judged plan → (paper (check_of plan)).width ≡ channels_of target → paper (check_of plan) ≡ answer 0 0 (channels_of target)
      by (malformed u) e = absurd (not-0 0 refl (told-width (is-malformed plan u) e))
      by (passing l f) e = is-passing plan l f ∙ ap (answer 0 0) (told-width (is-passing plan l f) e)
      by (failing l f) e = absurd (not-0 0 refl (told-width (is-failing plan l f) e))

  -- no other end width is told
  pub end-width : (v : ℕ) → paper (check_of plan) ≡ answer 0 0 v → v ≡ channels_of target
  end-width v e = by (judged plan) (not (equivalent source target) && exception source target) (told-width e verdict)
    where
      by : Judged plan → (x : Bool) → v ≡ (when x then 0 else channels_of target) → v ≡ channels_of target
      by j false h = h
      by (malformed u) true h = apart e (is-malformed plan u) (omega arith)
      by (passing l f) true h = let s = (end-within plan l f).some in let k = told-width (is-passing plan l f) (ap (λ (a : Answer). a.width) e) in absurd (omega arith)
      by (failing l f) true h = apart e (is-failing plan l f) (omega arith)

  -- it fails, by 5, exactly where it is an exception
  pub fails-exactly-where : ((i : ℕ) × (paper (check_of plan) ≡ answer 5 i 0)) ↔ ((¬ Equivalent source target) × Exception source target)
  fails-exactly-where = (
    λ h. (excepted-exactly source target).0 (read (not (equivalent source target) && exception source target) refl (told-width h.1 verdict)),
    λ x. by (judged plan) (verdict ∙ rw ((excepted-exactly source target).1 x)),
  )
    where
      read : (x : Bool) → (not (equivalent source target) && exception source target) ≡ x → 0 ≡ (when x then 0 else channels_of target) → (not (equivalent source target) && exception source target) ≡ true
      read true q h = q
      read false q h = absurd (not-0 0 refl h)

      by : Judged plan → (paper (check_of plan)).width ≡ 0 → (i : ℕ) × (paper (check_of plan) ≡ answer 5 i 0)
      by (malformed u) e = absurd (never_both plan (done-lawful source target settings (sorted source target settings) done) u)
      by (passing l f) e = let s = (end-within plan l f).some in let k = told-width (is-passing plan l f) e in absurd (omega arith)
      by (failing {i} l f) e = (i, is-failing plan l f)
