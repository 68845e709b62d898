-- The test `equivalent` holds exactly where encodings are equivalent in words.
-- Part by part: each comparison is equality (SameValues).
use mathlib.Core.Path.{◌≡◌}
use mathlib.Core.Bool.{true}
use mathlib.Core.Logic.{◌↔◌, ◌⊎◌, inl, inr, ⊎_elim}
use Rattle.list_same.proofs.Exactly.{same_curve-exactly}
use Rattle.encoding.specs.Equivalence.{equivalent, Equivalent, both_xyb, alike}
use Rattle.encoding.specs.declared.ColourSpace.TheVariants as S
use Rattle.encoding.specs.declared.EnumColourEncoding.{EnumColourEncoding}
use Rattle.encoding.proofs.SameValues.{same_space-exactly, same_intent-exactly, same_white-exactly, same_primaries-exactly}
use Rattle.notation.proofs.Tests.{both-exactly, either-exactly}

module _ (me other : EnumColourEncoding) where
  pub equivalent-exactly : (equivalent me other ≡ true) ↔ Equivalent me other
  equivalent-exactly = (
    λ e. let h = parts.0 e in ⊎_elim (both_xyb h.0) (λ k. alike h.0 k.0.0.0 k.0.0.1 k.0.1 k.1) h.1,
    back,
  )
    where
      Parts : Type 0
      Parts =
          (me.colour_space ≡ other.colour_space)
          × ((me.colour_space ≡ S.Xyb)
          ⊎ ((((me.rendering_intent ≡ other.rendering_intent) × (me.white_point ≡ other.white_point)) × (me.tf ≡ other.tf))
          × ((me.colour_space ≡ S.Grey) ⊎ (me.primaries ≡ other.primaries))))

      parts : (equivalent me other ≡ true) ↔ Parts
      parts =
          both-exactly (same_space-exactly me.colour_space other.colour_space)
          (either-exactly (same_space-exactly me.colour_space S.Xyb)
          (both-exactly
          (both-exactly
          (both-exactly (same_intent-exactly me.rendering_intent other.rendering_intent) (same_white-exactly me.white_point other.white_point))
          (same_curve-exactly me.tf other.tf))
          (either-exactly (same_space-exactly me.colour_space S.Grey) (same_primaries-exactly me.primaries other.primaries))))

      back : Equivalent me other → equivalent me other ≡ true
      back (both_xyb s x) = parts.1 (s, inl x)
      back (alike s i w c p) = parts.1 (s, inr (((i, w), c), p))
