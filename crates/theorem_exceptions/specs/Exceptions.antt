-- The plans that do not pass the width check (demand 3): as a test, and in words.
use Rattle.std.specs.Prelude.{◌≡◌, Bool, ◌&&◌, ◌||◌, not, ◌⊎◌}
use Rattle.list_same.specs.Same.{same_curve}
use Rattle.op.specs.declared.Curve.TheVariants as C
use Rattle.encoding.specs.Named.{same_space, same_intent, same_white}
use Rattle.encoding.specs.declared.ColourSpace.TheVariants as S
use Rattle.encoding.specs.declared.RenderingIntent.TheVariants as I
use Rattle.encoding.specs.declared.EnumColourEncoding.{EnumColourEncoding}

-- ---- the test: the source is Grey with Hlg; or it is Grey with Perceptual intent, and colour space or white point changes;
-- or the target is Grey with Hlg

abbrev pub grey_hlg : EnumColourEncoding → Bool
grey_hlg e = same_curve e.tf C.Hlg && same_space e.colour_space S.Grey

abbrev pub grey_perceptual : EnumColourEncoding → Bool
grey_perceptual e = same_intent e.rendering_intent I.Perceptual && same_space e.colour_space S.Grey

abbrev pub moves : EnumColourEncoding → EnumColourEncoding → Bool
moves source target = not (same_space source.colour_space target.colour_space) || not (same_white source.white_point target.white_point)

abbrev pub exception : EnumColourEncoding → EnumColourEncoding → Bool
exception source target = grey_hlg source || (grey_perceptual source && moves source target || grey_hlg target)

-- ---- in words

pub data Exception (source target : EnumColourEncoding) : Type 0 where
  grey_hlg_source : source.colour_space ≡ S.Grey → source.tf ≡ C.Hlg → Exception source target
  grey_perceptual_source : source.colour_space ≡ S.Grey
      → source.rendering_intent ≡ I.Perceptual
      → (¬ (source.colour_space ≡ target.colour_space)) ⊎ (¬ (source.white_point ≡ target.white_point))
      → Exception source target
  grey_hlg_target : target.colour_space ≡ S.Grey → target.tf ≡ C.Hlg → Exception source target
