-- The tests of Named decide equality.
-- A value is read back from its number and its points, so that those decide it.
use Prim.Native.Nat.{ℕ, zero, suc}
use mathlib.Core.Path.{◌≡◌, refl, ap, sym, ◌∙◌}
use mathlib.Core.Bool.{Bool, true, false, true≢false}
use lib.Dec.{eqb}
use lib.IntN.{ℤ}
use borrow.Author.Tests.{eq-eqb, ne_eqb}
use mir.Syntax.{Width}
use mir.Val.{SFits, of_z, to_z}
use mir.Facts.{to_z-of_z}
use Rattle.ciexyz.specs.declared.Millionths.{Millionths}
use Rattle.ciexyz.specs.declared.WhitePoint.{WhitePoint}
use Rattle.ciexyz.specs.declared.WhitePoint.TheVariants as W
use Rattle.ciexyz.specs.declared.Primaries.{Primaries}
use Rattle.ciexyz.specs.declared.Primaries.TheVariants as P
use Rattle.list_same.specs.Same.{same_whole}
use Rattle.notation.proofs.Deciding.{Decides, exactly, numbers, pairs, through}
use Rattle.list_same.proofs.Deciding.{wholes}
use Rattle.encoding.specs.Custom.{corners, custom_white, custom_corners}
use Rattle.encoding.specs.Named.{space_number, same_space, intent_number, same_intent, same_point, white_number, same_white, same_corners, primaries_number, same_primaries}
use Rattle.encoding.specs.declared.ColourSpace.{ColourSpace}
use Rattle.encoding.specs.declared.ColourSpace.TheVariants as S
use Rattle.encoding.specs.declared.RenderingIntent.{RenderingIntent}
use Rattle.encoding.specs.declared.RenderingIntent.TheVariants as I
use Rattle.encoding.specs.declared.custom.Corners.{Corners}

pub spaces : Decides same_space
spaces = through numbers space_number by back
  where
    by : ℕ → ColourSpace
    by zero = S.Rgb
    by (suc zero) = S.Grey
    by (suc (suc zero)) = S.Xyb
    by (suc (suc (suc n))) = S.Unknown

    back : (s : ColourSpace) → by (space_number s) ≡ s
    back S.Rgb = refl
    back S.Grey = refl
    back S.Xyb = refl
    back S.Unknown = refl

pub intents : Decides same_intent
intents = through numbers intent_number by back
  where
    by : ℕ → RenderingIntent
    by zero = I.Perceptual
    by (suc zero) = I.Relative
    by (suc (suc zero)) = I.Saturation
    by (suc (suc (suc n))) = I.Absolute

    back : (i : RenderingIntent) → by (intent_number i) ≡ i
    back I.Perceptual = refl
    back I.Relative = refl
    back I.Saturation = refl
    back I.Absolute = refl

points : Decides same_point
points = through (pairs wholes wholes) (λ (p : Millionths). (p.x, p.y)) (λ (z : ℤ × ℤ). record { x = z.0; y = z.1 }) (λ p. refl)

pub white_points : Decides same_white
white_points = through (pairs numbers points) (λ (w : WhitePoint). (white_number w, custom_white w)) (λ (z : ℕ × Millionths). by z.0 z.1) back
  where
    by : ℕ → Millionths → WhitePoint
    by zero p = W.D65
    by (suc zero) p = W.E
    by (suc (suc zero)) p = W.Dci
    by (suc (suc (suc n))) p = W.Custom p

    back : (w : WhitePoint) → by (white_number w) (custom_white w) ≡ w
    back W.D65 = refl
    back W.E = refl
    back W.Dci = refl
    back (W.Custom p) = refl

all_corners : Decides same_corners
all_corners =
    through (pairs (pairs points points) points)
    (λ (c : Corners). ((c.red, c.green), c.blue)) (λ (z : (Millionths × Millionths) × Millionths). corners z.0.0 z.0.1 z.1) (λ c. refl)

pub all_primaries_lem : Decides same_primaries
all_primaries_lem = through (pairs numbers all_corners) (λ (p : Primaries). (primaries_number p, custom_corners p)) (λ (z : ℕ × Corners). by z.0 z.1) back
  where
    by : ℕ → Corners → Primaries
    by zero c = P.Srgb
    by (suc zero) c = P.Bt2100
    by (suc (suc zero)) c = P.P3
    by (suc (suc (suc n))) c = P.Custom c.red c.green c.blue

    back : (p : Primaries) → by (primaries_number p) (custom_corners p) ≡ p
    back P.Srgb = refl
    back P.Bt2100 = refl
    back P.P3 = refl
    back (P.Custom r g b) = refl

-- two signed numbers that fit are equal where their bits are
module _ (w : Width) (x y : ℤ) (f : SFits w x) (g : SFits w y) where
  pub by_bits : same_whole x y ≡ eqb (of_z w x) (of_z w y)
  by_bits = by (same_whole x y) refl
    where
      by : (b : Bool) → same_whole x y ≡ b → b ≡ eqb (of_z w x) (of_z w y)
      by true e = sym (eq-eqb (of_z w x) (of_z w y) (ap (of_z w) (wholes.equal x y e)))
      by false e = sym (ne_eqb (of_z w x) (of_z w y) (λ h. true≢false (sym ((exactly wholes x y).1 (sym (to_z-of_z f) ∙ ap (to_z w) h ∙ to_z-of_z g)) ∙ e)))
