-- A value is that of its number in the tables, and a number of a table that of its value; and the points behind a custom one are its own.
-- By computing, value by value and number by number.
use Prim.Native.Nat.{ℕ, zero, suc, ◌≤◌, ◌<◌}
use mathlib.Core.Path.{◌≡◌, refl, ap, sym, ◌∙◌}
use mathlib.Core.Bool.{Bool, true, false}
use native.Mathlib.Omega.{arith}
use lib.IntN.{ℤ, pos, negsuc}
use Rattle.ciexyz.specs.declared.Millionths.{Millionths}
use Rattle.ciexyz.specs.declared.WhitePoint.{WhitePoint}
use Rattle.ciexyz.specs.declared.WhitePoint.TheVariants as W
use Rattle.ciexyz.specs.declared.Primaries.{Primaries}
use Rattle.ciexyz.specs.declared.Primaries.TheVariants as P
use Rattle.op.specs.declared.Curve.{Curve}
use Rattle.op.specs.declared.Curve.TheVariants as C
use Rattle.op_fields.specs.Curves.{curve_number, gamma_of, curve_numbered}
use Rattle.op_fields.proofs.Numbers.{number_back}
use Rattle.encoding.specs.Custom.{custom_white, custom_corners}
use Rattle.encoding.specs.Named.{space_number, intent_number, white_number, primaries_number}
use Rattle.encoding.specs.declared.custom.Corners.{Corners}
use Rattle.encoding.specs.declared.ColourSpace.{ColourSpace}
use Rattle.encoding.specs.declared.ColourSpace.TheVariants as S
use Rattle.encoding.specs.declared.RenderingIntent.{RenderingIntent}
use Rattle.encoding.specs.declared.RenderingIntent.TheVariants as I
use Rattle.encoding_numbers.specs.Sides.{natural, space_numbered, intent_numbered, white_numbered, primaries_numbered}

-- a number that stands in a table is not negative
pub whole : (z : ℤ) (last : ℕ) → natural z ≤ last → last < 0xffff_ffff → z ≡ pos (natural z)
whole (pos n) last h k = refl
whole (negsuc n) last h k = absurd (omega arith)

-- the numbers of a table of four
of_four : (P : ℕ → Type 0) → P 0 → P 1 → P 2 → P 3 → (n : ℕ) → n ≤ 3 → P n
of_four P a b c d zero h = a
of_four P a b c d (suc zero) h = b
of_four P a b c d (suc (suc zero)) h = c
of_four P a b c d (suc (suc (suc zero))) h = d
of_four P a b c d (suc (suc (suc (suc n)))) h = absurd (omega arith)

pub space-small : (s : ColourSpace) → space_number s ≤ 3
space-small S.Rgb = omega arith
space-small S.Grey = omega arith
space-small S.Xyb = omega arith
space-small S.Unknown = omega arith

pub space-back : (s : ColourSpace) → space_numbered (space_number s) ≡ s
unfolding space_numbered
space-back S.Rgb = refl
space-back S.Grey = refl
space-back S.Xyb = refl
space-back S.Unknown = refl

pub space-number : (n : ℕ) → n ≤ 3 → space_number (space_numbered n) ≡ n
unfolding space_numbered
space-number = of_four (λ n. space_number (space_numbered n) ≡ n) refl refl refl refl

pub intent-small : (i : RenderingIntent) → intent_number i ≤ 3
intent-small I.Perceptual = omega arith
intent-small I.Relative = omega arith
intent-small I.Saturation = omega arith
intent-small I.Absolute = omega arith

pub intent-back : (i : RenderingIntent) → intent_numbered (intent_number i) ≡ i
unfolding intent_numbered
intent-back I.Perceptual = refl
intent-back I.Relative = refl
intent-back I.Saturation = refl
intent-back I.Absolute = refl

pub intent-number : (n : ℕ) → n ≤ 3 → intent_number (intent_numbered n) ≡ n
unfolding intent_numbered
intent-number = of_four (λ n. intent_number (intent_numbered n) ≡ n) refl refl refl refl

pub white_small : (w : WhitePoint) → white_number w ≤ 3
white_small W.D65 = omega arith
white_small W.E = omega arith
white_small W.Dci = omega arith
white_small (W.Custom p) = omega arith

module _ (p : Millionths) where
  pub white-back : (w : WhitePoint) → ((q : Millionths) → w ≡ W.Custom q → p ≡ q) → white_numbered (white_number w) p ≡ w
  unfolding white_numbered
  white-back W.D65 h = refl
  white-back W.E h = refl
  white-back W.Dci h = refl
  white-back (W.Custom q) h = ap W.Custom (h q refl)

  pub white-number : (n : ℕ) → n ≤ 3 → white_number (white_numbered n p) ≡ n
  unfolding white_numbered
  white-number = of_four (λ n. white_number (white_numbered n p) ≡ n) refl refl refl refl

  named : (w : WhitePoint) (q : Millionths) → white_number w < 3 → w ≡ W.Custom q → p ≡ q
  named w q h e = let k = ap white_number e in absurd (omega arith)

  pub white-point : (q : Millionths) (n : ℕ) → n ≤ 3 → white_numbered n p ≡ W.Custom q → p ≡ q
  unfolding white_numbered
  white-point q =
      of_four
      (λ n. white_numbered n p ≡ W.Custom q → p ≡ q)
      (named W.D65 q (omega arith))
      (named W.E q (omega arith))
      (named W.Dci q (omega arith))
      (ap custom_white)

pub primaries-small : (p : Primaries) → primaries_number p ≤ 3
primaries-small P.Srgb = omega arith
primaries-small P.Bt2100 = omega arith
primaries-small P.P3 = omega arith
primaries-small (P.Custom r g b) = omega arith

module _ (r g b : Millionths) where
  abbrev Are : Millionths → Millionths → Millionths → Type 0
  Are x y z = (r ≡ x) × (g ≡ y) × (b ≡ z)

  pub primaries-back : (p : Primaries) → ((x y z : Millionths) → p ≡ P.Custom x y z → Are x y z) → primaries_numbered (primaries_number p) r g b ≡ p
  unfolding primaries_numbered
  primaries-back P.Srgb h = refl
  primaries-back P.Bt2100 h = refl
  primaries-back P.P3 h = refl
  primaries-back (P.Custom x y z) h = let k = h x y z refl in rw (k.0, k.1, k.2)

  pub primaries-number : (n : ℕ) → n ≤ 3 → primaries_number (primaries_numbered n r g b) ≡ n
  unfolding primaries_numbered
  primaries-number = of_four (λ n. primaries_number (primaries_numbered n r g b) ≡ n) refl refl refl refl

  module _ (x y z : Millionths) where
    named-primaries : (p : Primaries) → primaries_number p < 3 → p ≡ P.Custom x y z → Are x y z
    named-primaries p h e = let k = ap primaries_number e in absurd (omega arith)

    custom-primaries : P.Custom r g b ≡ P.Custom x y z → Are x y z
    custom-primaries e =
        let c = ap custom_corners e in
        (ap (λ (c : Corners). c.red) c, ap (λ (c : Corners). c.green) c, ap (λ (c : Corners). c.blue) c)

    pub primaries-points : (n : ℕ) → n ≤ 3 → primaries_numbered n r g b ≡ P.Custom x y z → Are x y z
    unfolding primaries_numbered
    primaries-points =
        of_four
        (λ n. primaries_numbered n r g b ≡ P.Custom x y z → Are x y z)
        (named-primaries P.Srgb (omega arith))
        (named-primaries P.Bt2100 (omega arith))
        (named-primaries P.P3 (omega arith))
        custom-primaries

pub curve_small : (c : Curve) → curve_number c ≤ 8
curve_small (C.Gamma g true) = omega arith
curve_small (C.Gamma g false) = omega arith
curve_small C.Bt709 = omega arith
curve_small C.Unknown = omega arith
curve_small C.Linear = omega arith
curve_small C.Srgb = omega arith
curve_small C.Pq = omega arith
curve_small C.Dci = omega arith
curve_small C.Hlg = omega arith

pub curve_back : (c : Curve) (g : ℕ) → ((h : ℕ) (inverted : Bool) → c ≡ C.Gamma h inverted → g ≡ h) → curve_numbered (curve_number c) g ≡ c
unfolding curve_numbered
curve_back (C.Gamma h true) g k = ap (λ (n : ℕ). C.Gamma n true) (k h true refl)
curve_back (C.Gamma h false) g k = ap (λ (n : ℕ). C.Gamma n false) (k h false refl)
curve_back C.Bt709 g k = refl
curve_back C.Unknown g k = refl
curve_back C.Linear g k = refl
curve_back C.Srgb g k = refl
curve_back C.Pq g k = refl
curve_back C.Dci g k = refl
curve_back C.Hlg g k = refl

gamma-number : (h : ℕ) (inverted : Bool) → curve_number (C.Gamma h inverted) ≤ 1
gamma-number h true = omega arith
gamma-number h false = omega arith

pub curve_gamma : (n g h : ℕ) (inverted : Bool) → n ≤ 8 → curve_numbered n g ≡ C.Gamma h inverted → (n ≤ 1) × (g ≡ h)
unfolding curve_numbered
curve_gamma n g h inverted l e = by n (sym (number_back n g l) ∙ ap curve_number e) e
  where
    by : (n : ℕ) → n ≡ curve_number (C.Gamma h inverted) → curve_numbered n g ≡ C.Gamma h inverted → (n ≤ 1) × (g ≡ h)
    by zero k e = (omega arith, ap gamma_of e)
    by (suc zero) k e = (omega arith, ap gamma_of e)
    by (suc (suc n)) k e = absurd (omega (arith, gamma-number h inverted))
