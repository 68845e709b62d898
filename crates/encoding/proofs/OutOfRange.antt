-- The test `in_range` fails exactly where a coordinate or `g` is outside its range, used or not.
-- Part by part; the origin and 0, of a value that has none, are inside.
use mathlib.Core.Path.{◌≡◌, refl}
use mathlib.Core.Bool.{Bool, true, false, true≢false}
use mathlib.Core.Logic.Iff
use mathlib.Core.Logic.{◌↔◌, ◌⊎◌, inl, inr, ⊎_elim}
use lib.Dec.{T}
use lib.IntN.{ℤ, pos, negsuc}
use lib.Signed.{le_z, ◌≤ℤ◌}
use borrow.Author.Tests.{lt-leb, leb-false}
use Rattle.ciexyz.specs.declared.Millionths.{Millionths}
use Rattle.ciexyz.specs.declared.WhitePoint.{WhitePoint}
use Rattle.ciexyz.specs.declared.WhitePoint.TheVariants as W
use Rattle.ciexyz.specs.declared.Primaries.{Primaries}
use Rattle.ciexyz.specs.declared.Primaries.TheVariants as P
use Rattle.op_fields.specs.Curves.{gamma_of}
use Rattle.op.specs.declared.Curve.{Curve}
use Rattle.op.specs.declared.Curve.TheVariants as C
use Rattle.encoding.specs.Custom.{corners, custom_white, custom_corners}
use Rattle.encoding.specs.Ranges.{coordinate_in_range, point_in_range, corners_in_range, gamma_in_range, in_range, Within, Inside, Outside, white, red, green, blue, gamma}
use Rattle.encoding.specs.declared.EnumColourEncoding.{EnumColourEncoding}
use Rattle.encoding.specs.declared.custom.Corners.{Corners}
use Rattle.notation.proofs.Tests.{both-exactly, fails_exactly, one-fails}

at_most : (a b : ℤ) → (le_z a b ≡ true) ↔ (a ≤ℤ b)
at_most a b = (λ e. record { le = rw e tt }, λ h. by (le_z a b) h.le)
  where
    by : (t : Bool) → T t → t ≡ true
    by true h = refl
    by false h = absurd h

within : (n : ℤ) → (coordinate_in_range n ≡ true) ↔ Within n
within n = both-exactly (at_most (negsuc 2_097_151) n) (at_most n (pos 2_097_151))

stray : (p : Millionths) → (point_in_range p ≡ false) ↔ (¬ Inside p)
stray p = fails_exactly (both-exactly (within p.x) (within p.y))

one_of_three : (c : Corners) → (corners_in_range c ≡ false) ↔ (((¬ Inside c.red) ⊎ (¬ Inside c.green)) ⊎ (¬ Inside c.blue))
one_of_three c = one-fails (one-fails (stray c.red) (stray c.green)) (stray c.blue)

module _ (e : EnumColourEncoding) where
  from-white : (w : WhitePoint) → e.white_point ≡ w → point_in_range (custom_white w) ≡ false → Outside e
  from-white W.D65 q h = absurd (true≢false h)
  from-white W.E q h = absurd (true≢false h)
  from-white W.Dci q h = absurd (true≢false h)
  from-white (W.Custom p) q h = white q ((stray p).0 h)

  from-primaries : (p : Primaries) → e.primaries ≡ p → corners_in_range (custom_corners p) ≡ false → Outside e
  from-primaries P.Srgb q h = absurd (true≢false h)
  from-primaries P.Bt2100 q h = absurd (true≢false h)
  from-primaries P.P3 q h = absurd (true≢false h)
  from-primaries (P.Custom r g b) q h = ⊎_elim (⊎_elim (red q) (green q)) (blue q) ((one_of_three (corners r g b)).0 h)

  from-curve : (c : Curve) → e.tf ≡ c → gamma_in_range (gamma_of c) ≡ false → Outside e
  from-curve (C.Gamma g i) q h = gamma q (leb-false g 16_777_215 h)
  from-curve C.Bt709 q h = absurd (true≢false h)
  from-curve C.Unknown q h = absurd (true≢false h)
  from-curve C.Linear q h = absurd (true≢false h)
  from-curve C.Srgb q h = absurd (true≢false h)
  from-curve C.Pq q h = absurd (true≢false h)
  from-curve C.Dci q h = absurd (true≢false h)
  from-curve C.Hlg q h = absurd (true≢false h)

  parts : (in_range e ≡ false) ↔ (((point_in_range (custom_white e.white_point) ≡ false) ⊎ (corners_in_range (custom_corners e.primaries) ≡ false)) ⊎ (gamma_in_range (gamma_of e.tf) ≡ false))
  parts = one-fails (one-fails Iff.rfl Iff.rfl) Iff.rfl

  pub outside-exactly : (in_range e ≡ false) ↔ Outside e
  outside-exactly = (λ h. ⊎_elim (⊎_elim (from-white e.white_point refl) (from-primaries e.primaries refl)) (from-curve e.tf refl) (parts.0 h), λ o. parts.1 (back o))
    where
      back : Outside e → ((point_in_range (custom_white e.white_point) ≡ false) ⊎ (corners_in_range (custom_corners e.primaries) ≡ false)) ⊎ (gamma_in_range (gamma_of e.tf) ≡ false)
      back (white {p} q n) = inl (inl (rw q ((stray p).1 n)))
      back (red {r} {g} {b} q n) = inl (inr (rw q ((one_of_three (corners r g b)).1 (inl (inl n)))))
      back (green {r} {g} {b} q n) = inl (inr (rw q ((one_of_three (corners r g b)).1 (inl (inr n)))))
      back (blue {r} {g} {b} q n) = inl (inr (rw q ((one_of_three (corners r g b)).1 (inr n))))
      back (gamma {g} q n) = inr (rw q (lt-leb g 16_777_215 n))
