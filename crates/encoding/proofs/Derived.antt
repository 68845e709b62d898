-- The derived comparison of primaries is the test of Named.
-- Coordinate by coordinate: the library's test of whole numbers is ours.
use mathlib.Core.Path.{◌≡◌, refl}
use lib.IntN.{ℤ, pos, negsuc}
use borrow.Author.Rules.{rules}
use Rattle.std.proofs.Math.Bool.{and_assoc}
use Rattle.std.specs.Ordering.{int_eq}
use Rattle.ciexyz.specs.contracts.PrimariesPartialEq.TheImpl as derived
use Rattle.ciexyz.specs.declared.Primaries.{Primaries}
use Rattle.ciexyz.specs.declared.Primaries.TheVariants as P
use Rattle.list_same.specs.Same.{same_whole}
use Rattle.encoding.specs.Named.{same_point, same_primaries}

whole-same : (x y : ℤ) → int_eq x y ≡ same_whole x y
whole-same (pos m) (pos n) = search rules
whole-same (pos m) (negsuc n) = search rules
whole-same (negsuc m) (pos n) = search rules
whole-same (negsuc m) (negsuc n) = search rules

pub primaries-same : (a b : Primaries) → derived.ghosts.eq a b ≡ same_primaries a b
primaries-same P.Srgb P.Srgb = refl
primaries-same P.Srgb P.Bt2100 = refl
primaries-same P.Srgb P.P3 = refl
primaries-same P.Srgb (P.Custom r g b) = refl
primaries-same P.Bt2100 P.Srgb = refl
primaries-same P.Bt2100 P.Bt2100 = refl
primaries-same P.Bt2100 P.P3 = refl
primaries-same P.Bt2100 (P.Custom r g b) = refl
primaries-same P.P3 P.Srgb = refl
primaries-same P.P3 P.Bt2100 = refl
primaries-same P.P3 P.P3 = refl
primaries-same P.P3 (P.Custom r g b) = refl
primaries-same (P.Custom r g b) P.Srgb = refl
primaries-same (P.Custom r g b) P.Bt2100 = refl
primaries-same (P.Custom r g b) P.P3 = refl
primaries-same (P.Custom r g b) (P.Custom s h c) =
    rw (whole-same r.x s.x, whole-same r.y s.y, whole-same g.x h.x, whole-same g.y h.y, whole-same b.x c.x, whole-same b.y c.y, and_assoc (same_point r s) (same_point g h) (same_point b c))
