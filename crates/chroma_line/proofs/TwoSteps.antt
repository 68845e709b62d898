-- "exactly what widening both and then the byte conversion for that firmware give" (02, W13): what the line answers and leaves, said by the
-- definitions of `chroma_half::widen` and `ycbcr_bytes::ycbcr_to_rgb`. A line that fits is widened to Y's length, and of that length the tests are the same.
use Prim.Native.Nat.{ℕ}
use mathlib.Core.Path.{◌≡◌, ap, refl, sym, ◌∙◌}
use mathlib.Core.Bool.{Bool, true, false, ◌&&◌}
use mathlib.Core.Logic.{◌⊎◌, inl, inr}
use mathlib.Core.List.{List}
use lib.ListN.{length}
use Rattle.std.specs.Prelude.{Ok, Err}
use Rattle.ycbcr_weights.specs.Rgb.{rgb_of}
use Rattle.ycbcr_firmware.specs.Firmware.{weights_of}
use Rattle.ycbcr_firmware.specs.Conversion.{conversion_of, left_by}
use Rattle.ycbcr_planes.specs.Planes.{Planes, each_pixel, equally_long, planes, same_lengths}
use Rattle.chroma_half.specs.Twice.{fits_twice}
use Rattle.chroma_half.specs.Fitting.{fitting_of, widened_into, widening}
use Rattle.chroma_line.specs.Line.{line_fits, widened_both}
use Rattle.chroma_line.proofs.Exactly.{as_long}

done-fits : (fits : Bool) → fitting_of fits ≡ Ok tt → fits ≡ true
done-fits true e = refl
done-fits false e = cc

unfit_not : (fits : Bool) → fitting_of fits ≡ Err (record {}) → fits ≡ false
unfit_not true e = cc
unfit_not false e = refl

by_lengths : (a c y r g b : ℕ) → a ≡ y → c ≡ y → same_lengths y y y r g b ≡ same_lengths a y c r g b
by_lengths a c y r g b e f = rw (e, f)

-- the channels s in and t out, and two lines u and v as long as Y to widen into
module _ (firmware : ℕ) (s t : Planes) (u v : List ℕ) (as-u : length u ≡ length s.b) (as-v : length v ≡ length s.b) where
  abbrev pub between : Planes
  between = planes (widened_into s.a u) s.b (widened_into s.c v)

  -- where both are widened
  module _ (cb : widening s.a u ≡ Ok tt) (cr : widening s.c v ≡ Ok tt) where
    is-both : between ≡ widened_both s
    is-both = rw (cb, cr, as-u, as-v)

    same_test : line_fits s t ≡ equally_long between t
    same_test =
        let f : fits_twice (length s.a) (length s.b) ≡ true = rw (sym as-u) (done-fits _ cb) in
        let g : fits_twice (length s.c) (length s.b) ≡ true = rw (sym as-v) (done-fits _ cr) in
        let both : equally_long (planes s.b s.b s.b) t ≡ equally_long (widened_both s) t = by_lengths _ _ (length s.b) _ _ _ (as_long s.a (length s.b)) (as_long s.c (length s.b)) in
        rw (f, g) both ∙ ap (λ (p : Planes). equally_long p t) (sym is-both)

    pub same_answer : conversion_of firmware (line_fits s t) ≡ conversion_of firmware (equally_long between t)
    same_answer = ap (conversion_of firmware) same_test

    pub same_left :
        left_by (conversion_of firmware (line_fits s t)) (each_pixel (rgb_of (weights_of firmware)) (widened_both s)) t ≡
        left_by (conversion_of firmware (equally_long between t)) (each_pixel (rgb_of (weights_of firmware)) between) t
    same_left = rw same_test (ap (λ (p : Planes). left_by (conversion_of firmware (equally_long between t)) (each_pixel (rgb_of (weights_of firmware)) p) t) (sym is-both))

  -- where a widening is refused by 4 the lengths of the line do not fit
  pub refused-alike : (widening s.a u ≡ Err (record {})) ⊎ (widening s.c v ≡ Err (record {})) → line_fits s t ≡ false
  refused-alike (inl e) = let f : fits_twice (length s.a) (length s.b) ≡ false = rw (sym as-u) (unfit_not _ e) in rw f
  refused-alike (inr e) =
      let f : fits_twice (length s.c) (length s.b) ≡ false = rw (sym as-v) (unfit_not _ e) in
      rw f (and-false (fits_twice (length s.a) (length s.b)))
    where
      and-false : (a : Bool) → (a && false) ≡ false
      and-false true = refl
      and-false false = refl
