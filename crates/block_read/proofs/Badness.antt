-- The test for bad fields holds exactly where one of them is bad.
-- By cases on the field and on its tests, then field by field.
use Prim.Native.Nat.{ℕ}
use mathlib.Core.Path.{◌≡◌, refl}
use mathlib.Core.Bool.{Bool, true, false, not, ◌&&◌, ◌||◌, or-true, false≢true}
use mathlib.Core.Logic.{◌↔◌}
use mathlib.Core.List.{List, [], ◌∷◌}
use borrow.Author.Tests.{lt-ltb, le-leb, ne_eqb, ltb-true, ltb-false, leb-true, eqb-false}
use lib.Dec.{eqb, leb, ltb}
use lib.Ieee.{Float, nan, inf, fin, is_nan}
use lib.ListN.{drop}
use Rattle.block_read.specs.Fields.{size_of, byte_at, u32_at, first_float}
use Rattle.op_fields.specs.Layouts.{Field, float, flag, curve}
use Rattle.block_read.specs.BadFields.{is_bad, any_bad}
use Rattle.block_read.specs.Refusals.{Bad, not_a_number, flag_above_1, curve_above_8, g_out_of_range, g_nonzero, SomeBad, this, later}

pub bad_exactly : (fs : List Field) (s : List ℕ) → (any_bad fs s ≡ true) ↔ SomeBad fs s
unfolding is_nan
bad_exactly fs s = (some-bad fs s, bad-some)
  where
    nan-bad : (s : List ℕ) (x : Float) → first_float s ≡ x → is_nan x ≡ true → Bad float s
    nan-bad s nan e h = not_a_number e
    nan-bad s (inf t) e h = absurd (false≢true h)
    nan-bad s (fin t m k) e h = absurd (false≢true h)

    curve-bad : (s : List ℕ) (a b c d : Bool) → ltb 8 (byte_at s 0) ≡ a → ltb 16_777_215 (u32_at s 1) ≡ b → leb 2 (byte_at s 0) ≡ c → eqb (u32_at s 1) 0 ≡ d
        → (a || b || (c && not d)) ≡ true → Bad curve s
    curve-bad s true b c d p q r t e = curve_above_8 (ltb-true 8 (byte_at s 0) p)
    curve-bad s false true c d p q r t e = g_out_of_range (ltb-true 16_777_215 (u32_at s 1) q)
    curve-bad s false false true false p q r t e = g_nonzero (leb-true 2 (byte_at s 0) r) (ltb-false 8 (byte_at s 0) p) (eqb-false (u32_at s 1) 0 t)
    curve-bad s false false true true p q r t e = absurd (false≢true e)
    curve-bad s false false false d p q r t e = absurd (false≢true e)

    one-bad : (f : Field) (s : List ℕ) → is_bad f s ≡ true → Bad f s
    one-bad float s e = nan-bad s (first_float s) refl e
    one-bad flag s e = flag_above_1 (ltb-true 1 (byte_at s 0) e)
    one-bad curve s e = curve-bad s (ltb 8 (byte_at s 0)) (ltb 16_777_215 (u32_at s 1)) (leb 2 (byte_at s 0)) (eqb (u32_at s 1) 0) refl refl refl refl e

    some-bad : (fs : List Field) (s : List ℕ) → any_bad fs s ≡ true → SomeBad fs s
    some-bad [] s e = absurd (false≢true e)
    some-bad (f ∷ fs) s e = by (is_bad f s) refl e (some-bad fs (drop (size_of f) s))
      where
        by : (b : Bool) → is_bad f s ≡ b → (b || any_bad fs (drop (size_of f) s)) ≡ true → (any_bad fs (drop (size_of f) s) ≡ true → SomeBad fs (drop (size_of f) s)) → SomeBad (f ∷ fs) s
        by true p h rest = this (one-bad f s p)
        by false p h rest = later (rest h)

    bad-one : {f : Field} {s : List ℕ} → Bad f s → is_bad f s ≡ true
    bad-one (not_a_number e) = rw e
    bad-one (flag_above_1 h) = lt-ltb _ _ h
    bad-one (curve_above_8 h) = rw (lt-ltb _ _ h)
    bad-one {s = s} (g_out_of_range h) = rw (lt-ltb _ _ h, or-true (ltb 8 (byte_at s 0)))
    bad-one {s = s} (g_nonzero h l z) = rw (le-leb _ _ h, ne_eqb _ _ z) (or-true (ltb 8 (byte_at s 0) || ltb 16_777_215 (u32_at s 1)))

    bad-some : {fs : List Field} {s : List ℕ} → SomeBad fs s → any_bad fs s ≡ true
    bad-some (this b) = rw (bad-one b)
    bad-some (later {f} {s = s} b) = rw (bad-some b) (or-true (is_bad f s))
