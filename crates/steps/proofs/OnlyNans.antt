-- Clip leaves only NaNs to count.
-- By the cases of a float: what is below 0 or above 1 becomes a number, and a NaN stays.
use Prim.Native.Nat.{ℕ, ◌+◌}
use mathlib.Core.Path.{◌≡◌, refl}
use mathlib.Core.Bool.{Bool, true, false}
use mathlib.Core.List.{List, [], ◌∷◌, map}
use lib.Ieee.{Float, fin, inf, is_nan, lt, nan, of_bits}
use Rattle.notation.specs.Choice.{when◌then◌else◌}
use Rattle.notation.specs.F32.{one, zero}
use Rattle.bad_samples.specs.Bad.{bad_in, is_bad}
use Rattle.steps.specs.Samples.{clip_of}

-- how many NaNs
abbrev pub nans_in : List Float → ℕ
nans_in [] = 0
nans_in (x ∷ xs) = (when is_nan x then 1 else 0) + nans_in xs

by_tests : (x : Float) (below above : Bool) → is_bad x ≡ false → is_bad (when below then zero else when above then one else x) ≡ false
unfolding of_bits
by_tests x true above e = refl
by_tests x false true e = refl
by_tests x false false e = e

pub only_nan : (x : Float) → is_bad (clip_of x) ≡ is_nan x
unfolding lt is_nan of_bits
only_nan nan = refl
only_nan (inf true) = refl
only_nan (inf false) = refl
only_nan (fin s m e) = by_tests (fin s m e) (lt (fin s m e) zero) (lt one (fin s m e)) refl

pub only_nans : (xs : List Float) → bad_in (map clip_of xs) ≡ nans_in xs
only_nans [] = refl
only_nans (x ∷ xs) = rw (only_nan x, only_nans xs)
