-- A float is bad where it is not finite.
-- By the cases of a float.
use mathlib.Core.Path.{◌≡◌, refl}
use mathlib.Core.Bool.{not}
use mir.Val.{bool_byte}
use lib.Ieee.{Float, fin, inf, nan}
use Rattle.std.specs.Float.{float_is_finite}
use Rattle.bad_samples.specs.Bad.{one_if_bad}

pub not_finite : (x : Float) → bool_byte (not (float_is_finite x)) ≡ one_if_bad x
unfolding float_is_finite
not_finite nan = refl
not_finite (inf s) = refl
not_finite (fin s m e) = refl
