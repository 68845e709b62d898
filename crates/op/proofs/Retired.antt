-- The tests hold exactly of the Unknown curve, and of an op that has it.
-- By the cases of the table of curves and of ops.
use mathlib.Core.Path.{◌≡◌, refl}
use mathlib.Core.Bool.{true, false≢true}
use mathlib.Core.Logic.{◌↔◌}
use Rattle.op.specs.Retired.{is_unknown, is_retired, Retired, unknown}
use Rattle.op.specs.declared.Curve.{Curve}
use Rattle.op.specs.declared.Curve.TheVariants as C
use Rattle.op.specs.declared.Op.{Op}
use Rattle.op.specs.declared.Op.TheVariants as O

is_the_curve : (c : Curve) → is_unknown c ≡ true → c ≡ C.Unknown
is_the_curve (C.Gamma g inverted) e = absurd (false≢true e)
is_the_curve C.Bt709 e = absurd (false≢true e)
is_the_curve C.Unknown e = refl
is_the_curve C.Linear e = absurd (false≢true e)
is_the_curve C.Srgb e = absurd (false≢true e)
is_the_curve C.Pq e = absurd (false≢true e)
is_the_curve C.Dci e = absurd (false≢true e)
is_the_curve C.Hlg e = absurd (false≢true e)

pub unknown_exactly : (c : Curve) → (is_unknown c ≡ true) ↔ (c ≡ C.Unknown)
unknown_exactly c = (is_the_curve c, λ e. rw e)

pub retired-exactly : (o : Op) → (is_retired o ≡ true) ↔ Retired o
retired-exactly o = (read o, write)
  where
    read : (o : Op) → is_retired o ≡ true → Retired o
    read (O.XybToMixedLms bias intensity) e = absurd (false≢true e)
    read (O.LumaToXyz illuminant) e = absurd (false≢true e)
    read O.XyzToLuma e = absurd (false≢true e)
    read (O.Matrix m) e = absurd (false≢true e)
    read (O.TransferFunction curve params inverse) e = rw (is_the_curve curve e) unknown
    read (O.HlgInverseOotf params) e = absurd (false≢true e)
    read (O.ToneMapRec2408 params display detect) e = absurd (false≢true e)
    read (O.ToneMapLumaRec2408 params display detect) e = absurd (false≢true e)
    read (O.GamutMap luminances factor) e = absurd (false≢true e)
    read O.Clip e = absurd (false≢true e)

    write : {o : Op} → Retired o → is_retired o ≡ true
    write unknown = refl
