-- "The Unknown curve is retired." (02, W10): the curve, and an op that has it, by a test and in words. Definitions and relations only.
use Rattle.std.specs.Prelude.{Bool, true, false}
use Rattle.op.specs.declared.Curve.{Curve}
use Rattle.op.specs.declared.Curve.TheVariants as C
use Rattle.op.specs.declared.HdrParams.{HdrParams}
use Rattle.op.specs.declared.Op.{Op}
use Rattle.op.specs.declared.Op.TheVariants as O

abbrev pub is_unknown : Curve → Bool
is_unknown (C.Gamma g inverted) = false
is_unknown C.Bt709 = false
is_unknown C.Unknown = true
is_unknown C.Linear = false
is_unknown C.Srgb = false
is_unknown C.Pq = false
is_unknown C.Dci = false
is_unknown C.Hlg = false

abbrev pub is_retired : Op → Bool
is_retired (O.XybToMixedLms bias intensity) = false
is_retired (O.LumaToXyz illuminant) = false
is_retired O.XyzToLuma = false
is_retired (O.Matrix m) = false
is_retired (O.TransferFunction curve params inverse) = is_unknown curve
is_retired (O.HlgInverseOotf params) = false
is_retired (O.ToneMapRec2408 params display detect) = false
is_retired (O.ToneMapLumaRec2408 params display detect) = false
is_retired (O.GamutMap luminances factor) = false
is_retired O.Clip = false

-- the op is a transfer function of the Unknown curve
pub data Retired : Op → Type 0 where
  unknown : {params : HdrParams} {inverse : Bool} → Retired (O.TransferFunction C.Unknown params inverse)
