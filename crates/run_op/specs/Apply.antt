-- What the executor makes of the channels by one op. (01, Widths, Samples). Definitions only.
use Rattle.std.specs.Prelude.{ℕ}
use Rattle.ciexyz.specs.Matrix.{applied}
use Rattle.channels.specs.Channels.{Channels, each}
use Rattle.bad_samples.specs.Bad.{stepped_of}
use Rattle.bad_samples.specs.declared.Stepped.{Stepped}
use Rattle.step_xyb.specs.Xyb.{mixed_lms}
use Rattle.steps.specs.Samples.{xyz_of_luma, luma_of_xyz, clipped_within}
use Rattle.op.specs.Widths.{gives_of}
use Rattle.op.specs.declared.Op.{Op}
use Rattle.op.specs.declared.Op.TheVariants as O

-- the channels after an op at width w: "TransferFunction Linear or Unknown (no effect)"; the other ops that leave them as they are
-- are not carried, and a run refuses a list that has one
abbrev pub after_op : Op → ℕ → Channels → Channels
after_op (O.XybToMixedLms bias intensity) w s = each (mixed_lms bias intensity) s
after_op (O.LumaToXyz illuminant) w s = each (xyz_of_luma illuminant) s
after_op O.XyzToLuma w s = luma_of_xyz s
after_op (O.Matrix m) w s = each (applied m) s
after_op O.Clip w s = clipped_within w s
after_op (O.TransferFunction curve params inverse) w s = s
after_op (O.HlgInverseOotf params) w s = s
after_op (O.ToneMapRec2408 params display detect) w s = s
after_op (O.ToneMapLumaRec2408 params display detect) w s = s
after_op (O.GamutMap luminances factor) w s = s

-- the op's own step on channels that it finds at width w: what it answers, and reports of the channels that it leaves (02, W4)
abbrev pub own_step : Op → ℕ → Channels → Stepped
own_step o w s = stepped_of (gives_of o w) (after_op o w) s
