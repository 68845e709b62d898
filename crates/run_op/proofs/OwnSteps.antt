-- What the six carried ops' own steps answer and report is one definition, `own_step`.
-- Each contract is that definition at its op; a curve without effect leaves the channels that it finds.
use Prim.Native.Nat.{ℕ}
use mathlib.Core.Path.{◌≡◌, ap, refl, sym}
use mathlib.Core.Bool.{Bool, true, false}
use lib.Ieee.{Float}
use Rattle.notation.specs.Choice.{when◌then◌else◌}
use Rattle.ciexyz.specs.Matrix.{applied}
use Rattle.ciexyz.specs.declared.Mat3.{Mat3}
use Rattle.ciexyz.specs.declared.Vec3.{Vec3}
use Rattle.ciexyz.specs.declared.Xy.{Xy}
use Rattle.channels.specs.Channels.{Channels, each, equally_long}
use Rattle.channels.specs.Stepping.{step_of}
use Rattle.bad_samples.specs.Bad.{report_of, stepped_of}
use Rattle.step_xyb.specs.Xyb.{mixed_lms}
use Rattle.steps.specs.Samples.{clipped_within, luma_of_xyz, xyz_of_luma}
use Rattle.op.specs.declared.Curve.TheVariants as Curve
use Rattle.op.specs.declared.HdrParams.{HdrParams}
use Rattle.op.specs.declared.Op.TheVariants as O
use Rattle.run_op.specs.Apply.{own_step}

module _ (w : ℕ) (s : Channels) where
  pub of-xyb : (bias : Vec3) (intensity : Float) → stepped_of 3 (each (mixed_lms bias intensity)) s ≡ own_step (O.XybToMixedLms bias intensity) w s
  of-xyb bias intensity = refl

  pub of-luma-to-xyz : (illuminant : Xy) → stepped_of 3 (each (xyz_of_luma illuminant)) s ≡ own_step (O.LumaToXyz illuminant) w s
  of-luma-to-xyz illuminant = refl

  pub of-xyz-to-luma : stepped_of 1 luma_of_xyz s ≡ own_step O.XyzToLuma w s
  of-xyz-to-luma = refl

  pub of-matrix : (m : Mat3) → stepped_of 3 (each (applied m)) s ≡ own_step (O.Matrix m) w s
  of-matrix m = refl

  pub of-clip : stepped_of w (clipped_within w) s ≡ own_step O.Clip w s
  of-clip = refl

  unchanged : (b : Bool) → (when b then s else s) ≡ s
  unchanged true = refl
  unchanged false = refl

  pub of-linear : (params : HdrParams) (inverse : Bool) → report_of (step_of w s) s ≡ own_step (O.TransferFunction Curve.Linear params inverse) w s
  of-linear params inverse = ap (report_of (step_of w s)) (sym (unchanged (equally_long s)))

  pub of-unknown : (params : HdrParams) (inverse : Bool) → report_of (step_of w s) s ≡ own_step (O.TransferFunction Curve.Unknown params inverse) w s
  of-unknown params inverse = ap (report_of (step_of w s)) (sym (unchanged (equally_long s)))
