-- Every op leaves equally long channels equally long.
-- By cases on the op: each sample becomes one sample.
use Prim.Native.Nat.{ℕ}
use mathlib.Core.Path.{refl, sym, ◌∙◌, ◌≡◌}
use mathlib.Core.Bool.{Bool, false, true}
use mathlib.Core.List.{List}
use lib.Dec.{leb}
use lib.ListN.{length, length-map}
use lib.Ieee.{Float}
use Rattle.ciexyz.specs.Matrix.{applied}
use Rattle.channels.specs.Channels.{Channels, EquallyLong}
use Rattle.channels.proofs.Lengths.{each-even}
use Rattle.step_xyb.specs.Xyb.{mixed_lms}
use Rattle.steps.specs.Samples.{clip_of, clipped_if, xyz_of_luma}
use Rattle.op.specs.declared.Op.{Op}
use Rattle.op.specs.declared.Op.TheVariants as O
use Rattle.run_op.specs.Apply.{after_op}

clipped-long : (b : Bool) (x : List Float) → length (clipped_if b x) ≡ length x
clipped-long true x = length-map x clip_of
clipped-long false x = refl

pub after-even : (o : Op) (w : ℕ) (s : Channels) → EquallyLong s → EquallyLong (after_op o w s)
after-even (O.XybToMixedLms bias intensity) w s e = each-even (mixed_lms bias intensity) s
after-even (O.LumaToXyz illuminant) w s e = each-even (xyz_of_luma illuminant) s
after-even O.XyzToLuma w s e = (refl, e.1 ∙ sym e.0)
after-even (O.Matrix m) w s e = each-even (applied m) s
after-even O.Clip w s e =
    let on_a = sym (clipped-long (leb 1 w) s.a) in
    (clipped-long (leb 2 w) s.b ∙ e.0 ∙ on_a, clipped-long (leb 3 w) s.c ∙ e.1 ∙ on_a)
after-even (O.TransferFunction curve params inverse) w s e = e
after-even (O.HlgInverseOotf params) w s e = e
after-even (O.ToneMapRec2408 params display detect) w s e = e
after-even (O.ToneMapLumaRec2408 params display detect) w s e = e
after-even (O.GamutMap luminances factor) w s e = e
