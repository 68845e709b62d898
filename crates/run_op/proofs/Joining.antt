-- An op does to joined channels what it does to each by itself, where the first are equally long.
-- By cases on the op: each place is worked on by itself.
use Prim.Native.Nat.{ℕ}
use mathlib.Core.Path.{◌≡◌, refl}
use mathlib.Core.Bool.{Bool, false, true}
use mathlib.Core.List.{List, [], ◌++◌, map-append}
use lib.Dec.{leb}
use lib.Ieee.{Float}
use Rattle.ciexyz.specs.Matrix.{applied}
use Rattle.channels.specs.Channels.{Channels, EquallyLong, channels}
use Rattle.channels.specs.Joined.{join}
use Rattle.channels.proofs.Joining.{each-joins}
use Rattle.step_xyb.specs.Xyb.{mixed_lms}
use Rattle.steps.specs.Samples.{clip_of, clipped_if, xyz_of_luma}
use Rattle.op.specs.declared.Op.{Op}
use Rattle.op.specs.declared.Op.TheVariants as O
use Rattle.run_op.specs.Apply.{after_op}

clipped-joins : (b : Bool) (x y : List Float) → clipped_if b (x ++ y) ≡ clipped_if b x ++ clipped_if b y
clipped-joins true x y = map-append clip_of x y
clipped-joins false x y = refl

pub after-joins : (o : Op) (w : ℕ) (s t : Channels) → EquallyLong s → after_op o w (join s t) ≡ join (after_op o w s) (after_op o w t)
after-joins (O.XybToMixedLms bias intensity) w s t e = each-joins (mixed_lms bias intensity) s t e
after-joins (O.LumaToXyz illuminant) w s t e = each-joins (xyz_of_luma illuminant) s t e
after-joins O.XyzToLuma w s t e = refl
after-joins (O.Matrix m) w s t e = each-joins (applied m) s t e
after-joins O.Clip w s t e = rw (clipped-joins (leb 1 w) s.a t.a, clipped-joins (leb 2 w) s.b t.b, clipped-joins (leb 3 w) s.c t.c)
after-joins (O.TransferFunction curve params inverse) w s t e = refl
after-joins (O.HlgInverseOotf params) w s t e = refl
after-joins (O.ToneMapRec2408 params display detect) w s t e = refl
after-joins (O.ToneMapLumaRec2408 params display detect) w s t e = refl
after-joins (O.GamutMap luminances factor) w s t e = refl

clipped-none : (b : Bool) → clipped_if b [] ≡ []
clipped-none true = refl
clipped-none false = refl

pub after_none : (o : Op) (w : ℕ) → after_op o w (channels [] [] []) ≡ channels [] [] []
after_none (O.XybToMixedLms bias intensity) w = refl
after_none (O.LumaToXyz illuminant) w = refl
after_none O.XyzToLuma w = refl
after_none (O.Matrix m) w = refl
after_none O.Clip w = rw (clipped-none (leb 1 w), clipped-none (leb 2 w), clipped-none (leb 3 w))
after_none (O.TransferFunction curve params inverse) w = refl
after_none (O.HlgInverseOotf params) w = refl
after_none (O.ToneMapRec2408 params display detect) w = refl
after_none (O.ToneMapLumaRec2408 params display detect) w = refl
after_none (O.GamutMap luminances factor) w = refl
