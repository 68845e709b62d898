-- What the last arm of `apply` knows: the op is none of the five that have an effect, and so leaves the channels as they are.
-- By cases on the op.
use Prim.Native.Nat.{ℕ}
use mathlib.Core.Path.{◌≡◌, refl}
use mathlib.Core.Bool.{Bool, true, false}
use mathlib.Core.List.{List, [], ◌∷◌}
use denote.Enum.Declared.{tag_of}
use types.Run.{OneOf, miss}
use Rattle.notation.specs.Choice.{when◌then◌else◌}
use Rattle.channels.specs.Channels.{Channels, equally_long, where_equal}
use Rattle.op.specs.declared.Op.{Op}
use Rattle.op.specs.declared.Op.TheVariants as O
use Rattle.op.specs.contracts.Op as Enum
use Rattle.run_op.specs.Apply.{after_op}

abbrev pub others : List ℕ
others = 4 ∷ 5 ∷ 6 ∷ 7 ∷ 8 ∷ []

no_effect : (o : Op) → OneOf others (tag_of Enum.the_type o) → (w : ℕ) (s : Channels) → after_op o w s ≡ s
no_effect (O.XybToMixedLms bias intensity) h w s = absurd (miss others 0 tt h)
no_effect (O.LumaToXyz illuminant) h w s = absurd (miss others 1 tt h)
no_effect O.XyzToLuma h w s = absurd (miss others 2 tt h)
no_effect (O.Matrix m) h w s = absurd (miss others 3 tt h)
no_effect O.Clip h w s = absurd (miss others 9 tt h)
no_effect (O.TransferFunction curve params inverse) h w s = refl
no_effect (O.HlgInverseOotf params) h w s = refl
no_effect (O.ToneMapRec2408 params display detect) h w s = refl
no_effect (O.ToneMapLumaRec2408 params display detect) h w s = refl
no_effect (O.GamutMap luminances factor) h w s = refl

pub untouched : (o : Op) → OneOf others (tag_of Enum.the_type o) → (w : ℕ) (s : Channels) → s ≡ where_equal (after_op o w) s
untouched o h w s = rw (no_effect o h w s) (by (equally_long s))
  where
    by : (b : Bool) → s ≡ (when b then s else s)
    by true = refl
    by false = refl
