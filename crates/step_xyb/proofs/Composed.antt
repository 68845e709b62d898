-- The two steps of a piece are the inversion.
-- Taking the roots off and then cubing is `mixed`, on each channel by itself.
use mathlib.Core.Path.{◌≡◌, ap, refl, sym, ◌∙◌}
use mathlib.Core.List.{List, [], ◌∷◌, map}
use lib.ListN.{length}
use lib.Ieee.{Float}
use Rattle.ciexyz.specs.declared.Vec3.{Vec3}
use Rattle.channels.specs.Channels.{Channels, EquallyLong, channels, each, v0_of, v1_of, v2_of, vec}
use Rattle.channels.proofs.Rows.{length_part}
use Rattle.step_xyb.specs.Xyb.{mixed, mixed_by}
use Rattle.step_xyb.specs.Steps.{cubed, shifted}

parts : (k : Float → Float) (part : Vec3 → Float) (g f : Vec3 → Vec3) → ((t : Vec3) → k (part (g t)) ≡ part (f t)) → (ts : List Vec3) → map k (map part (map g ts)) ≡ map part (map f ts)
parts k part g f e [] = refl
parts k part g f e (t ∷ ts) = λ i. e t i ∷ parts k part g f e ts i

module _ (roots bias : Vec3) (scale : Float) (ts : List Vec3) where
  pub l-composed : map (cubed bias.v0 scale) (map v0_of (map (shifted roots) ts)) ≡ map v0_of (map (mixed_by roots bias scale) ts)
  unfolding cubed shifted mixed_by mixed
  l-composed = parts (cubed bias.v0 scale) v0_of (shifted roots) (mixed_by roots bias scale) (λ t. refl) ts

  pub m-composed : map (cubed bias.v1 scale) (map v1_of (map (shifted roots) ts)) ≡ map v1_of (map (mixed_by roots bias scale) ts)
  unfolding cubed shifted mixed_by mixed
  m-composed = parts (cubed bias.v1 scale) v1_of (shifted roots) (mixed_by roots bias scale) (λ t. refl) ts

  pub s-composed : map (cubed bias.v2 scale) (map v2_of (map (shifted roots) ts)) ≡ map v2_of (map (mixed_by roots bias scale) ts)
  unfolding cubed shifted mixed_by mixed
  s-composed = parts (cubed bias.v2 scale) v2_of (shifted roots) (mixed_by roots bias scale) (λ t. refl) ts

-- what is left without the roots is as long as the channels
pub as_long : (roots : Vec3) (x y b : List Float) (s : Channels) → EquallyLong (channels x y b) → s ≡ each (shifted roots) (channels x y b) → (length x ≡ length s.a) × (length y ≡ length s.b) × (length b ≡ length s.c)
as_long roots x y b s e h =
    let long = length_part vec (shifted roots) x y b e.0 e.1 in
    (sym (ap (λ (t : Channels). length t.a) h ∙ long v0_of), e.0 ∙ sym (ap (λ (t : Channels). length t.b) h ∙ long v1_of), e.1 ∙ sym (ap (λ (t : Channels). length t.c) h ∙ long v2_of))
