-- The four sums of a pixel by f64, in the window; and where none of them is half way between two values of f32, R, G and B are `rgb_raised`.
-- Each is rounded once (`Sums`); the sum with Cr is a value of f32, and goes into the sum of green.
use Rattle.std.proofs.Common.{◌≡◌, sym, ap, ◌∙◌}
use lib.Ieee.{Float}
use Rattle.rounding.specs.Steps.{Sure, by_f64, sum_of}
use Rattle.rounding.proofs.ByPattern.{Settled}
use Rattle.fused.specs.Fused.{fused}
use Rattle.channels.specs.Channels.{vec}
use Rattle.ciexyz.specs.declared.Vec3.{Vec3}
use Rattle.ycbcr_float.specs.declared.Constants.{Constants}
use Rattle.ycbcr_float.specs.Steps.{Factors, Ready, quick_by, rgb_raised}
use Rattle.ycbcr_float.proofs.Sums.{first-sum, next-sum}

pub quick_is : (k : Constants) (s : Vec3) (r g b : Float) → r ≡ by_f64 s.v2 k.red s.v1 → g ≡ by_f64 s.v0 k.cb (by_f64 s.v2 k.cr s.v1) → b ≡ by_f64 s.v0 k.blue s.v1 → vec r g b ≡ quick_by k s
unfolding quick_by
quick_is k s r g b e f h = (λ i. vec (e i) (f i) (h i))

module _ (k : Constants) (s : Vec3) (p : Factors k) (q : Ready s) where
  pub red-sum : Settled 213 305 (sum_of s.v2 k.red s.v1) (fused s.v2 k.red s.v1)
  red-sum = first-sum s.v2 k.red q.cr p.red s.v1 q.y

  pub cr-sum : Settled 213 305 (sum_of s.v2 k.cr s.v1) (fused s.v2 k.cr s.v1)
  cr-sum = first-sum s.v2 k.cr q.cr p.cr s.v1 q.y

  -- v is the sum with Cr
  pub green-sum : (v : Float) → v ≡ by_f64 s.v2 k.cr s.v1 → Settled 190 307 (sum_of s.v0 k.cb v) (fused s.v0 k.cb v)
  green-sum v e = rw e (next-sum s.v0 k.cb q.cb p.cb (sum_of s.v2 k.cr s.v1) _ cr-sum)

  pub blue-sum : Settled 213 305 (sum_of s.v0 k.blue s.v1) (fused s.v0 k.blue s.v1)
  blue-sum = first-sum s.v0 k.blue q.cb p.blue s.v1 q.y

  pub sure-rgb : (v : Float) → v ≡ by_f64 s.v2 k.cr s.v1 → Sure (sum_of s.v2 k.red s.v1) → Sure (sum_of s.v2 k.cr s.v1) → Sure (sum_of s.v0 k.cb v) → Sure (sum_of s.v0 k.blue s.v1)
      → quick_by k s ≡ rgb_raised k s
  unfolding quick_by rgb_raised
  sure-rgb v e r c g b = (λ i. vec (red-sum.is r i) ((ap (by_f64 s.v0 k.cb) (sym e) ∙ (green-sum v e).is g ∙ ap (fused s.v0 k.cb) (e ∙ cr-sum.is c)) i) (blue-sum.is b i))
