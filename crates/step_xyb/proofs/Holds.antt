-- What a loop of a piece knows at its place: that every g before it is in the window.
-- By `below_more`.
use Prim.Native.Nat.{◌+◌, ◌<◌, ℕ}
use mathlib.Core.Path.{◌≡◌, subst}
use mathlib.Core.List.{List}
use borrow.Author.Count.{below_more}
use lib.ListN.{get_or}
use lib.Ieee.{Float, nan}
use Rattle.step_xyb.specs.Steps.{Within}

abbrev pub Before : ℕ → List Float → Type 0
Before i gs = (k : ℕ) → k < i → Within (get_or gs k nan)

pub before_next : (i : ℕ) (gs : List Float) (g : Float) → g ≡ get_or gs i nan → Within g → Before i gs → Before (i + 1) gs
before_next i gs g e w h = below_more (λ (k : ℕ). Within (get_or gs k nan)) i h (subst (λ (x : Float). Within x) e w)
