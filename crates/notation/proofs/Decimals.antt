-- Constants beside their decimals: rows of a list, and what it is for each to be the f32 nearest its decimal.
-- The exact fraction is rounded once, ties to even; antt computes both sides.
use Prim.Native.Nat.{ℕ}
use mathlib.Core.Path.{◌≡◌}
use mathlib.Core.Bool.{Bool, true, false}
use mathlib.Core.List.{List, map}
use lib.Ieee.{Float, binary32, round}

pub record Row : Type 0 where
  pub float : Float
  pub minus : Bool
  pub top : ℕ
  pub under : ℕ

infix 5 ◌is◌over◌
infix 5 ◌is-minus◌over◌
abbrev pub ◌is◌over◌ : Float → ℕ → ℕ → Row
x is n over d = record { float = x; minus = false; top = n; under = d }

abbrev pub ◌is-minus◌over◌ : Float → ℕ → ℕ → Row
x is-minus n over d = record { float = x; minus = true; top = n; under = d }

abbrev pub nearest : Row → Float
nearest r = round binary32 r.minus r.top r.under

abbrev pub AreNearest : List Row → Type 0
AreNearest rows = map (λ (r : Row). r.float) rows ≡ map nearest rows
