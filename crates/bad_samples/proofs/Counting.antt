-- A count goes on by what stands at its place, and is at most the count of samples.
-- The list from a place on is the element there, and then the rest.
use Prim.Native.Nat.{ℕ, ◌+◌, ◌<◌, ◌≤◌}
use mathlib.Core.Path.{◌≡◌}
use mathlib.Core.Bool.{Bool, true, false}
use mathlib.Core.List.{List, [], ◌∷◌}
use native.Mathlib.Omega.{arith}
use native.Mathlib.Numerals.{add-one}
use lib.Ieee.{Float, nan}
use lib.ListN.{drop, get_or, length}
use lib.Seq.{drop-cons}
use Rattle.notation.specs.Choice.{when◌then◌else◌}
use Rattle.bad_samples.specs.Bad.{bad_in, is_bad, one_if_bad}

at_most_one : (x : Float) → one_if_bad x ≤ 1
at_most_one x = by (is_bad x)
  where
    by : (b : Bool) → (when b then 1 else 0) ≤ 1
    by true = omega arith
    by false = omega arith

pub few_in : (xs : List Float) → bad_in xs ≤ length xs
few_in [] = omega arith
few_in (x ∷ xs) =
    let one = at_most_one x in
    let rest = few_in xs in
    omega (arith, one, rest)

pub from_place : (xs : List Float) (i : ℕ) → i < length xs → bad_in (drop i xs) ≡ one_if_bad (get_or xs i nan) + bad_in (drop (i + 1) xs)
from_place xs i h = rw (add-one, drop-cons xs i nan h)
