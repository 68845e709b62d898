-- The count of channels that are joined is the sum of their counts.
-- By induction on the first list.
use Prim.Native.Nat.{ℕ, ◌+◌}
use mathlib.Core.Path.{◌≡◌, ap, refl, ◌∙◌}
use mathlib.Core.Bool.{Bool, true, false}
use mathlib.Core.List.{List, [], ◌∷◌, ◌++◌}
use native.Mathlib.Omega.{arith}
use lib.Dec.{leb}
use lib.Ieee.{Float}
use Rattle.channels.specs.Channels.{Channels, channels}
use Rattle.channels.specs.Joined.{join}
use Rattle.bad_samples.specs.Bad.{bad_if, bad_in, bad_within}

pub in_joined : (xs ys : List Float) → bad_in (xs ++ ys) ≡ bad_in xs + bad_in ys
in_joined [] ys = omega arith
in_joined (x ∷ xs) ys = let rest = in_joined xs ys in omega (arith, rest)

pub in_cut : {zs : List Float} (xs ys : List Float) → zs ≡ xs ++ ys → bad_in zs ≡ bad_in xs + bad_in ys
in_cut xs ys e = ap bad_in e ∙ in_joined xs ys

if_joined : (inside : Bool) (xs ys : List Float) → bad_if inside (xs ++ ys) ≡ bad_if inside xs + bad_if inside ys
if_joined true xs ys = in_joined xs ys
if_joined false xs ys = omega arith

pub within-joined : (w : ℕ) (s t : Channels) → bad_within w (join s t) ≡ bad_within w s + bad_within w t
within-joined w s t =
    let a = if_joined (leb 1 w) s.a t.a in
    let b = if_joined (leb 2 w) s.b t.b in
    let c = if_joined (leb 3 w) s.c t.c in
    omega (arith, a, b, c)

if_none : (inside : Bool) → bad_if inside [] ≡ 0
if_none true = refl
if_none false = refl

pub within_none : (w : ℕ) → bad_within w (channels [] [] []) ≡ 0
within_none w =
    let a = if_none (leb 1 w) in
    let b = if_none (leb 2 w) in
    let c = if_none (leb 3 w) in
    omega (arith, a, b, c)
