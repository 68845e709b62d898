-- A loop over the elements below a count meets what a map makes of them, one after the other.
-- What remains from place i is the mapped list less its first i: the laws say what that is.
use Prim.Native.Nat.{ℕ, ◌+◌, ◌≤◌, ◌<◌}
use mathlib.Core.Path.{◌≡◌, ap, ◌∙◌}
use mathlib.Core.List.{List, [], ◌∷◌, map}
use native.Mathlib.Omega.{arith}
use lib.ListN.{length, get_or, take, drop, length-map, length-take, drop_of_length-le, get_or-map}
use lib.Seq.{get_or-take}
use Rattle.notation.proofs.Elements.{next}

module _ {A B : Type 0} (f : A → B) (n : ℕ) (xs : List A) where
  pub next-below : (i : ℕ) (d : A) → i < n → i < length xs → drop i (map f (take n xs)) ≡ f (get_or xs i d) ∷ drop (i + 1) (map f (take n xs))
  next-below i d h k =
      let l = map f (take n xs) in
      let q : i < length l = omega (arith, length-map (take n xs) f, length-take n xs) in
      next l i (f d) q ∙ ap (λ (b : B). b ∷ drop (i + 1) l) (get_or-map f (take n xs) i d ∙ ap f (get_or-take n xs i d h))

  pub none_below : (i : ℕ) → n ≤ i → drop i (map f (take n xs)) ≡ []
  none_below i h = drop_of_length-le (map f (take n xs)) {i = i} (omega (arith, length-map (take n xs) f, length-take n xs))
