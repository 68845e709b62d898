-- The elements of a list by their places: the next one is the head of what is left, and what a map makes of one.
-- By the kit's `drop-cons`; by induction on the list.
use mathlib.Core.Path.{◌≡◌, refl}
use mathlib.Core.List.{List, [], ◌∷◌, map}
use Prim.Native.Nat.{ℕ, zero, suc, ◌+◌, ◌<◌}
use native.Mathlib.Nat.{le_of_suc-le-suc, not-suc-le-zero}
use native.Mathlib.Numerals.{add-one}
use lib.ListN.{length, drop, get_or}
use lib.Seq.{drop-cons}

pub next : {A : Type 0} (l : List A) (i : ℕ) (d : A) → i < length l → drop i l ≡ get_or l i d ∷ drop (i + 1) l
next l i d h = rw (add-one i) (drop-cons l i d h)

pub map_at : {A B : Type 0} (f : A → B) (x : List A) (i : ℕ) (d : A) (e : B) → i < length x → get_or (map f x) i e ≡ f (get_or x i d)
map_at f [] i d e h = absurd (not-suc-le-zero h)
map_at f (a ∷ x) zero d e h = refl
map_at f (a ∷ x) (suc i) d e h = map_at f x i d e (le_of_suc-le-suc h)
