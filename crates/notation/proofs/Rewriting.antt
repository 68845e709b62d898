-- A loop that writes the elements of R over those of x, one place at a time, ends with R.
-- Before place i stands R, from there on still x.
use mathlib.Core.Path.{ap, refl, sym, ◌∙◌, ◌≡◌}
use mathlib.Core.List.{◌++◌, List, [], append_assoc, append-nil, map, ◌∷◌}
use Prim.Native.Nat.{◌+◌, ◌<◌, suc, zero-le, ℕ, ◌≤◌}
use native.Mathlib.Numerals.{add-one}
use native.Mathlib.Omega.{arith}
use lib.ListN.{drop, get_or, length, length-map, length-set, set, take}
use lib.Seq.{drop-cons, drop-length, get_or_at, length-take-le, set_at, take-length, take-suc}
use Rattle.notation.proofs.Elements.{map_at}

-- the list s at place i of such a loop
pub record Rewritten {A : Type 0} (R x : List A) (i : ℕ) (s : List A) : Type 0 where
  pub far : i ≤ length x
  pub long : length s ≡ length x
  pub whole : length R ≡ length x
  pub is : s ≡ take i R ++ drop i x

pub begun : {A : Type 0} (R x : List A) → length R ≡ length x → Rewritten R x 0 x
begun R x l = record { far = zero-le; long = refl; whole = l; is = refl }

module _ {A : Type 0} {R x s : List A} {i : ℕ} (r : Rewritten R x i s) (d : A) where
  -- what is read at place i is x's own
  pub read : i < length x → get_or s i d ≡ get_or x i d
  read h =
      let w = r.whole in
      rw (r.is, drop-cons x i d h) (get_or_at (take i R) (get_or x i d) (drop (suc i) x) d i (length-take-le i R (omega arith)))

  pub write : (v : A) → i < length x → v ≡ get_or R i d → Rewritten R x (i + 1) (set s i v)
  write v h e =
      let w = r.whole in
      let q : i < length R = omega arith in
      record {
        far = omega arith;
        long = length-set s i v ∙ r.long;
        whole = w;
        is = rw (r.is, add-one i, drop-cons x i d h, set_at (take i R) (get_or x i d) (drop (suc i) x) v i (length-take-le i R (omega arith)), take-suc R i d q, e)
            (sym (append_assoc (take i R) (get_or R i d ∷ []) (drop (suc i) x)));
      }

pub ended : {A : Type 0} {R x s : List A} {i : ℕ} → Rewritten R x i s → length x ≤ i → s ≡ R
ended {R = R} {x = x} {i = i} r h =
    let far = r.far in
    let e : i ≡ length x = omega arith in
    r.is ∙ rw (e, drop-length x, append-nil (take (length x) R), ← r.whole) (take-length R)

-- each element by f
pub map-begun : {A B : Type 0} (f : A → B) (x : List A) (y : List B) → length y ≡ length x → Rewritten (map f x) y 0 y
map-begun f x y l = begun (map f x) y (length-map x f ∙ sym l)

pub map-write : {A : Type 0} {x s : List A} {i : ℕ} (f : A → A) (r : Rewritten (map f x) x i s) (d v : A) → i < length x → v ≡ f (get_or s i d) → Rewritten (map f x) x (i + 1) (set s i v)
map-write {x = x} {i = i} f r d v h e = write r d v h (e ∙ ap f (read r d h) ∙ sym (map_at f x i d d h))
