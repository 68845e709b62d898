-- The rows of three equally long lists: as many as the lists are long, and at each place the row of the elements there.
-- By induction on the lists.
use Prim.Native.Nat.{◌<◌, suc, zero, ℕ}
use mathlib.Core.Path.{ap, refl, sym, ◌∙◌, ◌≡◌}
use mathlib.Core.List.{List, [], map, ◌∷◌}
use native.Mathlib.Nat.{le_of_eq, le_of_suc-le-suc, lt_of_lt_of_le, not-suc-le-zero, suc_inj, zero-lt-suc}
use native.Mathlib.Omega.{arith}
use lib.ListN.{get_or, length, length-map}
use Rattle.notation.proofs.Elements.{map_at}
use Rattle.channels.specs.Channels.{zip3}

module _ {A P : Type 0} (of : A → A → A → P) where
  pub length-rows : (x y z : List A) → length y ≡ length x → length z ≡ length x → length (zip3 of x y z) ≡ length x
  length-rows [] y z p q = refl
  length-rows (a ∷ x) [] z p q = absurd (omega arith)
  length-rows (a ∷ x) (b ∷ y) [] p q = absurd (omega arith)
  length-rows (a ∷ x) (b ∷ y) (c ∷ z) p q = ap suc (length-rows x y z (omega arith) (omega arith))

  pub row_at : (x y z : List A) (i : ℕ) (d : A) (r : P) → i < length x → length y ≡ length x → length z ≡ length x
      → get_or (zip3 of x y z) i r ≡ of (get_or x i d) (get_or y i d) (get_or z i d)
  row_at [] y z i d r h p q = absurd (not-suc-le-zero h)
  row_at (a ∷ x) [] z i d r h p q = absurd (omega arith)
  row_at (a ∷ x) (b ∷ y) [] i d r h p q = absurd (omega arith)
  row_at (a ∷ x) (b ∷ y) (c ∷ z) zero d r h p q = refl
  row_at (a ∷ x) (b ∷ y) (c ∷ z) (suc i) d r h p q = row_at x y z i d r (le_of_suc-le-suc h) (omega arith) (omega arith)

  -- two functions that agree on every row
  pub rows_agree : (f g : P → P) (d : A) (x y z : List A) → length y ≡ length x → length z ≡ length x → ((i : ℕ) → i < length x → f (of (get_or x i d) (get_or y i d) (get_or z i d)) ≡ g (of (get_or x i d) (get_or y i d) (get_or z i d)))
      → map f (zip3 of x y z) ≡ map g (zip3 of x y z)
  rows_agree f g d [] y z p q h = refl
  rows_agree f g d (a ∷ x) [] z p q h = absurd (omega arith)
  rows_agree f g d (a ∷ x) (b ∷ y) [] p q h = absurd (omega arith)
  rows_agree f g d (a ∷ x) (b ∷ y) (c ∷ z) p q h = (λ i. h 0 (zero-lt-suc (length x)) i ∷ rows_agree f g d x y z (suc_inj p) (suc_inj q) (λ i l. h (suc i) (omega arith)) i)

  -- one part of f of every row
  module _ (f : P → P) (x y z : List A) (p : length y ≡ length x) (q : length z ≡ length x) (part : P → A) where
    pub length_part : length (map part (map f (zip3 of x y z))) ≡ length x
    length_part = length-map (map f (zip3 of x y z)) part ∙ length-map (zip3 of x y z) f ∙ length-rows x y z p q

    pub part_at : (i : ℕ) (d : A) → i < length x → get_or (map part (map f (zip3 of x y z))) i d ≡ part (f (of (get_or x i d) (get_or y i d) (get_or z i d)))
    part_at i d h =
        let rs = zip3 of x y z in
        let r = of d d d in
        let l : i < length rs = lt_of_lt_of_le h (le_of_eq (sym (length-rows x y z p q))) in
        let k : i < length (map f rs) = lt_of_lt_of_le l (le_of_eq (sym (length-map rs f))) in
        map_at part (map f rs) i r d k ∙ ap part (map_at f rs i r r l) ∙ ap (λ (v : P). part (f v)) (row_at x y z i d r h p q)
