-- A loop that rewrites three equally long channels piece by piece, each triple of samples by f, ends as one that goes place by place.
-- What f makes of a piece is that piece of what it makes of the whole; the piece that comes back is written over the one that was lent.
use Prim.Native.Nat.{◌+◌, ◌-◌, suc, zero, ℕ, ◌≤◌}
use mathlib.Core.Path.{ap, refl, sym, ◌∙◌, ◌≡◌}
use mathlib.Core.List.{◌++◌, List, [], append_assoc, map, ◌∷◌}
use native.Mathlib.Omega.{arith}
use borrow.Rule.Slice.PartMut.{put_mid}
use lib.ListN.{drop, length, length-append, length-drop, length-take, take}
use lib.Seq.{drop_at, drop-drop, length-take-le, take-add, take_at}
use lib.Ieee.{Float}
use Rattle.notation.proofs.Rewriting.{Rewritten}
use Rattle.ciexyz.specs.declared.Vec3.{Vec3}
use Rattle.channels.specs.Channels.{EquallyLong, channels, each, triples, v0_of, v1_of, v2_of, vec, zip3}
use Rattle.channels.proofs.InStep.{Stepped}

-- the room keeps its length where the front of it is written
pub room_kept : (h g : List Float) (m : ℕ) → length h ≡ 256 → length g ≡ length (take m h) → length (g ++ drop m h) ≡ 256
room_kept h g m e l = omega (arith, e, l, length-append g (drop m h), length-drop m h, length-take m h)

-- ---- a piece of a list
map-take : {A B : Type 0} (f : A → B) (x : List A) (n : ℕ) → map f (take n x) ≡ take n (map f x)
map-take f x zero = refl
map-take f [] (suc n) = refl
map-take f (a ∷ x) (suc n) = ap (λ (t : List _). f a ∷ t) (map-take f x n)

map-drop : {A B : Type 0} (f : A → B) (x : List A) (n : ℕ) → map f (drop n x) ≡ drop n (map f x)
map-drop f x zero = refl
map-drop f [] (suc n) = refl
map-drop f (a ∷ x) (suc n) = map-drop f x n

map-piece : {A B : Type 0} (f : A → B) (x : List A) (j m : ℕ) → map f (take m (drop j x)) ≡ take m (drop j (map f x))
map-piece f x j m = map-take f (drop j x) m ∙ ap (take m) (map-drop f x j)

rows_take : {A R : Type 0} (row : A → A → A → R) (x y z : List A) (n : ℕ) → zip3 row (take n x) (take n y) (take n z) ≡ take n (zip3 row x y z)
rows_take row x y z zero = refl
rows_take row [] y z (suc n) = refl
rows_take row (a ∷ x) [] z (suc n) = refl
rows_take row (a ∷ x) (b ∷ y) [] (suc n) = refl
rows_take row (a ∷ x) (b ∷ y) (c ∷ z) (suc n) = ap (λ (t : List _). row a b c ∷ t) (rows_take row x y z n)

rows_drop : {A R : Type 0} (row : A → A → A → R) (x y z : List A) (n : ℕ) → length y ≡ length x → length z ≡ length x → zip3 row (drop n x) (drop n y) (drop n z) ≡ drop n (zip3 row x y z)
rows_drop row x y z zero p q = refl
rows_drop row [] y z (suc n) p q = refl
rows_drop row (a ∷ x) [] z (suc n) p q = absurd (omega arith)
rows_drop row (a ∷ x) (b ∷ y) [] (suc n) p q = absurd (omega arith)
rows_drop row (a ∷ x) (b ∷ y) (c ∷ z) (suc n) p q = rows_drop row x y z n (omega arith) (omega arith)

-- what one part of f makes of a piece
part-piece : (f : Vec3 → Vec3) (part : Vec3 → Float) (x y z : List Float) (j m : ℕ) → length y ≡ length x → length z ≡ length x
    → map part (map f (triples (take m (drop j x)) (take m (drop j y)) (take m (drop j z)))) ≡ take m (drop j (map part (map f (triples x y z))))
part-piece f part x y z j m p q =
    ap (λ (t : List Vec3). map part (map f t)) (rows_take vec (drop j x) (drop j y) (drop j z) m ∙ ap (take m) (rows_drop vec x y z j p q))
    ∙ ap (map part) (map-piece f (triples x y z) j m)
    ∙ map-piece part (map f (triples x y z)) j m

-- ---- a list that is rewritten piece by piece
module _ {R x s : List Float} {j : ℕ} (r : Rewritten R x j s) (m : ℕ) (h : j + m ≤ length x) where
  front : length (take j R) ≡ j
  front = let w = r.whole in length-take-le j R (omega arith)

  -- the piece that is lent is x's own
  lent : drop j s ≡ drop j x
  lent = ap (drop j) r.is ∙ drop_at (take j R) (drop j x) j front

  pub piece_of : take (j + m - j) (drop j s) ≡ take m (drop j x)
  piece_of = (λ i. take (span j m i) (lent i))
    where
      span : (j m : ℕ) → j + m - j ≡ m
      span j m = omega arith

  pub put-piece : (ys : List Float) → ys ≡ take m (drop j R) → Rewritten R x (j + m) (put_mid j (j + m - j) s ys)
  put-piece ys y =
      let a : take j s ≡ take j R = ap (take j) r.is ∙ take_at (take j R) (drop j x) j front in
      let w : put_mid j (j + m - j) s ys ≡ take (j + m) R ++ drop (j + m) x =
      (λ i. a i ++ (y i ++ drop (span j m i) (lent i)))
      ∙ ap (λ (t : List Float). take j R ++ (take m (drop j R) ++ t)) (drop-drop m j x)
      ∙ sym (append_assoc (take j R) (take m (drop j R)) (drop (j + m) x))
      ∙ ap (λ (t : List Float). t ++ drop (j + m) x) (sym (take-add j m R)) in
      record { far = h; long = ap length w ∙ both; whole = r.whole; is = w }
    where
      span : (j m : ℕ) → j + m - j ≡ m
      span j m = omega arith

      both : length (take (j + m) R ++ drop (j + m) x) ≡ length x
      both =
          let l = r.whole in
          let n : length (take (j + m) R) ≡ j + m = length-take-le (j + m) R (omega arith) in
          let p : length (drop (j + m) x) ≡ length x - (j + m) = length-drop (j + m) x in
          length-append (take (j + m) R) (drop (j + m) x) ∙ (omega arith)

  pub length-piece : length (take (j + m - j) (drop j s)) ≡ m
  length-piece = ap length piece_of ∙ length-take-le m (drop j x) (omega (arith, length-drop j x))

-- ---- three channels
module _ {f : Vec3 → Vec3} {x y z a b c : List Float} {j : ℕ} (s : Stepped f x y z j a b c) (m : ℕ) (h : j + m ≤ length x) where
  on-y : j + m ≤ length y
  on-y = omega (arith, s.as_long.as_y)

  on-z : j + m ≤ length z
  on-z = omega (arith, s.as_long.as_z)

  pub pieces-even : EquallyLong (channels (take (j + m - j) (drop j a)) (take (j + m - j) (drop j b)) (take (j + m - j) (drop j c)))
  pieces-even =
      let l = length-piece s.on_r m h in
      (length-piece s.on_g m on-y ∙ sym l, length-piece s.on_b m on-z ∙ sym l)

  pub stepped-piece :
      (a' b' c' : List Float) → channels a' b' c' ≡ each f (channels (take (j + m - j) (drop j a)) (take (j + m - j) (drop j b)) (take (j + m - j) (drop j c))) →
      Stepped f x y z (j + m) (put_mid j (j + m - j) a a') (put_mid j (j + m - j) b b') (put_mid j (j + m - j) c c')
  stepped-piece a' b' c' e =
      let l = s.as_long in
      let px = piece_of s.on_r m h in
      let py = piece_of s.on_g m on-y in
      let pz = piece_of s.on_b m on-z in
      let part : (k : Vec3 → Float) → map k (map f (triples (take (j + m - j) (drop j a)) (take (j + m - j) (drop j b)) (take (j + m - j) (drop j c)))) ≡ take m (drop j (map k (map f (triples x y z)))) =
      λ k. (λ i. map k (map f (triples (px i) (py i) (pz i)))) ∙ part-piece f k x y z j m l.as_y l.as_z in
      record {
        as_long = l;
        on_r = put-piece s.on_r m h a' (ap (λ t. t.a) e ∙ part v0_of);
        on_g = put-piece s.on_g m on-y b' (ap (λ t. t.b) e ∙ part v1_of);
        on_b = put-piece s.on_b m on-z c' (ap (λ t. t.c) e ∙ part v2_of);
      }
