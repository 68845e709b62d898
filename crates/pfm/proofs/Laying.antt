-- The bytes of several things, each of so many bytes, fill a buffer that has just room for them.
-- What is left to put is the bytes of those that remain; at the end nothing of the old buffer is left.
use Prim.Native.Nat.{ℕ, ◌+◌, ◌*◌, ◌<◌, ◌≤◌}
use mathlib.Core.Path.{◌≡◌, ap, refl, subst, sym, ◌∙◌}
use mathlib.Core.Bool.{Bool, true, false}
use mathlib.Core.List.{List, [], ◌∷◌, ◌++◌, append-nil}
use native.Mathlib.Nat.{suc-mul, zero-mul}
use native.Mathlib.Omega.{arith}
use lib.ListN.{drop, drop_of_length-le, get_or, length, length-append}
use Rattle.notation.proofs.Elements.{next}
use Rattle.buffer.specs.Buffer.{Put, Room}
use Rattle.buffer.proofs.Putting.{Goes, begun, ended, further}
use Rattle.buffer.proofs.Putting as P
use Rattle.block_write.specs.Bytes.{joined}
use Rattle.channels.specs.Channels.{zip3}
use Rattle.channels.proofs.Rows.{length-rows, row_at}
use Rattle.pfm.specs.Samples.{word_bytes}

pub four : (little : Bool) (n : ℕ) → length (word_bytes little n) ≡ 4
four true n = refl
four false n = refl

module _ {A : Type 0} (f : A → List ℕ) (k : ℕ) (each : (x : A) → length (f x) ≡ k) (d : A) where
  size : (xs : List A) → length (joined f xs) ≡ length xs * k
  size [] = sym (zero-mul k)
  size (x ∷ xs) = length-append (f x) (joined f xs) ∙ omega (arith, each x, size xs, suc-mul (length xs) k)

  module _ (xs : List A) {old : List ℕ} (e : length old ≡ length xs * k) where
    pub starts : Goes old 0 (joined f xs) old 0 (joined f (drop 0 xs))
    starts = begun (record { enough = omega (arith, size xs) })

    module _ {mid : List ℕ} {m i : ℕ} (g : Goes old 0 (joined f xs) mid m (joined f (drop i xs))) where
      -- the bytes of the next one, and of those behind it
      onward : i < length xs → Goes old 0 (joined f xs) mid m (f (get_or xs i d) ++ joined f (drop (i + 1) xs))
      onward h = rw (ap (joined f) (next xs i d h)) at g

      pub room : i < length xs → Room mid m (f (get_or xs i d))
      room h = P.next (f (get_or xs i d)) (joined f (drop (i + 1) xs)) (onward h)

      pub again : i < length xs → {new : List ℕ} {r : ℕ} → Put mid m (f (get_or xs i d)) new r → Goes old 0 (joined f xs) new r (joined f (drop (i + 1) xs))
      again h p = further (f (get_or xs i d)) (joined f (drop (i + 1) xs)) (onward h) p

      pub ends : length xs ≤ i → mid ≡ joined f xs
      ends h =
          let p = ended (rw (ap (joined f) (drop_of_length-le xs {i = i} h)) at g) in
          p.contents ∙ ap (λ (t : List ℕ). joined f xs ++ t) (drop_of_length-le old {i = 0 + length (joined f xs)} (omega (arith, size xs))) ∙ append-nil (joined f xs)

-- ---- the rows of three equally long lists
module _ {A R : Type 0} (of : A → A → A → R) (f : R → List ℕ) (k : ℕ) (each : (r : R) → length (f r) ≡ k) (d : A)
    (x y z : List A) (p : length y ≡ length x) (q : length z ≡ length x) (old : List ℕ) (full : length old ≡ length x * k) where
  long : length (zip3 of x y z) ≡ length x
  long = length-rows of x y z p q

  filled : length old ≡ length (zip3 of x y z) * k
  filled = rw long full

  row : (i : ℕ) → i < length x → get_or (zip3 of x y z) i (of d d d) ≡ of (get_or x i d) (get_or y i d) (get_or z i d)
  row i h = row_at of x y z i d (of d d d) h p q

  pub rows_start : Goes old 0 (joined f (zip3 of x y z)) old 0 (joined f (drop 0 (zip3 of x y z)))
  rows_start = starts f k each (of d d d) (zip3 of x y z) filled

  module _ {mid : List ℕ} {m i : ℕ} (g : Goes old 0 (joined f (zip3 of x y z)) mid m (joined f (drop i (zip3 of x y z)))) where
    pub row_room : i < length x → Room mid m (f (of (get_or x i d) (get_or y i d) (get_or z i d)))
    row_room h = subst (λ (r : R). Room mid m (f r)) (row i h) (room f k each (of d d d) (zip3 of x y z) filled g (rw long h))

    pub rows-again : i < length x → {new : List ℕ} {r : ℕ} → Put mid m (f (of (get_or x i d) (get_or y i d) (get_or z i d))) new r
        → Goes old 0 (joined f (zip3 of x y z)) new r (joined f (drop (i + 1) (zip3 of x y z)))
    rows-again h {new} {r} o =
        again f k each (of d d d) (zip3 of x y z) filled g (rw long h) (subst (λ (t : R). Put mid m (f t) new r) (sym (row i h)) o)

    pub rows_end : length x ≤ i → mid ≡ joined f (zip3 of x y z)
    rows_end h = let l : length (zip3 of x y z) ≤ i = rw long h in ends f k each (of d d d) (zip3 of x y z) filled g l
