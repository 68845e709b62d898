-- A pixel written at a place stands there, and elsewhere what stood there; and channels whose pixel at each place is f's are `each_pixel f`.
-- By the library's laws of a written element; two lists that agree at each place are equal.
use Prim.Native.Nat.{ℕ, ◌+◌, ◌<◌}
use mathlib.Core.Path.{◌≡◌, ap, sym, ◌∙◌}
use mathlib.Core.List.{List, map}
use native.Mathlib.Nat.{lt_of_lt_of_le, le_of_eq}
use native.Mathlib.Omega.{arith}
use borrow.Author.Count.{below_more}
use lib.ListN.{get_or, length, set}
use Rattle.std.proofs.lemmas.List.{ext_get_or, get_or-set_other, get_or-set_same}
use Rattle.channels.specs.Channels.{zip3}
use Rattle.channels.proofs.Rows.{length_part, part_at}
use Rattle.ycbcr_weights.specs.declared.Pixel.{Pixel}
use Rattle.ycbcr_weights.specs.Rgb.{pixel}
use Rattle.ycbcr_planes.specs.Planes.{EquallyLong, Planes, c0_of, c1_of, c2_of, each_pixel, pixel_at, planes}

abbrev pub written : Planes → ℕ → Pixel → Planes
written s i p = planes (set s.a i p.c0) (set s.b i p.c1) (set s.c i p.c2)

module _ (s : Planes) (i : ℕ) (p : Pixel) (as-a : i < length s.a) (as-b : i < length s.b) (as-c : i < length s.c) where
  here : pixel_at (written s i p) i ≡ p
  here = rw (get_or-set_same s.a i p.c0 0 as-a, get_or-set_same s.b i p.c1 0 as-b, get_or-set_same s.c i p.c2 0 as-c)

  below : (k : ℕ) → k < i → pixel_at (written s i p) k ≡ pixel_at s k
  below k h =
      let n : ¬ (k ≡ i) = λ e. omega arith in
      rw (get_or-set_other s.a i k p.c0 0 n, get_or-set_other s.b i k p.c1 0 n, get_or-set_other s.c i k p.c2 0 n)

  pub placed : (Made : ℕ → Pixel → Type 0) → ((k : ℕ) → k < i → Made k (pixel_at s k)) → Made i p → (k : ℕ) → k < i + 1 → Made k (pixel_at (written s i p) k)
  placed Made before made = below_more (λ k. Made k (pixel_at (written s i p) k)) i (λ k h. rw (below k h) (before k h)) (rw here made)

-- channels s in, t out, and u what is left of t
module _ (f : Pixel → Pixel) (s t u : Planes) (e : EquallyLong s t) where
  pub each_placed :
      length u.a ≡ length t.a → length u.b ≡ length t.b → length u.c ≡ length t.c → ((i : ℕ) → i < length t.a → pixel_at u i ≡ f (pixel_at s i)) →
      u ≡ each_pixel f s
  each_placed la lb lc at = rw (part c0_of u.a (la ∙ e.2) (λ i h. ap c0_of (at i h)), part c1_of u.b (lb ∙ e.3) (λ i h. ap c1_of (at i h)), part c2_of u.c (lc ∙ e.4) (λ i h. ap c2_of (at i h)))
    where
      part : (k : Pixel → ℕ) (x : List ℕ) → length x ≡ length s.a → ((i : ℕ) → i < length t.a → get_or x i 0 ≡ k (f (pixel_at s i))) → x ≡ map k (map f (zip3 pixel s.a s.b s.c))
      part k x l is = ext_get_or 0 x _ (l ∙ sym (length_part pixel f s.a s.b s.c e.0 e.1 k)) (λ i h. let j = lt_of_lt_of_le h (le_of_eq l) in is i (lt_of_lt_of_le j (le_of_eq (sym e.2))) ∙ sym (part_at pixel f s.a s.b s.c e.0 e.1 k i 0 j))
