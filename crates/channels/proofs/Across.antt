-- A loop that writes f of each row of three lists x y z into three lists ends with f of every row, for any element: where x y z stand
-- apart from what is written, and where they are what is written. Each list is rewritten (`Rewriting`).
use Prim.Native.Nat.{◌+◌, ◌<◌, ℕ, ◌≤◌}
use mathlib.Core.Path.{ap, sym, ◌∙◌, ◌≡◌}
use mathlib.Core.List.{List, map}
use native.Mathlib.Omega.{arith}
use lib.ListN.{get_or, length, set}
use Rattle.notation.proofs.Rewriting.{Rewritten, begun, ended, read, write}
use Rattle.channels.specs.Channels.{zip3}
use Rattle.channels.proofs.Rows.{length_part, part_at}

-- how a row P is made of three elements, and its three parts: a struct of the code
pub record Row (A P : Type 0) : Type 0 where
  pub of : A → A → A → P
  pub e0 : P → A
  pub e1 : P → A
  pub e2 : P → A

-- five more lists as long as x
pub record AsLong {A : Type 0} (x y z r g b : List A) : Type 0 where
  pub as_y : length y ≡ length x
  pub as_z : length z ≡ length x
  pub as_r : length r ≡ length x
  pub as_g : length g ≡ length x
  pub as_b : length b ≡ length x

-- the lists that are written, and that were r₀ g₀ b₀, at place i
pub record Across {A P : Type 0} (t : Row A P) (f : P → P) (x y z r₀ g₀ b₀ : List A) (i : ℕ) (r g b : List A) : Type 0 where
  pub as_long : AsLong x y z r₀ g₀ b₀
  pub on_r : Rewritten (map t.e0 (map f (zip3 t.of x y z))) r₀ i r
  pub on_g : Rewritten (map t.e1 (map f (zip3 t.of x y z))) g₀ i g
  pub on_b : Rewritten (map t.e2 (map f (zip3 t.of x y z))) b₀ i b

pub across_begun : {A P : Type 0} (t : Row A P) (f : P → P) (x y z r g b : List A) → AsLong x y z r g b → Across t f x y z r g b 0 r g b
across_begun t f x y z r g b s =
    let long = length_part t.of f x y z s.as_y s.as_z in
    record { as_long = s; on_r = begun _ r (long t.e0 ∙ sym s.as_r); on_g = begun _ g (long t.e1 ∙ sym s.as_g); on_b = begun _ b (long t.e2 ∙ sym s.as_b) }

module _ {A P : Type 0} {t : Row A P} {f : P → P} {x y z r₀ g₀ b₀ r g b : List A} {i : ℕ} (s : Across t f x y z r₀ g₀ b₀ i r g b) where
  pub across-step : (d : A) (v : P) → i < length x → v ≡ f (t.of (get_or x i d) (get_or y i d) (get_or z i d)) → Across t f x y z r₀ g₀ b₀ (i + 1) (set r i (t.e0 v)) (set g i (t.e1 v)) (set b i (t.e2 v))
  across-step d v h w =
      let l = s.as_long in
      let hr : i < length r₀ = omega arith in
      let hg : i < length g₀ = omega arith in
      let hb : i < length b₀ = omega arith in
      let part : (k : P → A) → k v ≡ get_or (map k (map f (zip3 t.of x y z))) i d = λ k. ap k w ∙ sym (part_at t.of f x y z l.as_y l.as_z k i d h) in
      record {
        as_long = l;
        on_r = write s.on_r d (t.e0 v) hr (part t.e0);
        on_g = write s.on_g d (t.e1 v) hg (part t.e1);
        on_b = write s.on_b d (t.e2 v) hb (part t.e2);
      }

  pub across-ended : length x ≤ i → (r ≡ map t.e0 (map f (zip3 t.of x y z))) × (g ≡ map t.e1 (map f (zip3 t.of x y z))) × (b ≡ map t.e2 (map f (zip3 t.of x y z)))
  across-ended h =
      let l = s.as_long in
      (ended s.on_r (omega arith), ended s.on_g (omega arith), ended s.on_b (omega arith))

-- in place: what is read at a place is still x's, y's and z's own
pub in_place_step :
    {A P : Type 0} {t : Row A P} {f : P → P} {x y z a b c : List A} {i : ℕ} → Across t f x y z x y z i a b c →
    (d : A) (v : P) → i < length x → v ≡ f (t.of (get_or a i d) (get_or b i d) (get_or c i d)) → Across t f x y z x y z (i + 1) (set a i (t.e0 v)) (set b i (t.e1 v)) (set c i (t.e2 v))
in_place_step {x = x} {y = y} {z = z} {i = i} s d v h w =
    let l = s.as_long in
    let hy : i < length y = omega arith in
    let hz : i < length z = omega arith in
    across-step s d v h (w ∙ rw (read s.on_r d h, read s.on_g d hy, read s.on_b d hz))
