-- Of an f32 one f32 is the nearest cube root, and no other f32 is nearer.
-- The stretches around two f32 touch at most in a point half way, and no root lies there (`NoTie`).
use mathlib.Core.Path.{ap, refl, sym, ◌∙◌, ◌≡◌}
use mathlib.Core.Bool.{Bool, beq}
use Prim.Native.Nat.{◌*◌, ◌+◌, ◌-◌, ◌/◌, ◌<◌, ◌^◌, suc, zero, ℕ, ◌≤◌}
use native.Mathlib.Nat.{le_trans, mul-le-mul_right, zero-div, zero-mul}
use native.Mathlib.Omega.{arith}
use lib.Dec.{T, eqb, eqb→eq}
use lib.IntN.{ℤ}
use lib.Ieee.{Float, binary32, down, fin, fits, inf, nan, up}
use lib.Ieee.Fits.{and_l, and_r}
use Rattle.binary32.proofs.Count.{Held, held_by}
use Rattle.binary32.specs.Parts.{count}
use Rattle.cbrt.proofs.Cubes.{cube-mono}
use Rattle.cbrt.proofs.Gaps.{gap_above, gap_below}
use Rattle.cbrt.proofs.Stretch.{beq-eq, by_count, inside, one_count}
use Rattle.cbrt.specs.Root.{above, below, cube, is_root}

pub root_unique : (x r r' : Float) → T (fits binary32 x) → T (fits binary32 r) → T (fits binary32 r') → T (is_root x r) → T (is_root x r') → r ≡ r'
unfolding is_root
root_unique nan nan nan f g g' h h' = refl
root_unique nan nan (inf t) f g g' h h' = absurd h'
root_unique nan nan (fin t q d) f g g' h h' = absurd h'
root_unique nan (inf t) r' f g g' h h' = absurd h
root_unique nan (fin t q d) r' f g g' h h' = absurd h
root_unique (inf s) nan r' f g g' h h' = absurd h
root_unique (inf s) (inf t) nan f g g' h h' = absurd h'
root_unique (inf s) (inf t) (inf u) f g g' h h' = ap inf (sym (beq-eq s t h) ∙ beq-eq s u h')
root_unique (inf s) (inf t) (fin u q d) f g g' h h' = absurd h'
root_unique (inf s) (fin t q d) r' f g g' h h' = absurd h
root_unique (fin s m e) nan r' f g g' h h' = absurd h
root_unique (fin s m e) (inf t) r' f g g' h h' = absurd h
root_unique (fin s m e) (fin t q d) nan f g g' h h' = absurd h'
root_unique (fin s m e) (fin t q d) (inf u) f g g' h h' = absurd h'
root_unique (fin s zero e) (fin t q d) (fin t' q' d') f g g' h h' =
    let a = and_l (beq s t) (eqb q 0) h in
    let a' = and_l (beq s t') (eqb q' 0) h' in
    let z : q ≡ 0 = eqb→eq q 0 (and_r (beq s t) (eqb q 0) h) in
    let z' : q' ≡ 0 = eqb→eq q' 0 (and_r (beq s t') (eqb q' 0) h') in
    by_count t q d t' q' d' g g' (sym (beq-eq s t a) ∙ beq-eq s t' a') (none q d z ∙ sym (none q' d' z'))
  where
    none : (q : ℕ) (d : ℤ) → q ≡ 0 → count q d ≡ 0
    none q d z = ap (λ (x : ℕ). x * up d * 2 ^ 149 / down d) z ∙ ap (λ (x : ℕ). x / down d) (ap (λ (x : ℕ). x * 2 ^ 149) (zero-mul (up d)) ∙ zero-mul (2 ^ 149)) ∙ zero-div (down d)
root_unique (fin s (suc m) e) (fin t q d) (fin t' q' d') f g g' h h' =
    let w = inside s m e t q d h in
    let w' = inside s m e t' q' d' h' in
    by_count t q d t' q' d' g g' (sym w.0 ∙ w'.0) (one_count s m e (count q d) (count q' d') f (held_by t q d g) (held_by t' q' d' g') w.1 w'.1)

-- No f32 is nearer: the root lies on r's side of the point half way between r, of n units, and any other, of n' units.
-- In half units that point is n + n'.
pub none_nearer : (s : Bool) (m : ℕ) (e : ℤ) (t : Bool) (q : ℕ) (d : ℤ) (n' : ℕ) → T (fits binary32 (fin t q d)) → T (is_root (fin s (suc m) e) (fin t q d)) → Held n'
    → (count q d < n' → suc m * up e * 2 ^ 450 ≤ cube (count q d + n') * down e) × (n' < count q d → cube (count q d + n') * down e ≤ suc m * up e * 2 ^ 450)
none_nearer s m e t q d n' f h r' =
    let n = count q d in
    let r = held_by t q d f in
    let w = (inside s m e t q d h).1 in (
      λ l. le_trans w.1 (mul-le-mul_right (down e) (cube-mono (up_to n n' (above n) (gap_above n n' r r' l)))),
      λ l. le_trans (mul-le-mul_right (down e) (cube-mono (down_to n' n (below n) (gap_below n' n r' r l)))) w.0,
    )
  where
    up_to : (n n' p : ℕ) → n + p ≤ n' → 2 * n + p ≤ n + n'
    up_to n n' p h = omega arith

    down_to : (n' n p : ℕ) → n' + p ≤ n → n + n' ≤ 2 * n - p
    down_to n' n p h = omega arith
