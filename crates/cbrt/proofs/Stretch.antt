-- The stretch of roots that an f32 is nearest to: what `is_root` says of it, and that two f32 of one stretch are the same.
-- An f32 is its sign and its size.
use mathlib.Core.Path.{ap, refl, subst, sym, ◌∙◌, ◌≡◌}
use mathlib.Core.Logic.{inl, inr, ◌⊎◌}
use mathlib.Core.Bool.{◌&&◌, Bool, beq, cond, false, true}
use Prim.Native.Nat.{◌*◌, ◌+◌, ◌-◌, ◌/◌, ◌<◌, ◌^◌, suc, ℕ, ◌≤◌}
use native.Mathlib.Nat.{eq-or-lt_of_le, le_antisymm, le_trans, mul-le-mul_right}
use native.Mathlib.Omega.{arith}
use lib.Dec.{T, eqb, eqb-suc-zero, leb, leb→le}
use lib.IntN.{ℤ}
use lib.Ieee.{binary32, down, fin, fits, of_bits, size, to_bits, up}
use lib.Ieee.Bits.{of_bits-to_bits}
use lib.Ieee.Fits.{and_l, and_r}
use Rattle.notation.specs.Choice.{when◌then◌else◌}
use Rattle.binary32.proofs.Count.{Held}
use Rattle.binary32.proofs.Size.{split_le}
use Rattle.binary32.specs.Parts.{count}
use Rattle.cbrt.proofs.Cubes.{cube-mono}
use Rattle.cbrt.proofs.Gaps.{gap_above, gap_below}
use Rattle.cbrt.proofs.NoTie.{no_tie}
use Rattle.cbrt.specs.Root.{above, below, cube, is_root}

pub beq-eq : (s t : Bool) → T (beq s t) → s ≡ t
beq-eq true true h = refl
beq-eq true false h = absurd h
beq-eq false true h = absurd h
beq-eq false false h = refl

-- what `within` says
abbrev pub Within : ℕ → ℕ → ℕ → Type 0
Within n M D = (cube (2 * n - below n) * D ≤ M * 2 ^ 450) × (M * 2 ^ 450 ≤ cube (2 * n + above n) * D)

pub inside : (s : Bool) (m : ℕ) (e : ℤ) (t : Bool) (q : ℕ) (d : ℤ) → T (is_root (fin s (suc m) e) (fin t q d)) → (s ≡ t) × Within (count q d) (suc m * up e) (down e)
unfolding is_root
inside s m e t q d h =
    let n = count q d in
    let M = suc m * up e in
    let D = down e in
    let lo = leb (cube (2 * n - below n) * D) (M * 2 ^ 450) in
    let hi = leb (M * 2 ^ 450) (cube (2 * n + above n) * D) in
    let c : (when eqb (suc m) 0 then eqb q 0 else lo && hi) ≡ (lo && hi) = ap (λ (b : Bool). when b then eqb q 0 else lo && hi) (eqb-suc-zero m) in
    let w : T (lo && hi) = subst T c (and_r (beq s t) (when eqb (suc m) 0 then eqb q 0 else lo && hi) h) in
    (beq-eq s t (and_l (beq s t) (when eqb (suc m) 0 then eqb q 0 else lo && hi) h), (leb→le (cube (2 * n - below n) * D) (M * 2 ^ 450) (and_l lo hi w), leb→le (M * 2 ^ 450) (cube (2 * n + above n) * D) (and_r lo hi w)))

apart : (s : Bool) (m : ℕ) (e : ℤ) (n n' : ℕ) → T (fits binary32 (fin s (suc m) e)) → Held n → Held n' → Within n (suc m * up e) (down e) → Within n' (suc m * up e) (down e) → n < n' → ⊥
apart s m e n n' f r r' w w' h =
    let D = down e in
    let a = 2 * n + above n in
    let b = 2 * n' - below n' in
    let ab : a ≤ b = mid n n' (above n) (below n') (gap_above n n' r r' h) (gap_below n n' r r' h) in
    no_tie s m e n f r (le_antisymm (le_trans (mul-le-mul_right D (cube-mono ab)) w'.0) w.1)
  where
    mid : (n n' p q : ℕ) → n + p ≤ n' → n + q ≤ n' → 2 * n + p ≤ 2 * n' - q
    mid n n' p q a b = omega arith

-- two f32 of one sign and one size
same_bits : (s : Bool) (m : ℕ) (e : ℤ) (s' : Bool) (m' : ℕ) (e' : ℤ) → s ≡ s' → count m e ≡ count m' e' → to_bits binary32 (fin s m e) ≡ to_bits binary32 (fin s' m' e')
unfolding to_bits
same_bits s m e s' m' e' p q = λ i. cond (p i) 0x8000_0000 0 + (size (q i) - 24) * 0x80_0000 + q i / 2 ^ (size (q i) - 24)

pub by_count : (s : Bool) (m : ℕ) (e : ℤ) (s' : Bool) (m' : ℕ) (e' : ℤ) → T (fits binary32 (fin s m e)) → T (fits binary32 (fin s' m' e')) → s ≡ s' → count m e ≡ count m' e' → fin s m e ≡ fin s' m' e'
by_count s m e s' m' e' f f' p q = sym (of_bits-to_bits binary32 (fin s m e) f) ∙ ap (of_bits binary32) (same_bits s m e s' m' e' p q) ∙ of_bits-to_bits binary32 (fin s' m' e') f'

-- two sizes of which the root of one f32 lies in both stretches
pub one_count : (s : Bool) (m : ℕ) (e : ℤ) (n n' : ℕ) → T (fits binary32 (fin s (suc m) e)) → Held n → Held n' → Within n (suc m * up e) (down e) → Within n' (suc m * up e) (down e) → n ≡ n'
one_count s m e n n' f r r' w w' = go (split_le n n')
  where
    go : (n ≤ n') ⊎ (n' < n) → n ≡ n'
    go (inr h) = absurd (apart s m e n' n f r' r w' w h)
    go (inl h) = elim (eq-or-lt_of_le h) [ inl e ↦ e | inr g ↦ absurd (apart s m e n n' f r r' w w' g) ]
