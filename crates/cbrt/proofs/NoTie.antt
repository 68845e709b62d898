-- No tie exists: no f32's cube root lies half way from an f32 to the next.
-- The odd part of such a point's cube has more than 72 digits, and that of an f32 at most 24.
use mathlib.Core.Path.{ap, refl, sym, ◌∙◌, ◌≡◌}
use mathlib.Core.Logic.{inl, inr, ◌⊎◌}
use mathlib.Core.Bool.{Bool}
use Prim.Native.Nat.{◌%◌, ◌*◌, ◌+◌, ◌/◌, ◌<◌, ◌^◌, suc, zero, ℕ, ◌≤◌}
use native.Mathlib.Nat.{add-mul, eq_of_mul-eq-mul_right, le_of_eq, le_trans, mul_assoc, mul_left_comm, mul-one, mul_right_comm, not-le_of_lt, one-mul, pow-suc, pow-succ', zero-lt-suc}
use native.Mathlib.Omega.{arith}
use lib.Dec.{T, lit≤}
use lib.IntN.{ℤ}
use lib.Pow.{pow-add}
use lib.Ieee.{binary32, down, fin, fits, up}
use lib.Ieee.Fits.{down_pos}
use Rattle.binary32.proofs.Count.{Held, odd_digits, units_of}
use Rattle.binary32.specs.Parts.{digits_of, place_of}
use Rattle.cbrt.proofs.Cubes.{cube-mono, cube-mul}
use Rattle.cbrt.specs.Root.{above, cube}

even_odd : (m t : ℕ) → m % 2 ≡ 1 → m ≡ 2 * t → ⊥
even_odd m t o h = omega arith

odd_pow : (m n a b : ℕ) → m % 2 ≡ 1 → n % 2 ≡ 1 → m * 2 ^ a ≡ n * 2 ^ b → (m ≡ n) × (a ≡ b)
odd_pow m n zero zero o p h = (sym (mul-one m) ∙ h ∙ mul-one n, refl)
odd_pow m n zero (suc b) o p h = absurd (even_odd m (n * 2 ^ b) o (sym (mul-one m) ∙ h ∙ ap (λ (x : ℕ). n * x) (pow-succ' 2 b) ∙ mul_left_comm n 2 (2 ^ b)))
odd_pow m n (suc a) zero o p h = absurd (even_odd n (m * 2 ^ a) p (sym (mul-one n) ∙ sym h ∙ ap (λ (x : ℕ). m * x) (pow-succ' 2 a) ∙ mul_left_comm m 2 (2 ^ a)))
odd_pow m n (suc a) (suc b) o p h =
    let r = odd_pow m n a b o p (eq_of_mul-eq-mul_right 2 (zero-lt-suc 1) (m * 2 ^ a) (n * 2 ^ b)
    (mul_assoc m (2 ^ a) 2 ∙ ap (λ (x : ℕ). m * x) (sym (pow-suc 2 a)) ∙ h ∙ ap (λ (x : ℕ). n * x) (pow-suc 2 b) ∙ sym (mul_assoc n (2 ^ b) 2))) in
    (r.0, ap suc r.1)

odd_mul : (a b : ℕ) → a % 2 ≡ 1 → b % 2 ≡ 1 → a * b % 2 ≡ 1
odd_mul a b o p = go (a / 2) (b / 2) (half a o) (half b p)
  where
    half : (a : ℕ) → a % 2 ≡ 1 → a ≡ 2 * (a / 2) + 1
    half a o = omega arith

    go : (x y : ℕ) → a ≡ 2 * x + 1 → b ≡ 2 * y + 1 → a * b % 2 ≡ 1
    go x y e f =
        let g : a * b ≡ 2 * (x * b) + b = ap (λ (z : ℕ). z * b) e ∙ add-mul (2 * x) 1 b ∙ ap (λ (z : ℕ). z + 1 * b) (mul_assoc 2 x b) ∙ ap (λ (z : ℕ). 2 * (x * b) + z) (one-mul b) in
        omega arith

cube-pow : (k : ℕ) → cube (2 ^ k) ≡ 2 ^ (k + k + k)
cube-pow k = sym (pow-add 2 (k + k) k ∙ ap (λ (x : ℕ). x * 2 ^ k) (pow-add 2 k k))

never : (n m y : ℕ) → Held n → m % 2 ≡ 1 → m < 0x100_0000 → cube (2 * n + above n) ≡ m * 2 ^ (y + 301) → ⊥
never n m y r o l e =
    let k = place_of n in
    let c = digits_of n in
    let a : 2 * n + 2 ^ k ≡ (2 * c + 1) * 2 ^ k = ap (λ (x : ℕ). 2 * x + 2 ^ k) r.whole ∙ sums c (2 ^ k) in
    let b : cube (2 * c + 1) * 2 ^ (k + k + k) ≡ m * 2 ^ (y + 301) = ap (λ (x : ℕ). cube (2 * c + 1) * x) (sym (cube-pow k)) ∙ sym (cube-mul (2 * c + 1) (2 ^ k)) ∙ ap cube (sym a) ∙ e in
    let w = odd_pow (cube (2 * c + 1)) m (k + k + k) (y + 301) (odd_mul ((2 * c + 1) * (2 * c + 1)) (2 * c + 1) (odd_mul (2 * c + 1) (2 * c + 1) (is_odd c) (is_odd c)) (is_odd c)) o b in
    not-le_of_lt l (le_trans (le_trans (lit≤ tt) (cube-mono (wide c (leads r.leading (some k y w.1))))) (le_of_eq w.0))
  where
    sums : (c p : ℕ) → 2 * (c * p) + p ≡ (2 * c + 1) * p
    sums c p = sym (add-mul (2 * c) 1 p ∙ ap (λ (x : ℕ). x + 1 * p) (mul_assoc 2 c p) ∙ ap (λ (x : ℕ). 2 * (c * p) + x) (one-mul p))

    is_odd : (c : ℕ) → (2 * c + 1) % 2 ≡ 1
    is_odd c = omega arith

    some : (k y : ℕ) → k + k + k ≡ y + 301 → 0 < k
    some k y e = omega arith

    leads : {k c : ℕ} → (k ≡ 0) ⊎ (0x80_0000 ≤ c) → 0 < k → 0x80_0000 ≤ c
    leads (inl z) h = absurd (omega arith)
    leads (inr g) h = g

    wide : (c : ℕ) → 0x80_0000 ≤ c → 0x100_0001 ≤ 2 * c + 1
    wide c h = omega arith

pub no_tie : (s : Bool) (m : ℕ) (e : ℤ) (n : ℕ) → T (fits binary32 (fin s (suc m) e)) → Held n → cube (2 * n + above n) * down e ≡ suc m * up e * 2 ^ 450 → ⊥
no_tie s m e n f r h =
    let u = units_of s (suc m) e f in
    let y = u.j in
    let D = down e in
    let g : suc m * up e * 2 ^ 450 ≡ suc m * 2 ^ (y + 301) * D =
    ap (λ (z : ℕ). suc m * up e * z) (pow-add 2 149 301) ∙ sym (mul_assoc (suc m * up e) (2 ^ 149) (2 ^ 301)) ∙ ap (λ (z : ℕ). z * 2 ^ 301) u.same ∙ mul_right_comm (suc m * 2 ^ y) D (2 ^ 301)
    ∙ ap (λ (z : ℕ). z * D) (mul_assoc (suc m) (2 ^ y) (2 ^ 301) ∙ ap (λ (z : ℕ). suc m * z) (sym (pow-add 2 y 301))) in
    never n (suc m) y r (odd_digits s m e f) u.digits (eq_of_mul-eq-mul_right D (down_pos e) (cube (2 * n + above n)) (suc m * 2 ^ (y + 301)) (h ∙ g))
