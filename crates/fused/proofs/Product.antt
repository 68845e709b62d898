-- `fused` of three finite floats, from their digits and places.
-- The exact product plus addend is one fraction, written over 2 ^ 298 here and over the floats' own divisors in the spec.
use mathlib.Core.Path.{ap, sym, ◌∙◌, ◌≡◌}
use mathlib.Core.Bool.{Bool}
use Prim.Native.Nat.{◌*◌, ◌+◌, ◌<◌, ◌^◌, ℕ}
use native.Mathlib.Nat.{le_of_lt, le_refl, lt_of_le_of_lt, mul_assoc, mul_comm, mul-le-mul, mul_left_comm, mul-lt-mul_of_pos_right, mul-mul-mul_comm, mul-pos, zero-lt-suc}
use lib.Pow.{pow-add, pow_pos}
use lib.Ieee.{Float, binary32, down, fin, inf, nan, sum, unlike, up}
use lib.Ieee.Exact.{HasValue}
use lib.Ieee.Fits.{down_pos}
use Rattle.rounding.proofs.Sums.{sum_same}
use Rattle.fused.specs.Fused.{fused, plus}

first_part : (M N i K A B e d : ℕ) → M * K ≡ A * e → N * K ≡ B * d → M * N * i * (K * K) ≡ A * B * (e * d * i)
first_part M N i K A B e d p q =
    let l : M * N * i * (K * K) ≡ M * K * (N * K) * i = simp (mul_assoc, mul_comm, mul_left_comm) in
    let r : A * e * (B * d) * i ≡ A * B * (e * d * i) = simp (mul_assoc, mul_comm, mul_left_comm) in
    l ∙ ap (λ (x : ℕ). x * (N * K) * i) p ∙ ap (λ (x : ℕ). A * e * x * i) q ∙ r

second-part : (P K C e d i : ℕ) → P * K ≡ C * i → P * (e * d) * (K * K) ≡ C * K * (e * d * i)
second-part P K C e d i p =
    let l : P * (e * d) * (K * K) ≡ P * K * (K * (e * d)) = simp (mul_assoc, mul_comm, mul_left_comm) in
    let r : C * i * (K * (e * d)) ≡ C * K * (e * d * i) = simp (mul_assoc, mul_comm, mul_left_comm) in
    l ∙ ap (λ (x : ℕ). x * (K * (e * d))) p ∙ r

all_finite : (a b c : Float) (s t u : Bool) (A B C : ℕ) → HasValue a s A (2 ^ 149) → HasValue b t B (2 ^ 149) → HasValue c u C (2 ^ 149)
    → sum binary32 (unlike s t) (A * B) u (C * 2 ^ 149) (2 ^ 298) ≡ fused a b c
unfolding fused plus
all_finite nan b c s t u A B C p q r = absurd p
all_finite (inf x) b c s t u A B C p q r = absurd p
all_finite (fin x m e) nan c s t u A B C p q r = absurd q
all_finite (fin x m e) (inf y) c s t u A B C p q r = absurd q
all_finite (fin x m e) (fin y n d) nan s t u A B C p q r = absurd r
all_finite (fin x m e) (fin y n d) (inf z) s t u A B C p q r = absurd r
all_finite (fin x m e) (fin y n d) (fin z k i) s t u A B C p q r =
    sum_same binary32 (unlike s t) (A * B) u (C * 2 ^ 149) (2 ^ 298) (m * up e * (n * up d) * down i) (k * up i * (down e * down d)) (down e * down d * down i)
    (pow_pos 298) (mul-pos (mul-pos (down_pos e) (down_pos d)) (down_pos i))
    (sym (first_part (m * up e) (n * up d) (down i) (2 ^ 149) A B (down e) (down d) p.1 q.1))
    (sym (second-part (k * up i) (2 ^ 149) C (down e) (down d) (down i) r.1))
    ∙ (λ j. sum binary32 (unlike (sym p.0 j) (sym q.0 j)) (m * up e * (n * up d) * down i) (sym r.0 j) (k * up i * (down e * down d)) (down e * down d * down i))

-- the exact product is below 2 ^ 48
pub product_lt : (m n : ℕ) → m < 0x100_0000 → n < 0x100_0000 → m * n < 0x1_0000_0000_0000
product_lt m n p q = lt_of_le_of_lt (mul-le-mul (le_refl m) (le_of_lt q)) (mul-lt-mul_of_pos_right p (zero-lt-suc 0xff_ffff))

pub by_digits : (a b c : Float) (s t u : Bool) (m n o i j k : ℕ) → HasValue a s (m * 2 ^ i) (2 ^ 149) → HasValue b t (n * 2 ^ j) (2 ^ 149) → HasValue c u (o * 2 ^ k) (2 ^ 149)
    → sum binary32 (unlike s t) (m * n * 2 ^ (i + j)) u (o * 2 ^ (k + 149)) (2 ^ 298) ≡ fused a b c
by_digits a b c s t u m n o i j k p q r =
    ap (λ (x : ℕ). sum binary32 (unlike s t) x u (o * 2 ^ (k + 149)) (2 ^ 298)) (ap (λ (x : ℕ). m * n * x) (pow-add 2 i j) ∙ mul-mul-mul_comm m n (2 ^ i) (2 ^ j))
    ∙ ap (λ (x : ℕ). sum binary32 (unlike s t) (m * 2 ^ i * (n * 2 ^ j)) u x (2 ^ 298)) (ap (λ (x : ℕ). o * x) (pow-add 2 k 149) ∙ sym (mul_assoc o (2 ^ k) (2 ^ 149)))
    ∙ all_finite a b c s t u (m * 2 ^ i) (n * 2 ^ j) (o * 2 ^ k) p q r
