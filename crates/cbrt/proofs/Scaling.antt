-- A size as g * 8 ^ a: what `scaled` starts from, and that a step keeps it.
-- 2 ^ (3 * k + b) is 8 ^ k times 2 ^ b; below 512, 171 / 512 of a number is its third.
use mathlib.Core.Path.{ap, refl, sym, ◌∙◌, ◌≡◌}
use Prim.Native.Nat.{◌%◌, ◌*◌, ◌+◌, ◌-◌, ◌/◌, ◌<◌, ◌^◌, suc, zero, ℕ, ◌≤◌}
use native.Mathlib.Nat.{lt_of_lt_of_le, mod-eq_of_lt, mul_assoc, mul_comm, mul_left_comm, mul-one}
use native.Mathlib.Omega.{arith}
use lib.Pow.{pow-add, pow_mono, shl_exact, shl_lt}
use Rattle.cbrt.proofs.Cubes.{cube-mul}
use Rattle.cbrt.specs.Root.{cube}

pub a_pos : (t g a : ℕ) → 0 < t → g < 0x100_0000 → t * 0x200_0000 ≡ g * cube (2 ^ a) → 0 < a
a_pos t g zero h k e = absurd (no (e ∙ mul-one g))
  where
    no : t * 0x200_0000 ≡ g → ⊥
    no e = omega arith
a_pos t g (suc a) h k e = omega arith

eight : (a : ℕ) → 0 < a → cube (2 ^ a) ≡ 8 * cube (2 ^ (a - 1))
eight a h = ap (λ (x : ℕ). cube (2 ^ x)) (pred a h) ∙ ap cube (pow-add 2 1 (a - 1)) ∙ cube-mul 2 (2 ^ (a - 1))
  where
    pred : (a : ℕ) → 0 < a → a ≡ 1 + (a - 1)
    pred a h = omega arith

pub lift_step : (t g a : ℕ) → 0 < a → t * 0x200_0000 ≡ g * cube (2 ^ a) → t * 0x200_0000 ≡ g * 8 * cube (2 ^ (a - 1))
lift_step t g a h e = e ∙ ap (λ (x : ℕ). g * x) (eight a h) ∙ sym (mul_assoc g 8 (cube (2 ^ (a - 1))))

power : (k b : ℕ) → 2 ^ (k + k + k + b) ≡ cube (2 ^ k) * 2 ^ b
power k b = pow-add 2 (k + k + k) b ∙ ap (λ (x : ℕ). x * 2 ^ b) (pow-add 2 (k + k) k ∙ ap (λ (x : ℕ). x * 2 ^ k) (pow-add 2 k k))

regroup : (m B C : ℕ) → m * (C * B) * 0x200_0000 ≡ m * 2 * B * (C * 0x100_0000)
regroup m B C = simp (mul_assoc, mul_comm, mul_left_comm) (omega arith)

split_same : (m y b : ℕ) → y % 3 ≡ b → m * 2 ^ y * 0x200_0000 ≡ m * 2 * 2 ^ b * cube (2 ^ (y / 3 + 8))
split_same m y b h =
    let k = y / 3 in
    let e : y ≡ k + k + k + b = omega arith in
    ap (λ (x : ℕ). m * x * 0x200_0000) (ap (λ (x : ℕ). 2 ^ x) e ∙ power k b)
    ∙ regroup m (2 ^ b) (cube (2 ^ k))
    ∙ ap (λ (x : ℕ). m * 2 * 2 ^ b * x) (sym (ap cube (pow-add 2 k 8) ∙ cube-mul (2 ^ k) 256))

-- ---- as the code has it: a third by a narrow product, and shifts that lose no digit
abbrev pub third : ℕ → ℕ
third p = p * 171 / 512

abbrev pub left : ℕ → ℕ
left p = p - third p * 2 % 0x1_0000_0000_0000_0000 - third p

third-is : (p : ℕ) → p < 512 → third p ≡ p / 3
third-is p h = omega arith

doubled : (p : ℕ) → p < 512 → third p * 2 % 0x1_0000_0000_0000_0000 ≡ third p * 2
doubled p h = mod-eq_of_lt (omega arith)

left_is : (p : ℕ) → p < 512 → left p ≡ p % 3
left_is p h = rw (doubled p h) (rw (third-is p h) (omega arith))

-- what a third t, or less by some, leaves of a place is no long shift
pub left_lt : (p t : ℕ) → p ≤ 253 → t ≤ 253 → p < 3 * t + 64 → p - t * 2 % 0x1_0000_0000_0000_0000 - t < 64
left_lt p t h k l =
    let e : t * 2 % 0x1_0000_0000_0000_0000 ≡ t * 2 = mod-eq_of_lt (omega arith) in
    rw e (omega arith)

abbrev pub shifted : ℕ → ℕ → ℕ
shifted d p = d * 2 % 0x1_0000_0000_0000_0000 * 2 ^ left p % 0x1_0000_0000_0000_0000

twice : (d : ℕ) → d < 0x100_0000 → d * 2 < 0x200_0000
twice d h = omega arith

shifted-is : (d p : ℕ) → d < 0x100_0000 → p < 512 → shifted d p ≡ d * 2 * 2 ^ (p % 3)
shifted-is d p h k =
    let e : d * 2 % 0x1_0000_0000_0000_0000 ≡ d * 2 = omega arith in
    rw e (rw (left_is p k) (shl_exact 25 (p % 3) 64 (twice d h) (omega arith)))

pub shift-lt : (d p : ℕ) → d < 0x100_0000 → p < 512 → shifted d p < 0x800_0000
shift-lt d p h k = rw (shifted-is d p h k) (lt_of_lt_of_le (shl_lt 25 (p % 3) (twice d h)) (pow_mono (most p)))
  where
    most : (p : ℕ) → 25 + p % 3 ≤ 27
    most p = omega arith

pub shift_same : (d p : ℕ) → d < 0x100_0000 → p < 512 → d * 2 ^ p * 0x200_0000 ≡ shifted d p * cube (2 ^ (third p + 8))
shift_same d p h k = rw (shifted-is d p h k) (rw (third-is p k) (split_same d p (p % 3) refl))

pub eight_times : (g : ℕ) → g < 0x100_0000 → g * 8 % 0x1_0000_0000_0000_0000 ≡ g * 8
eight_times g h = omega arith
