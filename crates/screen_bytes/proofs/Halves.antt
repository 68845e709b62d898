-- Where 255 times a number m * 2 ^ e, with m odd, lies half way between two whole numbers, and the number is at most 1, it is 1/2.
-- 255 * m is odd, so that 2 ^ e is 1/2; of the odd halves 1/2 alone is at most 1.
use Prim.Native.Nat.{ℕ, zero, suc, ◌+◌, ◌*◌, ◌^◌, ◌/◌, ◌%◌, ◌≤◌, ◌<◌}
use mathlib.Core.Path.{◌≡◌, ap, ◌∙◌}
use mathlib.Core.Logic.{◌⊎◌, inl, inr}
use mathlib.Core.Bool.{false}
use native.Mathlib.Nat.{pow-succ'}
use native.Mathlib.Omega.{arith}
use lib.IntN.{ℤ, pos, negsuc}
use lib.Ieee.{fin, up, down}
use Rattle.binary32.proofs.Size.{split_le}
use Rattle.screen_bytes.specs.Screen.{Tie}

pub no_zero : (d b : ℕ) → 0 < d → Tie 0 d b → ⊥
no_zero d zero p h = omega arith
no_zero d (suc b) p h = omega arith

odd_product : (m p q : ℕ) → m % 2 ≡ 1 → m * 255 + 2 * p ≡ 2 * q → ⊥
odd_product m p q o h = not-even (m / 2) (ap (λ (x : ℕ). x * 255 + 2 * p) (halves m o) ∙ h)
  where
    halves : (m : ℕ) → m % 2 ≡ 1 → 2 * (m / 2) + 1 ≡ m
    halves m o = omega arith

    not-even : (a : ℕ) → (2 * a + 1) * 255 + 2 * p ≡ 2 * q → ⊥
    not-even a h = omega arith

quarters : (m d p b : ℕ) → m % 2 ≡ 1 → d ≡ 2 * (2 * p) → Tie (m * 1 * 255) d b → ⊥
quarters m d p b o e h = by (split_le (b * d) (m * 255))
  where
    by : (b * d ≤ m * 255) ⊎ (m * 255 < b * d) → ⊥
    by (inl l) = odd_product m 0 (2 * (b * p) + p) o (omega (arith, ap (λ (x : ℕ). b * x) e))
    by (inr l) = odd_product m p (2 * (b * p)) o (omega (arith, ap (λ (x : ℕ). b * x) e))

pub odd_tie : (m : ℕ) (e : ℤ) (b : ℕ) → m % 2 ≡ 1 → m * up e ≤ down e → Tie (m * up e * 255) (down e) b → fin false m e ≡ fin false 1 (negsuc 0)
odd_tie m (pos k) b o c h = absurd (omega arith)
odd_tie m (negsuc zero) b o c h = ap (λ (x : ℕ). fin false x (negsuc 0)) (omega arith)
odd_tie m (negsuc (suc k)) b o c h = absurd (quarters m (2 ^ suc (suc k)) (2 ^ k) b o (pow-succ' 2 (suc k) ∙ ap (λ (x : ℕ). 2 * x) (pow-succ' 2 k)) h)
