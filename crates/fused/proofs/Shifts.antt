-- What `top` and `jam` compute, where the check does not find it.
-- A shift to the left loses nothing while the number stays below 2 ^ 64.
use mathlib.Core.Path.{ap, refl, sym, ◌∙◌, ◌≡◌}
use mathlib.Core.Logic.{inr}
use Prim.Native.Nat.{◌%◌, ◌*◌, ◌+◌, ◌-◌, ◌<◌, ◌^◌, suc, ℕ, ◌≤◌}
use native.Mathlib.Nat.{le_of_eq, le_of_lt, le_trans, lt_of_le_of_lt, lt_of_lt_of_le, lt_of_not-le, mod-eq_of_lt, mul-le-mul_right, not-le_of_lt, zero-mul}
use native.Mathlib.Omega.{arith}
use lib.Count.{leading_top, count_leading_zeros}
use lib.Pow.{pow-add, pow_mono, shl_lt}
use Rattle.fused.specs.Steps.{Jammed}

pow_lt_back : (i p : ℕ) → 2 ^ i < 2 ^ p → i < p
pow_lt_back i p h = lt_of_not-le (λ (g : p ≤ i). not-le_of_lt h (pow_mono g))

-- ---- top
pub record Lead (n l : ℕ) : Type 0 where
  pub two : 2 ≤ l
  pub most : l ≤ 63
  pub ge : 0x2000_0000_0000_0000 ≤ n * 2 ^ (l - 2)
  pub lt : n * 2 ^ (l - 2) < 0x4000_0000_0000_0000
  pub same : n * 2 ^ (l - 2) % 0x1_0000_0000_0000_0000 ≡ n * 2 ^ (l - 2)

pub lead : (n : ℕ) → 0 < n → n < 0x4000_0000_0000_0000 → Lead n (count_leading_zeros 64 n)
lead n p h =
    let t = leading_top 64 n p (lt_of_lt_of_le h (le_of_lt big)) in
    let j = t.0 in
    let l = count_leading_zeros 64 n in
    let s : l + suc j ≡ 64 = t.1 in
    let J : j < 62 = pow_lt_back j 62 (lt_of_le_of_lt t.2 h) in
    let two : 2 ≤ l = omega arith in
    let lo : 0x2000_0000_0000_0000 ≤ n * 2 ^ (l - 2) = le_trans (le_of_eq (ap (λ (x : ℕ). 2 ^ x) (down l j s two) ∙ pow-add 2 j (l - 2))) (mul-le-mul_right (2 ^ (l - 2)) t.2) in
    let hi : n * 2 ^ (l - 2) < 0x4000_0000_0000_0000 = lt_of_lt_of_le (shl_lt (suc j) (l - 2) t.3) (le_of_eq (ap (λ (x : ℕ). 2 ^ x) (sym (up l j s two)))) in
    record { two = two; most = omega arith; ge = lo; lt = hi; same = mod-eq_of_lt (lt_of_lt_of_le hi (le_of_lt big)) }
  where
    big : 0x4000_0000_0000_0000 < 0x1_0000_0000_0000_0000
    big = omega arith

    down : (l j : ℕ) → l + suc j ≡ 64 → 2 ≤ l → 61 ≡ j + (l - 2)
    down l j s t = omega arith

    up : (l j : ℕ) → l + suc j ≡ 64 → 2 ≤ l → 62 ≡ suc j + (l - 2)
    up l j s t = omega arith

-- ---- jam, where more is shifted out than there was
pub jam-all : (n d : ℕ) → n < 0x2000_0000_0000_0000 → (n ≡ 0 → ⊥) → 61 < d → Jammed 1 n d
jam-all n d h z k =
    let p : 0x2000_0000_0000_0000 ≤ 2 ^ d = pow_mono (le_of_lt k) in
    record { small = omega (arith, z); is = inr (refl, lt_of_le_of_lt (le_of_eq (zero-mul (2 ^ d))) (some z), omega (arith, p)) }
  where
    some : (n ≡ 0 → ⊥) → 0 < n
    some z = omega (arith, z)
