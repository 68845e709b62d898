-- Two sizes of f32, the smaller first, are at least the smaller's gap above and the larger's gap below apart.
-- Each size is a multiple of its own gap, and of every smaller power of two.
use mathlib.Core.Path.{ap, sym, ◌∙◌, ◌≡◌}
use mathlib.Core.Logic.{inl, inr, ◌⊎◌}
use Prim.Native.Nat.{◌*◌, ◌+◌, ◌-◌, ◌<◌, ◌^◌, ℕ, ◌≤◌}
use native.Mathlib.Nat.{le_of_eq, le_of_lt, le_trans, lt_of_le_of_lt, lt_of_lt_of_le, lt_of_mul-lt-mul_right, mul-le-mul_right, suc-mul}
use native.Mathlib.Omega.{arith}
use lib.Pow.{pow-add, pow_mono, pow_pos, shl_lt}
use lib.Ieee.{size}
use lib.Ieee.Digits.{size_reaches}
use Rattle.binary32.proofs.Count.{Held, multiple}
use Rattle.binary32.proofs.Size.{size_mono, split_le}
use Rattle.binary32.specs.Parts.{digits_of, place_of}
use Rattle.cbrt.specs.Root.{above, below}

-- two multiples of p, the first below the second
step : (a b p n m : ℕ) → n ≡ a * p → m ≡ b * p → n < m → n + p ≤ m
step a b p n m e f h =
    let l : a < b = lt_of_mul-lt-mul_right p (lt_of_le_of_lt (le_of_eq (sym e)) (lt_of_lt_of_le h (le_of_eq f))) in
    le_trans (le_of_eq (ap (λ (x : ℕ). x + p) e ∙ sym (suc-mul a p))) (le_trans (mul-le-mul_right p l) (le_of_eq (sym f)))

minus_24 : (a b : ℕ) → a ≤ b → a - 24 ≤ b - 24
minus_24 a b h = omega arith

pub gap_above : (n m : ℕ) → Held n → Held m → n < m → n + above n ≤ m
gap_above n m r t h =
    let k = multiple (digits_of m) (place_of m) (place_of n) (minus_24 (size n) (size m) (size_mono n m (le_of_lt h))) in
    step (digits_of n) (digits_of m * 2 ^ (place_of m - place_of n)) (above n) n m r.whole (t.whole ∙ k) h

pub gap_below : (n m : ℕ) → Held n → Held m → n < m → n + below m ≤ m
gap_below n m r t h = go (split_le (place_of (m - 1)) (place_of n))
  where
    less : (m : ℕ) → m - 1 ≤ m
    less m = omega arith

    multiple-m : m ≡ digits_of m * 2 ^ (place_of m - place_of (m - 1)) * below m
    multiple-m = t.whole ∙ multiple (digits_of m) (place_of m) (place_of (m - 1)) (minus_24 (size (m - 1)) (size m) (size_mono (m - 1) m (less m)))

    room : (z j : ℕ) → j < z - 24 → 24 + j ≤ z - 1
    room z j h = omega arith

    pre : (z j : ℕ) → j < z - 24 → z - 1 < z
    pre z j h = omega arith

    split : (z j : ℕ) → j < z - 24 → z - 1 ≡ 23 + (z - 24)
    split z j h = omega arith

    past : (P m : ℕ) → P ≤ m - 1 → 0 < P → P < m
    past P m b c = omega arith

    close : (n P p m : ℕ) → n < P → P + p ≤ m → n + p ≤ m
    close n P p m a b = omega arith

    go : (place_of (m - 1) ≤ place_of n) ⊎ (place_of n < place_of (m - 1)) → n + below m ≤ m
    go (inl g) = step (digits_of n * 2 ^ (place_of n - place_of (m - 1))) (digits_of m * 2 ^ (place_of m - place_of (m - 1))) (below m) n m (r.whole ∙ multiple (digits_of n) (place_of n) (place_of (m - 1)) g) multiple-m h
    go (inr g) =
        let z = size (m - 1) in
        let P = 2 ^ (z - 1) in
        let lo : n < P = lt_of_lt_of_le (lt_of_le_of_lt (le_of_eq r.whole) (shl_lt 24 (place_of n) r.few)) (pow_mono (room z (place_of n) g)) in
        let hi : P < m = past P m (size_reaches (m - 1) (z - 1) (pre z (place_of n) g)) (pow_pos (z - 1)) in
        close n P (below m) m lo (step 0x80_0000 (digits_of m * 2 ^ (place_of m - place_of (m - 1))) (below m) P m (ap (λ (x : ℕ). 2 ^ x) (split z (place_of n) g) ∙ pow-add 2 23 (place_of (m - 1))) multiple-m hi)
