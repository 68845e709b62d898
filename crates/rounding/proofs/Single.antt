-- A number of N * 2 ^ k units of 2 ^ -1074, N of 53 digits: its binary64 pattern, and its rounding at binary32, whose value is closest N (2 ^ 29) * 2 ^ 29 * 2 ^ k of the same units.
-- Assumes nothing.
use Rattle.std.proofs.Common.{◌≡◌, ℕ, suc, ◌+◌, ◌-◌, ◌*◌, ◌/◌, ◌^◌, ◌<◌, ◌≤◌, Bool, cond, ◌⊎◌, sym, refl, ap, ◌∙◌, subst, inl, inr, le_trans, le_of_eq, le_refl, lt_of_le_of_lt, mul-le-mul_right, mul_assoc, suc-add, eq-or-lt_of_le, mul-pos, mul_right_comm, mul-div_cancel, arith, pow_pos, pow-add, shl_lt}
use native.Mathlib.Nat.{eq_of_mul-eq-mul_right}
use lib.Pow.{pow-lt}
use lib.Ieee.{Float, nan, inf, fin, binary32, binary64, size, units, round, to_bits, up, down}
use lib.Ieee.Fits.{down_pos}
use lib.Ieee.Exact.{HasValue, units_val}
use lib.Ieee.Nearest.{closest, closest_same}
use Rattle.rounding.proofs.Rounding.{round_at}
use Rattle.binary32.proofs.Size.{size_exact}
use Rattle.rounding.proofs.Closest.{closest_le, closest_ge}

-- ---- a binary64 pattern, by the value
bits_of : (v : Float) (s : Bool) (n : ℕ) → HasValue v s n (2 ^ 1074)
    → to_bits binary64 v ≡ cond s 0x8000_0000_0000_0000 0 + (size n - 53) * 0x10_0000_0000_0000 + n / 2 ^ (size n - 53)
unfolding to_bits
bits_of nan s n h = absurd h
bits_of (inf t) s n h = absurd h
bits_of (fin t m e) s n h =
    ap (λ (x : ℕ). cond t 0x8000_0000_0000_0000 0 + (size x - 53) * 0x10_0000_0000_0000 + x / 2 ^ (size x - 53)) (ap (λ (x : ℕ). x / down e) h.1 ∙ mul-div_cancel n (down_pos e))
    ∙ ap (λ (x : Bool). cond x 0x8000_0000_0000_0000 0 + (size n - 53) * 0x10_0000_0000_0000 + n / 2 ^ (size n - 53)) h.0

field : (c k z n N j : ℕ) → z ≡ suc (52 + j) → n ≡ N * 2 ^ j → c + (z - 53) * 0x10_0000_0000_0000 + n / 2 ^ (z - 53) ≡ c + (j * 0x10_0000_0000_0000 + N)
field c k z n N j e p =
    ap (λ (x : ℕ). c + x * 0x10_0000_0000_0000 + n / 2 ^ x) (less j z e)
    ∙ ap (λ (x : ℕ). c + j * 0x10_0000_0000_0000 + x) (ap (λ (x : ℕ). x / 2 ^ j) p ∙ mul-div_cancel N (pow_pos j))
    ∙ sums c j N
  where
    less : (j z : ℕ) → z ≡ suc (52 + j) → z - 53 ≡ j
    less j z e = omega arith

    sums : (c j N : ℕ) → c + j * 0x10_0000_0000_0000 + N ≡ c + (j * 0x10_0000_0000_0000 + N)
    sums c j N = omega arith

-- N has 53 digits, or is 2 ^ 53, and then the carry goes into the exponent's field
pub bits_at : (v : Float) (s : Bool) (N k : ℕ) → 0x10_0000_0000_0000 ≤ N → N ≤ 0x20_0000_0000_0000 → HasValue v s (N * 2 ^ k) (2 ^ 1074)
    → to_bits binary64 v ≡ cond s 0x8000_0000_0000_0000 0 + (k * 0x10_0000_0000_0000 + N)
bits_at v s N k lo hi h = bits_of v s (N * 2 ^ k) h ∙ go (eq-or-lt_of_le hi)
  where
    go : (N ≡ 0x20_0000_0000_0000) ⊎ (N < 0x20_0000_0000_0000)
        → cond s 0x8000_0000_0000_0000 0 + (size (N * 2 ^ k) - 53) * 0x10_0000_0000_0000 + N * 2 ^ k / 2 ^ (size (N * 2 ^ k) - 53) ≡ cond s 0x8000_0000_0000_0000 0 + (k * 0x10_0000_0000_0000 + N)
    go (inr l) =
        field (cond s 0x8000_0000_0000_0000 0) k (size (N * 2 ^ k)) (N * 2 ^ k) N k
        (size_exact (52 + k) (N * 2 ^ k) (le_trans (le_of_eq (pow-add 2 52 k)) (mul-le-mul_right (2 ^ k) lo)) (subst (λ (x : ℕ). N * 2 ^ k < 2 ^ x) (suc-add 52 k) (shl_lt 53 k l)))
        refl
    go (inl e) =
        let p : N * 2 ^ k ≡ 0x10_0000_0000_0000 * 2 ^ (1 + k) = ap (λ (x : ℕ). x * 2 ^ k) e ∙ mul_assoc 0x10_0000_0000_0000 2 (2 ^ k) ∙ ap (λ (x : ℕ). 0x10_0000_0000_0000 * x) (sym (pow-add 2 1 k)) in
        let q : N * 2 ^ k ≡ 2 ^ (53 + k) = ap (λ (x : ℕ). x * 2 ^ k) e ∙ sym (pow-add 2 53 k) in
        field (cond s 0x8000_0000_0000_0000 0) k (size (N * 2 ^ k)) (N * 2 ^ k) 0x10_0000_0000_0000 (1 + k)
        (size_exact (53 + k) (N * 2 ^ k) (le_of_eq (sym q)) (lt_of_le_of_lt (le_of_eq q) (pow-lt (le_refl (suc (53 + k))))) ∙ ap suc (shift k))
        p
        ∙ carry (cond s 0x8000_0000_0000_0000 0) k N e
      where
        shift : (k : ℕ) → 53 + k ≡ 52 + (1 + k)
        shift k = omega arith

        carry : (c k N : ℕ) → N ≡ 0x20_0000_0000_0000 → c + ((1 + k) * 0x10_0000_0000_0000 + 0x10_0000_0000_0000) ≡ c + (k * 0x10_0000_0000_0000 + N)
        carry c k N e = omega arith

-- from one fraction to another of the same size
pub rescale : (x : Float) (s : Bool) (w l num den : ℕ) → 0 < l → num * l ≡ w * den → HasValue x s w l → HasValue x s num den
rescale nan s w l num den p h v = v
rescale (inf t) s w l num den p h v = v
rescale (fin t m e) s w l num den p h v = (
  v.0,
  eq_of_mul-eq-mul_right l p (m * up e * den) (num * down e)
      (mul_right_comm (m * up e) den l
      ∙ ap (λ (x : ℕ). x * den) v.1
      ∙ mul_right_comm w (down e) den
      ∙ ap (λ (x : ℕ). x * down e) (sym h)
      ∙ mul_right_comm num l (down e)),
)

-- n * 2 ^ k over 2 ^ 149 and over 2 ^ 298
over : (n k : ℕ) → n * 2 ^ (k + 149) * 2 ^ 149 ≡ n * 2 ^ k * 2 ^ 298
over n k = ap (λ (x : ℕ). x * 2 ^ 149) (ap (λ (x : ℕ). n * x) (pow-add 2 k 149) ∙ sym (mul_assoc n (2 ^ k) (2 ^ 149))) ∙ mul_assoc (n * 2 ^ k) (2 ^ 149) (2 ^ 149)

pub widened : (x : Float) (s : Bool) (n k : ℕ) → HasValue x s (n * 2 ^ k) (2 ^ 149) → HasValue x s (n * 2 ^ (k + 149)) (2 ^ 298)
widened x s n k = rescale x s (n * 2 ^ k) (2 ^ 149) (n * 2 ^ (k + 149)) (2 ^ 298) (pow_pos 149) (over n k)

pub narrowed : (x : Float) (s : Bool) (n k : ℕ) → HasValue x s (n * 2 ^ (k + 149)) (2 ^ 298) → HasValue x s (n * 2 ^ k) (2 ^ 149)
narrowed x s n k = rescale x s (n * 2 ^ (k + 149)) (2 ^ 298) (n * 2 ^ k) (2 ^ 149) (pow_pos 298) (sym (over n k))

-- a product of powers of two, by the sum of their exponents
two_pows : (a i j b : ℕ) → a + i ≡ j + b → 2 ^ a * 2 ^ i ≡ 2 ^ j * 2 ^ b
two_pows a i j b e = sym (pow-add 2 a i) ∙ ap (λ (x : ℕ). 2 ^ x) e ∙ pow-add 2 j b

module _ (t : Bool) (N k : ℕ) (lo : 0x10_0000_0000_0000 ≤ N) (hi : N < 0x20_0000_0000_0000) (klo : 896 ≤ k) (khi : k ≤ 1148) where
  pub q_ge : 0x80_0000 ≤ closest N 0x2000_0000
  q_ge = closest_ge N 29 0x80_0000 (omega arith)

  pub q_le : closest N 0x2000_0000 ≤ 0x100_0000
  q_le = closest_le N 29 24 hi

  pub round-is-units : round binary32 t (N * 2 ^ k) (2 ^ 1074) ≡ units binary32 t (closest N 0x2000_0000) (k - 896)
  round-is-units =
      round_at t (N * 2 ^ k) 1074 (52 + k) (le_trans (le_of_eq (pow-add 2 52 k)) (mul-le-mul_right (2 ^ k) lo)) (subst (λ (x : ℕ). N * 2 ^ k < 2 ^ x) (suc-add 52 k) (shl_lt 53 k hi))
      ∙ ap (λ (x : ℕ). units binary32 t (closest (N * 2 ^ k * 2 ^ 149) (2 ^ 1074 * 2 ^ x)) x) (place k)
      ∙ ap (λ (x : ℕ). units binary32 t x (k - 896))
      (closest_same (N * 2 ^ k * 2 ^ 149) (2 ^ 1074 * 2 ^ (k - 896)) N 0x2000_0000 (mul-pos (pow_pos 1074) (pow_pos (k - 896))) (pow_pos 29)
      (ap (λ (x : ℕ). x * 2 ^ 29) (mul_assoc N (2 ^ k) (2 ^ 149)) ∙ mul_assoc N (2 ^ k * 2 ^ 149) (2 ^ 29)
      ∙ ap (λ (x : ℕ). N * x) (mul_assoc (2 ^ k) (2 ^ 149) (2 ^ 29) ∙ ap (λ (x : ℕ). 2 ^ k * x) (sym (pow-add 2 149 29)) ∙ two_pows k 178 1074 (k - 896) (room k klo))))
    where
      place : (k : ℕ) → suc (52 + k + 149) - 1074 - 24 ≡ k - 896
      place k = omega arith

      room : (k : ℕ) → 896 ≤ k → k + 178 ≡ 1074 + (k - 896)
      room k h = omega arith

  pub units-has : HasValue (units binary32 t (closest N 0x2000_0000) (k - 896)) t (closest N 0x2000_0000 * 0x2000_0000 * 2 ^ k) (2 ^ 1074)
  units-has =
      let q = closest N 0x2000_0000 in
      rescale (units binary32 t q (k - 896)) t (q * 2 ^ (k - 896)) (2 ^ 149) (q * 0x2000_0000 * 2 ^ k) (2 ^ 1074) (pow_pos 149)
      (ap (λ (x : ℕ). x * 2 ^ 149) (mul_assoc q (2 ^ 29) (2 ^ k)) ∙ mul_assoc q (2 ^ 29 * 2 ^ k) (2 ^ 149)
      ∙ ap (λ (x : ℕ). q * x) (ap (λ (x : ℕ). x * 2 ^ 149) (sym (pow-add 2 29 k)) ∙ two_pows (29 + k) 149 (k - 896) 1074 (room k klo))
      ∙ sym (mul_assoc q (2 ^ (k - 896)) (2 ^ 1074)))
      (units_val binary32 t q (k - 896) (lt_of_le_of_lt (mul-le-mul_right (2 ^ (k - 896)) q_le) (subst (λ (x : ℕ). x < 2 ^ 277) (pow-add 2 24 (k - 896)) (pow-lt (under k khi)))))
    where
      room : (k : ℕ) → 896 ≤ k → 29 + k + 149 ≡ k - 896 + 1074
      room k h = omega arith

      under : (k : ℕ) → k ≤ 1148 → 24 + (k - 896) < 277
      under k h = omega arith
