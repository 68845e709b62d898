-- Two roundings are one, where the first does not end half way between two values of f32.
-- `careful`: a fraction D / 2 ^ 298 rounded at binary64 and then to 24 digits is the fraction rounded at binary32, if the first outcome's pattern does not end in a one and 28 zeros
-- and its exponent is one of binary32's, or if it is a zero. Assumes nothing.
use Rattle.std.proofs.Common.{◌≡◌, ℕ, zero, suc, ◌+◌, ◌-◌, ◌*◌, ◌/◌, ◌%◌, ◌^◌, ◌<◌, ◌≤◌, Bool, true, false, cond, ◌⊎◌, sym, ap, ◌∙◌, subst, inl, inr, le_trans, le_of_eq, lt_of_le_of_lt, le_of_lt, mul-le-mul_right, mod-lt, zero-lt-suc, mul_assoc, suc-mul, mul_comm, suc-add, eq-or-lt_of_le, mul-pos, le-div_iff_mul-le, mul-div_cancel, arith, lit<, lit≤, pow_pos, pow-add, shl_lt}
use Prim.Native.Nat.{compare, Ordering}
use native.Mathlib.Nat.{div-div-eq-div-mul}
use lib.Arith.{mod-mul}
use lib.Pow.{add-lt-pow, pow-lt}
use lib.Ieee.{Float, binary32, binary64, size, nearest, units, round, sum, to_bits}
use lib.Ieee.Digits.{size-lt, size-le, size_reaches}
use lib.Ieee.Fits.{round_is}
use lib.Ieee.Exact.{HasValue, units_val}
use lib.Ieee.Nearest.{closest, closest_same}
use Rattle.binary32.proofs.Size.{size_exact, size_gt, split_le}
use Rattle.binary32.proofs.Pattern.{together}
use Rattle.binary32.specs.Pattern.{with_sign}
use Rattle.rounding.proofs.Rounding.{round_at}
use Rattle.rounding.specs.Steps.{Clear, Narrows, NotHalfWay}
use Rattle.rounding.proofs.Closest.{closest_ge, closest_le, cmp_eq, cmp_gt, cmp_lt, near-gt, near-lt}
use Rattle.rounding.proofs.Sums.{one_rounding}
use Rattle.rounding.proofs.Single.{bits_at, round-is-units}
use Rattle.rounding.proofs.Cut.{cut-is, cut-zero}

-- ---- whole numbers: n / B rounded, and that / 2 ^ 29 rounded again
module _ (n B : ℕ) (bp : 0 < B) where
  quot : n / (0x2000_0000 * B) ≡ n / B / 0x2000_0000
  quot = ap (λ (x : ℕ). n / x) (mul_comm 0x2000_0000 B) ∙ sym (div-div-eq-div-mul n B 0x2000_0000)

  rest : n % (0x2000_0000 * B) ≡ n / B % 0x2000_0000 * B + n % B
  rest = mod-mul n (lit< tt) bp

  once : (o : Ordering) → compare ((n / B % 0x2000_0000 * B + n % B) * 2) (0x2000_0000 * B) ≡ o → closest n (0x2000_0000 * B) ≡ nearest (n / B / 0x2000_0000) o
  once o e =
      ap (λ (x : ℕ). nearest x (compare (n % (0x2000_0000 * B) * 2) (0x2000_0000 * B))) quot
      ∙ ap (λ (x : ℕ). nearest (n / B / 0x2000_0000) (compare (x * 2) (0x2000_0000 * B))) rest
      ∙ ap (nearest (n / B / 0x2000_0000)) e

  -- below the half, and above
  low_half : n / B % 0x2000_0000 < 0x1000_0000 → closest n (0x2000_0000 * B) ≡ n / B / 0x2000_0000
  low_half h =
      once Ordering.lt (cmp_lt ((n / B % 0x2000_0000 * B + n % B) * 2) (0x2000_0000 * B)
      (sums (n / B % 0x2000_0000 * B) (n % B) B (0x1000_0000 * B) (0x2000_0000 * B) (mod-lt n bp) (le_trans (le_of_eq (sym (suc-mul (n / B % 0x2000_0000) B))) (mul-le-mul_right B h)) (mul_assoc 2 0x1000_0000 B)))
    where
      sums : (u v B w z : ℕ) → v < B → u + B ≤ w → z ≡ 2 * w → (u + v) * 2 < z
      sums u v B w z p q e = omega arith

  high_half : 0x1000_0000 ≤ n / B % 0x2000_0000 → (0 < n % B) ⊎ (0x1000_0000 < n / B % 0x2000_0000) → closest n (0x2000_0000 * B) ≡ suc (n / B / 0x2000_0000)
  high_half h d = once Ordering.gt (cmp_gt ((n / B % 0x2000_0000 * B + n % B) * 2) (0x2000_0000 * B) (go d))
    where
      sums : (u v w z : ℕ) → 0 < v → w ≤ u → z ≡ 2 * w → z < (u + v) * 2
      sums u v w z p q e = omega arith

      sums' : (u v B w z : ℕ) → 0 < B → w + B ≤ u → z ≡ 2 * w → z < (u + v) * 2
      sums' u v B w z p q e = omega arith

      go : (0 < n % B) ⊎ (0x1000_0000 < n / B % 0x2000_0000) → 0x2000_0000 * B < (n / B % 0x2000_0000 * B + n % B) * 2
      go (inl p) = sums (n / B % 0x2000_0000 * B) (n % B) (0x1000_0000 * B) (0x2000_0000 * B) p (mul-le-mul_right B h) (mul_assoc 2 0x1000_0000 B)
      go (inr p) = sums' (n / B % 0x2000_0000 * B) (n % B) B (0x1000_0000 * B) (0x2000_0000 * B) bp (le_trans (le_of_eq (sym (suc-mul 0x1000_0000 B))) (mul-le-mul_right B p)) (mul_assoc 2 0x1000_0000 B)

  stay : (N : ℕ) → N ≡ n / B → (N % 0x2000_0000 ≡ 0x1000_0000 → ⊥) → closest N 0x2000_0000 ≡ closest n (0x2000_0000 * B)
  stay N e ne = go (split_le 0x1000_0000 (N % 0x2000_0000))
    where
      q : N / 0x2000_0000 ≡ n / B / 0x2000_0000
      q = ap (λ (x : ℕ). x / 0x2000_0000) e

      m : N % 0x2000_0000 ≡ n / B % 0x2000_0000
      m = ap (λ (x : ℕ). x % 0x2000_0000) e

      go : (0x1000_0000 ≤ N % 0x2000_0000) ⊎ (N % 0x2000_0000 < 0x1000_0000) → closest N 0x2000_0000 ≡ closest n (0x2000_0000 * B)
      go (inr l) = near-lt N 29 (lit< tt) l ∙ q ∙ sym (low_half (subst (λ (x : ℕ). x < 0x1000_0000) m l))
      go (inl h) = elim (eq-or-lt_of_le h) [
        | inl p ↦ absurd (ne (sym p))
        | inr l ↦ near-gt N 29 (lit< tt) l ∙ ap suc q ∙ sym (high_half (subst (λ (x : ℕ). 0x1000_0000 ≤ x) m h) (inr (subst (λ (x : ℕ). 0x1000_0000 < x) m l)))
      ]

  rise : (N : ℕ) → N ≡ suc (n / B) → 0 < n % B → (N % 0x2000_0000 ≡ 0x1000_0000 → ⊥) → closest N 0x2000_0000 ≡ closest n (0x2000_0000 * B)
  rise N e rp ne = go (split_le 0x1000_0000 (n / B % 0x2000_0000))
    where
      under : (a : ℕ) → a % 0x2000_0000 < 0x1000_0000 → (suc a % 0x2000_0000 ≡ 0x1000_0000 → ⊥) → (suc a % 0x2000_0000 < 0x1000_0000) × (suc a / 0x2000_0000 ≡ a / 0x2000_0000)
      under a h ne = elim (eq-or-lt_of_le h) [ inl p ↦ absurd (ne (step a p)) | inr l ↦ (omega arith, omega arith) ]
        where
          step : (a : ℕ) → suc (a % 0x2000_0000) ≡ 0x1000_0000 → suc a % 0x2000_0000 ≡ 0x1000_0000
          step a p = omega arith

      over : (a : ℕ) → 0x1000_0000 ≤ a % 0x2000_0000 → ((suc a % 0x2000_0000 ≡ 0) × (suc a / 0x2000_0000 ≡ suc (a / 0x2000_0000))) ⊎ ((0x1000_0000 < suc a % 0x2000_0000) × (suc a / 0x2000_0000 ≡ a / 0x2000_0000))
      over a h = elim (split_le 0x1fff_ffff (a % 0x2000_0000)) [ inl l ↦ inl (omega arith, omega arith) | inr l ↦ inr (omega arith, omega arith) ]

      ne' : suc (n / B) % 0x2000_0000 ≡ 0x1000_0000 → ⊥
      ne' p = ne (ap (λ (x : ℕ). x % 0x2000_0000) e ∙ p)

      go : (0x1000_0000 ≤ n / B % 0x2000_0000) ⊎ (n / B % 0x2000_0000 < 0x1000_0000) → closest N 0x2000_0000 ≡ closest n (0x2000_0000 * B)
      go (inr l) = let u = under (n / B) l ne' in ap (λ (x : ℕ). closest x 0x2000_0000) e ∙ near-lt (suc (n / B)) 29 (lit< tt) u.0 ∙ u.1 ∙ sym (low_half l)
      go (inl h) = ap (λ (x : ℕ). closest x 0x2000_0000) e ∙ elim (over (n / B) h) [
        | inl u ↦ near-lt (suc (n / B)) 29 (lit< tt) (subst (λ (x : ℕ). x < 0x1000_0000) (sym u.0) (lit< tt)) ∙ u.1 ∙ sym (high_half h (inl rp))
        | inr u ↦ near-gt (suc (n / B)) 29 (lit< tt) u.0 ∙ ap suc u.1 ∙ sym (high_half h (inl rp))
      ]

  pub again : (closest n B % 0x2000_0000 ≡ 0x1000_0000 → ⊥) → closest (closest n B) 0x2000_0000 ≡ closest n (0x2000_0000 * B)
  again ne = go (split_le B (n % B * 2))
    where
      pos : (r B : ℕ) → 0 < B → B ≤ r * 2 → 0 < r
      pos r B p h = omega arith

      tie : (a : ℕ) → (a + a % 2 ≡ a) ⊎ (a + a % 2 ≡ suc a)
      tie a = elim (split_le 1 (a % 2)) [ inl l ↦ inr (omega arith) | inr l ↦ inl (omega arith) ]

      go : (B ≤ n % B * 2) ⊎ (n % B * 2 < B) → closest (closest n B) 0x2000_0000 ≡ closest n (0x2000_0000 * B)
      go (inr l) = stay (closest n B) (ap (nearest (n / B)) (cmp_lt (n % B * 2) B l)) ne
      go (inl h) = elim (eq-or-lt_of_le h) [
        | inl e ↦ elim (tie (n / B)) [
          | inl t ↦ stay (closest n B) (ap (nearest (n / B)) (cmp_eq (n % B * 2) B (sym e)) ∙ t) ne
          | inr t ↦ rise (closest n B) (ap (nearest (n / B)) (cmp_eq (n % B * 2) B (sym e)) ∙ t) (pos (n % B) B bp h) ne
        ]
        | inr l ↦ rise (closest n B) (ap (nearest (n / B)) (cmp_gt (n % B * 2) B l)) (pos (n % B) B bp h) ne
      ]

-- ---- a carry into the next exponent
carry : (t : Bool) (j : ℕ) → j < 253 → units binary32 t 0x100_0000 j ≡ units binary32 t 0x80_0000 (1 + j)
carry t j h =
    sym (together t 0x100_0000 j (lit≤ tt) (le_of_lt h) (inr (lit≤ tt)))
    ∙ ap (with_sign t) (sums j)
    ∙ together t 0x80_0000 (1 + j) (lit≤ tt) (omega arith) (inr (lit≤ tt))
  where
    sums : (j : ℕ) → j * 0x80_0000 + 0x100_0000 ≡ (1 + j) * 0x80_0000 + 0x80_0000
    sums j = omega arith

-- ---- D of c + 1 digits
clear_means : (t : Bool) (k N b : ℕ) → b ≡ cond t 0x8000_0000_0000_0000 0 + (k * 0x10_0000_0000_0000 + N) → k < 2000 → N ≤ 0x20_0000_0000_0000 → (b % 0x8000_0000_0000_0000 ≡ k * 0x10_0000_0000_0000 + N) × (b % 0x2000_0000 ≡ N % 0x2000_0000)
clear_means true k N b e h l = (omega arith, omega arith)
clear_means false k N b e h l = (omega arith, omega arith)

module _ (t : Bool) (D c : ℕ) (lo : 2 ^ c ≤ D) (hi : D < 2 ^ suc c) (cl : c ≤ 600) where
  first : round binary64 t D (2 ^ 298) ≡ units binary64 t (closest (D * 2 ^ 776) (2 ^ (c + 724))) (c + 724)
  first =
      let e : D * 2 ^ 1074 ≡ D * 2 ^ 776 * 2 ^ 298 = ap (λ (x : ℕ). D * x) (pow-add 2 776 298) ∙ sym (mul_assoc D (2 ^ 776) (2 ^ 298)) in
      let z : size (D * 2 ^ 776) ≡ suc (c + 776) = size_exact (c + 776) (D * 2 ^ 776) (le_trans (le_of_eq (pow-add 2 c 776)) (mul-le-mul_right (2 ^ 776) lo)) (subst (λ (x : ℕ). D * 2 ^ 776 < 2 ^ x) (suc-add c 776) (shl_lt (suc c) 776 hi)) in
      round_is binary64 t D (2 ^ 298)
      ∙ ap (λ (x : ℕ). units binary64 t (closest (D * 2 ^ 1074) (2 ^ 298 * 2 ^ x)) x)
      (ap (λ (x : ℕ). size x - 53) (ap (λ (x : ℕ). x / 2 ^ 298) e ∙ mul-div_cancel (D * 2 ^ 776) (pow_pos 298)) ∙ less c (size (D * 2 ^ 776)) z)
      ∙ ap (λ (x : ℕ). units binary64 t x (c + 724))
      (closest_same (D * 2 ^ 1074) (2 ^ 298 * 2 ^ (c + 724)) (D * 2 ^ 776) (2 ^ (c + 724)) (mul-pos (pow_pos 298) (pow_pos (c + 724))) (pow_pos (c + 724))
      (ap (λ (x : ℕ). x * 2 ^ (c + 724)) e ∙ mul_assoc (D * 2 ^ 776) (2 ^ 298) (2 ^ (c + 724))))
    where
      less : (c z : ℕ) → z ≡ suc (c + 776) → z - 53 ≡ c + 724
      less c z e = omega arith

  pub second : 172 ≤ c → round binary32 t D (2 ^ 298) ≡ units binary32 t (closest (D * 2 ^ 776) (0x2000_0000 * 2 ^ (c + 724))) (c - 172)
  second l =
      round_at t D 298 c lo hi
      ∙ ap (λ (x : ℕ). units binary32 t (closest (D * 2 ^ 149) (2 ^ 298 * 2 ^ x)) x) (place c)
      ∙ ap (λ (x : ℕ). units binary32 t x (c - 172))
      (closest_same (D * 2 ^ 149) (2 ^ 298 * 2 ^ (c - 172)) (D * 2 ^ 776) (0x2000_0000 * 2 ^ (c + 724)) (mul-pos (pow_pos 298) (pow_pos (c - 172))) (mul-pos (pow_pos 29) (pow_pos (c + 724)))
      (mul_assoc D (2 ^ 149) (0x2000_0000 * 2 ^ (c + 724))
      ∙ ap (λ (x : ℕ). D * x) (ap (λ (x : ℕ). 2 ^ 149 * x) (sym (pow-add 2 29 (c + 724))) ∙ sym (pow-add 2 149 (29 + (c + 724))) ∙ ap (λ (x : ℕ). 2 ^ x) (sums c l) ∙ pow-add 2 776 (298 + (c - 172)) ∙ ap (λ (x : ℕ). 2 ^ 776 * x) (pow-add 2 298 (c - 172)))
      ∙ sym (mul_assoc D (2 ^ 776) (2 ^ 298 * 2 ^ (c - 172)))))
    where
      place : (c : ℕ) → suc (c + 149) - 298 - 24 ≡ c - 172
      place c = omega arith

      sums : (c : ℕ) → 172 ≤ c → 149 + (29 + (c + 724)) ≡ 776 + (298 + (c - 172))
      sums c l = omega arith

  pub N-ge : 0x10_0000_0000_0000 ≤ closest (D * 2 ^ 776) (2 ^ (c + 724))
  N-ge = closest_ge (D * 2 ^ 776) (c + 724) 0x10_0000_0000_0000 ((le-div_iff_mul-le (pow_pos (c + 724))).1
      (le_trans (le_of_eq (sym (pow-add 2 52 (c + 724)) ∙ ap (λ (x : ℕ). 2 ^ x) (sums c) ∙ pow-add 2 c 776)) (mul-le-mul_right (2 ^ 776) lo)))
    where
      sums : (c : ℕ) → 52 + (c + 724) ≡ c + 776
      sums c = omega arith

  pub N-le : closest (D * 2 ^ 776) (2 ^ (c + 724)) ≤ 0x20_0000_0000_0000
  N-le = closest_le (D * 2 ^ 776) (c + 724) 53 (subst (λ (x : ℕ). D * 2 ^ 776 < 2 ^ x) (sums c) (shl_lt (suc c) 776 hi))
    where
      sums : (c : ℕ) → suc c + 776 ≡ 53 + (c + 724)
      sums c = omega arith

  pub has : HasValue (round binary64 t D (2 ^ 298)) t (closest (D * 2 ^ 776) (2 ^ (c + 724)) * 2 ^ (c + 724)) (2 ^ 1074)
  has =
      let N = closest (D * 2 ^ 776) (2 ^ (c + 724)) in
      subst (λ (v : Float). HasValue v t (N * 2 ^ (c + 724)) (2 ^ 1074)) (sym first)
      (units_val binary64 t N (c + 724) (lt_of_le_of_lt (mul-le-mul_right (2 ^ (c + 724)) N-le) (subst (λ (x : ℕ). x < 2 ^ 2098) (pow-add 2 53 (c + 724)) (pow-lt (room c cl)))))
    where
      room : (c : ℕ) → c ≤ 600 → 53 + (c + 724) < 2098
      room c h = omega arith

  careful-at : NotHalfWay (to_bits binary64 (round binary64 t D (2 ^ 298))) → Narrows (round binary64 t D (2 ^ 298)) (round binary32 t D (2 ^ 298))
  careful-at C =
      let n = D * 2 ^ 776 in
      let N = closest (D * 2 ^ 776) (2 ^ (c + 724)) in
      let s = round binary64 t D (2 ^ 298) in
      let w = clear_means t (c + 724) N (to_bits binary64 s) (bits_at s t N (c + 724) N-ge N-le has) (omega arith) N-le in
      let ne : N % 0x2000_0000 ≡ 0x1000_0000 → ⊥ = λ p. C.0 (w.1 ∙ p) in
      let f : 898 ≤ ((c + 724) * 0x10_0000_0000_0000 + N) / 0x10_0000_0000_0000 = subst (λ (x : ℕ). 898 ≤ x / 0x10_0000_0000_0000) w.0 C.1 in
      let g : ((c + 724) * 0x10_0000_0000_0000 + N) / 0x10_0000_0000_0000 ≤ 1149 = subst (λ (x : ℕ). x / 0x10_0000_0000_0000 ≤ 1149) w.0 C.2 in
      go N N-ge N-le f g has (again n (2 ^ (c + 724)) (pow_pos (c + 724)) ne) (eq-or-lt_of_le N-le)
    where
      go : (N : ℕ) → 0x10_0000_0000_0000 ≤ N → N ≤ 0x20_0000_0000_0000 → 898 ≤ ((c + 724) * 0x10_0000_0000_0000 + N) / 0x10_0000_0000_0000 → ((c + 724) * 0x10_0000_0000_0000 + N) / 0x10_0000_0000_0000 ≤ 1149
          → HasValue (round binary64 t D (2 ^ 298)) t (N * 2 ^ (c + 724)) (2 ^ 1074) → closest N 0x2000_0000 ≡ closest (D * 2 ^ 776) (0x2000_0000 * 2 ^ (c + 724))
          → (N ≡ 0x20_0000_0000_0000) ⊎ (N < 0x20_0000_0000_0000) → Narrows (round binary64 t D (2 ^ 298)) (round binary32 t D (2 ^ 298))
      go N nlo nhi f g h e (inr l) =
          let klo : 896 ≤ c + 724 = omega arith in
          let khi : c + 724 ≤ 1148 = omega arith in
          let s = round binary64 t D (2 ^ 298) in
          subst (λ (v : Float). Narrows s v)
          (round-is-units t N (c + 724) nlo l klo khi
          ∙ ap (λ (x : ℕ). units binary32 t (closest N 0x2000_0000) x) (less c klo)
          ∙ ap (λ (x : ℕ). units binary32 t x (c - 172)) e
          ∙ sym (second (omega arith)))
          (cut-is t N (c + 724) nlo l klo khi s h)
        where
          less : (c : ℕ) → 896 ≤ c + 724 → c + 724 - 896 ≡ c - 172
          less c h = omega arith
      go N nlo nhi f g h e (inl p) =
          let klo : 896 ≤ 1 + (c + 724) = omega arith in
          let khi : 1 + (c + 724) ≤ 1148 = omega arith in
          let cge : 172 ≤ c = omega arith in
          let s = round binary64 t D (2 ^ 298) in
          let v : N * 2 ^ (c + 724) ≡ 0x10_0000_0000_0000 * 2 ^ (1 + (c + 724)) =
          ap (λ (x : ℕ). x * 2 ^ (c + 724)) p ∙ mul_assoc 0x10_0000_0000_0000 2 (2 ^ (c + 724)) ∙ ap (λ (x : ℕ). 0x10_0000_0000_0000 * x) (sym (pow-add 2 1 (c + 724))) in
          subst (λ (v : Float). Narrows s v)
          (round-is-units t 0x10_0000_0000_0000 (1 + (c + 724)) (lit≤ tt) (lit< tt) klo khi
          ∙ ap (λ (x : ℕ). units binary32 t 0x80_0000 x) (less c cge)
          ∙ sym (carry t (c - 172) (omega arith))
          ∙ ap (λ (x : ℕ). units binary32 t x (c - 172)) (sym (ap (λ (x : ℕ). closest x 0x2000_0000) p) ∙ e)
          ∙ sym (second cge))
          (cut-is t 0x10_0000_0000_0000 (1 + (c + 724)) (lit≤ tt) (lit< tt) klo khi s (subst (λ (x : ℕ). HasValue s t x (2 ^ 1074)) v h))
        where
          less : (c : ℕ) → 172 ≤ c → 1 + (c + 724) - 896 ≡ 1 + (c - 172)
          less c h = omega arith

  -- no such D rounds to a zero
  not_zero : to_bits binary64 (round binary64 t D (2 ^ 298)) % 0x8000_0000_0000_0000 ≡ 0 → ⊥
  not_zero z =
      let N = closest (D * 2 ^ 776) (2 ^ (c + 724)) in
      let s = round binary64 t D (2 ^ 298) in
      let w = clear_means t (c + 724) N (to_bits binary64 s) (bits_at s t N (c + 724) N-ge N-le has) (omega arith) N-le in
      let n = N-ge in
      omega arith

-- ---- any D
pub careful : (t : Bool) (D : ℕ) → D < 2 ^ 600 → Clear (to_bits binary64 (round binary64 t D (2 ^ 298))) → Narrows (round binary64 t D (2 ^ 298)) (round binary32 t D (2 ^ 298))
careful t zero h C = cut-zero t
careful t (suc D) h C =
    let z = size (suc D) in
    let p : 0 < z = size_gt (suc D) 0 (zero-lt-suc D) in
    let lo = size_reaches (suc D) (z - 1) (omega arith) in
    let hi = subst (λ (x : ℕ). suc D < 2 ^ x) (pred z p) (size-lt (suc D)) in
    let cl = most z (size-le (suc D) 600 h) in
    elim C [ inl e ↦ absurd (not_zero t (suc D) (z - 1) lo hi cl e) | inr C ↦ careful-at t (suc D) (z - 1) lo hi cl C ]
  where
    pred : (z : ℕ) → 0 < z → z ≡ suc (z - 1)
    pred z p = omega arith

    most : (z : ℕ) → z ≤ 600 → z - 1 ≤ 600
    most z h = omega arith

-- ---- a sum
pub careful_sum : (A B : ℕ) → A < 2 ^ 599 → B < 2 ^ 599 → (s t : Bool) → Clear (to_bits binary64 (sum binary64 s A t B (2 ^ 298))) → Narrows (sum binary64 s A t B (2 ^ 298)) (sum binary32 s A t B (2 ^ 298))
careful_sum A B al bl s t C =
    let r = one_rounding s A t B (2 ^ 298) in
    let under : A + B < 2 ^ 600 = add-lt-pow 599 al bl in
    rw (r.is binary64, r.is binary32) (careful r.sign r.D (lt_of_le_of_lt r.under under) (rw (r.is binary64) at C))
