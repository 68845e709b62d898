-- An f64 rounded to 24 digits by three operations: u - (u - x) with u = 2 ^ 29 * x.
-- `cut-is`: where the f64 is N * 2 ^ k units of 2 ^ -1074, N of 53 digits, the outcome is what `round binary32` makes of the same number. The inner difference, 2 ^ 29 * N - N,
-- is rounded at 2 ^ 29 (or at 2 ^ 28, where N is next to 2 ^ 52), and so is N - what comes of it: the outer difference is exact. Assumes nothing.
use Rattle.std.proofs.Common.{◌≡◌, ℕ, suc, ◌+◌, ◌-◌, ◌*◌, ◌/◌, ◌%◌, ◌^◌, ◌<◌, ◌≤◌, Bool, true, false, not, ◌&&◌, T, ◌⊎◌, sym, refl, ap, ◌∙◌, subst, inl, inr, zero-le, le_trans, le_of_eq, lt_of_lt_of_le, lt_of_le_of_lt, mul-le-mul_right, mul_assoc, mul_comm, eq-or-lt_of_le, mul-lt-mul_of_pos_right, mul-pos, mul-one, mul_right_comm, mul-div_cancel, mul_left_comm, arith, lit<, lit≤, pow_pos, pow_mono, pow-add, shl_lt}
use lib.Arith.{digits_div, digits_mod}
use lib.Pow.{pow-lt}
use lib.Ieee.{Float, nan, inf, fin, binary32, binary64, size, units, round, sub, mul, neg, fits, is_nan, unlike, of_bits}
use lib.Ieee.Fits.{and_i, round_is, round-fits, sub-fits, fits_widens}
use lib.Ieee.Exact.{HasValue, units_val, round_exact}
use lib.Ieee.Nearest.{closest, closest_same}
use lib.Ieee.Bits.{of_bits-to_bits}
use Rattle.binary32.proofs.Size.{size_exact, split_le}
use Rattle.rounding.specs.Steps.{Narrows, cut, lifted}
use Rattle.rounding.proofs.Closest.{near-lt, near-eq, near-gt}
use Rattle.rounding.proofs.Sums.{sum_more, sub-mul, add_at, mul_val}
use Rattle.rounding.proofs.Single.{bits_at, round-is-units, units-has, q_ge, q_le}

cut_fits : (x : Float) → T (fits binary64 (cut x))
unfolding cut
cut_fits x = sub-fits binary64 (lifted x) (sub binary64 (lifted x) x)

pub not_nan_of : (x : Float) (s : Bool) (a c : ℕ) → HasValue x s a c → T (not (is_nan x))
unfolding is_nan
not_nan_of nan s a c h = absurd h
not_nan_of (inf t) s a c h = absurd h
not_nan_of (fin t m e) s a c h = tt

-- ---- the rounding of 2 ^ 29 * N - N
by_parts : (D q r m : ℕ) → r < m → D ≡ q * m + r → (D / m ≡ q) × (D % m ≡ r)
by_parts D q r m l e = (ap (λ (x : ℕ). x / m) e ∙ digits_div q l, ap (λ (x : ℕ). x % m) e ∙ digits_mod q l)

inner : (N : ℕ) → closest (N * 0x1fff_ffff) 0x2000_0000 + closest N 0x2000_0000 ≡ N
inner N = below (split_le 0x1000_0000 (N % 0x2000_0000))
  where
    whole : N % 0x2000_0000 ≡ 0 → closest (N * 0x1fff_ffff) 0x2000_0000 + closest N 0x2000_0000 ≡ N
    whole e =
        let d = by_parts (N * 0x1fff_ffff) (N - N / 0x2000_0000) 0 0x2000_0000 (lit< tt) (omega arith) in
        let b : N * 0x1fff_ffff / 0x2000_0000 + N / 0x2000_0000 ≡ N = ap (λ (x : ℕ). x + N / 0x2000_0000) d.0 ∙ (omega arith) in
        let p = near-lt (N * 0x1fff_ffff) 29 (lit< tt) (subst (λ (x : ℕ). x < 0x1000_0000) (sym d.1) (lit< tt)) in
        let q = near-lt N 29 (lit< tt) (subst (λ (x : ℕ). x < 0x1000_0000) (sym e) (lit< tt)) in
        ap (λ (x : ℕ). x + closest N 0x2000_0000) p ∙ ap (λ (x : ℕ). N * 0x1fff_ffff / 0x2000_0000 + x) q ∙ b

    rest : 0 < N % 0x2000_0000 → (N * 0x1fff_ffff % 0x2000_0000 + N % 0x2000_0000 ≡ 0x2000_0000) × (N * 0x1fff_ffff / 0x2000_0000 + N / 0x2000_0000 + 1 ≡ N)
    rest h = (omega arith, omega arith)

    few : N % 0x2000_0000 < 0x1000_0000 → (0 ≡ N % 0x2000_0000) ⊎ (0 < N % 0x2000_0000) → closest (N * 0x1fff_ffff) 0x2000_0000 + closest N 0x2000_0000 ≡ N
    few h (inl e) = whole (sym e)
    few h (inr l) =
        let r = rest l in
        let p = near-gt (N * 0x1fff_ffff) 29 (lit< tt) (omega arith) in
        let q = near-lt N 29 (lit< tt) h in
        ap (λ (x : ℕ). x + closest N 0x2000_0000) p ∙ ap (λ (x : ℕ). suc (N * 0x1fff_ffff / 0x2000_0000) + x) q ∙ sums (N * 0x1fff_ffff / 0x2000_0000) (N / 0x2000_0000) r.1
      where
        sums : (d n : ℕ) → d + n + 1 ≡ N → suc d + n ≡ N
        sums d n e = omega arith

    half : (0x1000_0000 ≡ N % 0x2000_0000) ⊎ (0x1000_0000 < N % 0x2000_0000) → closest (N * 0x1fff_ffff) 0x2000_0000 + closest N 0x2000_0000 ≡ N
    half (inl e) =
        let r = rest (omega arith) in
        let p = near-eq (N * 0x1fff_ffff) 29 (lit< tt) (omega arith) in
        let q = near-eq N 29 (lit< tt) (sym e) in
        let m : N % 2 ≡ 0 = even N (sym e) in
        ap (λ (x : ℕ). x + closest N 0x2000_0000) p ∙ ap (λ (x : ℕ). N * 0x1fff_ffff / 0x2000_0000 + N * 0x1fff_ffff / 0x2000_0000 % 2 + x) q ∙ sums (N * 0x1fff_ffff / 0x2000_0000) (N / 0x2000_0000) r.1 m
      where
        even : (N : ℕ) → N % 0x2000_0000 ≡ 0x1000_0000 → N % 2 ≡ 0
        even N h = omega arith

        sums : (d n : ℕ) → d + n + 1 ≡ N → N % 2 ≡ 0 → d + d % 2 + (n + n % 2) ≡ N
        sums d n e m = omega arith
    half (inr l) =
        let r = rest (omega arith) in
        let p = near-lt (N * 0x1fff_ffff) 29 (lit< tt) (omega arith) in
        let q = near-gt N 29 (lit< tt) l in
        ap (λ (x : ℕ). x + closest N 0x2000_0000) p ∙ ap (λ (x : ℕ). N * 0x1fff_ffff / 0x2000_0000 + x) q ∙ sums (N * 0x1fff_ffff / 0x2000_0000) (N / 0x2000_0000) r.1
      where
        sums : (d n : ℕ) → d + n + 1 ≡ N → d + suc n ≡ N
        sums d n e = omega arith

    below : (0x1000_0000 ≤ N % 0x2000_0000) ⊎ (N % 0x2000_0000 < 0x1000_0000) → closest (N * 0x1fff_ffff) 0x2000_0000 + closest N 0x2000_0000 ≡ N
    below (inl h) = half (eq-or-lt_of_le h)
    below (inr l) = few l (eq-or-lt_of_le zero-le)

-- where N is next to 2 ^ 52
module _ (N : ℕ) (lo : 0x10_0000_0000_0000 ≤ N) (hi : N ≤ 0x10_0000_0080_0000) where
  inner-low : closest (N * 0x1fff_ffff) 0x1000_0000 + 0x100_0000 ≡ 2 * N
  inner-low = go (eq-or-lt_of_le lo)
    where
      go : (0x10_0000_0000_0000 ≡ N) ⊎ (0x10_0000_0000_0000 < N) → closest (N * 0x1fff_ffff) 0x1000_0000 + 0x100_0000 ≡ 2 * N
      go (inl e) =
          let d = by_parts (N * 0x1fff_ffff) (2 * N - 0x100_0000) 0 0x1000_0000 (lit< tt) (omega arith) in
          let b : N * 0x1fff_ffff / 0x1000_0000 + 0x100_0000 ≡ 2 * N = ap (λ (x : ℕ). x + 0x100_0000) d.0 ∙ (omega arith) in
          let p = near-lt (N * 0x1fff_ffff) 28 (lit< tt) (subst (λ (x : ℕ). x < 0x800_0000) (sym d.1) (lit< tt)) in
          ap (λ (x : ℕ). x + 0x100_0000) p ∙ b
      go (inr l) =
          let d = by_parts (N * 0x1fff_ffff) (2 * N - 0x100_0001) (0x10_0000_1000_0000 - N) 0x1000_0000 (omega arith) (omega arith) in
          let a : N * 0x1fff_ffff / 0x1000_0000 + 0x100_0001 ≡ 2 * N = ap (λ (x : ℕ). x + 0x100_0001) d.0 ∙ (omega arith) in
          let p = near-gt (N * 0x1fff_ffff) 28 (lit< tt) (lt_of_lt_of_le (far N hi) (le_of_eq (sym d.1))) in
          ap (λ (x : ℕ). x + 0x100_0000) p ∙ sums (N * 0x1fff_ffff / 0x1000_0000) a
        where
          far : (N : ℕ) → N ≤ 0x10_0000_0080_0000 → 0x800_0000 < 0x10_0000_1000_0000 - N
          far N h = omega arith

          sums : (d : ℕ) → d + 0x100_0001 ≡ 2 * N → suc d + 0x100_0000 ≡ 2 * N
          sums d e = omega arith

  outer-low : closest N 0x2000_0000 ≡ 0x80_0000
  outer-low = near-lt N 29 (lit< tt) (omega arith) ∙ (omega arith)

-- ---- signs
neg_has : (x : Float) (s : Bool) (a c : ℕ) → HasValue x s a c → HasValue (neg x) (not s) a c
unfolding neg
neg_has nan s a c h = h
neg_has (inf t) s a c h = h
neg_has (fin t m e) s a c h = (ap not h.0, h.1)

unlike_plus : (t : Bool) → unlike t false ≡ t
unlike_plus true = refl
unlike_plus false = refl

-- the difference of two values of one sign, the first the larger
sub_at : (x y : Float) (t : Bool) (a b c : ℕ) → 0 < c → b < a → HasValue x t a c → HasValue y t b c → sub binary64 x y ≡ round binary64 t (a - b) c
unfolding sub
sub_at x y t a b c C l p q = add_at binary64 x (neg y) t (not t) a b c C p (neg_has y t b c q) ∙ sum_more binary64 t a b c l

-- Q * 2 ^ j units of binary64, Q of at most 53 digits, is exact
exact : (t : Bool) (Q j : ℕ) → Q < 0x20_0000_0000_0000 → j ≤ 1200 → HasValue (round binary64 t (Q * 2 ^ j) (2 ^ 1074)) t (Q * 2 ^ j) (2 ^ 1074)
exact t Q j h l = round_exact binary64 t (Q * 2 ^ j) (2 ^ 1074) Q j (pow_pos 1074) h (lt_of_lt_of_le (shl_lt 53 j h) (pow_mono (under j l))) refl
  where
    under : (j : ℕ) → j ≤ 1200 → 53 + j ≤ 2098
    under j l = omega arith

-- D * 2 ^ k units of binary64, D of 53 + b digits, is rounded to a multiple of 2 ^ (b + k) units
round_high : (t : Bool) (D k b : ℕ) → 2 ^ (52 + b) ≤ D → D < 2 ^ (53 + b) → round binary64 t (D * 2 ^ k) (2 ^ 1074) ≡ units binary64 t (closest D (2 ^ b)) (b + k)
round_high t D k b lo hi =
    let z : size (D * 2 ^ k) ≡ suc (52 + b + k) =
    size_exact (52 + b + k) (D * 2 ^ k) (le_trans (le_of_eq (pow-add 2 (52 + b) k)) (mul-le-mul_right (2 ^ k) lo)) (subst (λ (x : ℕ). D * 2 ^ k < 2 ^ x) (more b k) (shl_lt (53 + b) k hi)) in
    round_is binary64 t (D * 2 ^ k) (2 ^ 1074)
    ∙ ap (λ (x : ℕ). units binary64 t (closest (D * 2 ^ k * 2 ^ 1074) (2 ^ 1074 * 2 ^ x)) x) (ap (λ (x : ℕ). size x - 53) (mul-div_cancel (D * 2 ^ k) (pow_pos 1074)) ∙ less b k (size (D * 2 ^ k)) z)
    ∙ ap (λ (x : ℕ). units binary64 t x (b + k))
    (closest_same (D * 2 ^ k * 2 ^ 1074) (2 ^ 1074 * 2 ^ (b + k)) D (2 ^ b) (mul-pos (pow_pos 1074) (pow_pos (b + k))) (pow_pos b)
    (mul_assoc (D * 2 ^ k) (2 ^ 1074) (2 ^ b) ∙ mul_assoc D (2 ^ k) (2 ^ 1074 * 2 ^ b)
    ∙ ap (λ (x : ℕ). D * x) (mul_left_comm (2 ^ k) (2 ^ 1074) (2 ^ b) ∙ ap (λ (x : ℕ). 2 ^ 1074 * x) (mul_comm (2 ^ k) (2 ^ b) ∙ sym (pow-add 2 b k)))))
  where
    more : (b k : ℕ) → 53 + b + k ≡ suc (52 + b + k)
    more b k = omega arith

    less : (b k z : ℕ) → z ≡ suc (52 + b + k) → z - 53 ≡ b + k
    less b k z e = omega arith

-- ---- the three operations
two_29 : HasValue (of_bits binary64 0x41c0_0000_0000_0000) false 0x2000_0000 1
unfolding of_bits
two_29 = (refl, refl)

module _ (t : Bool) (N k : ℕ) (lo : 0x10_0000_0000_0000 ≤ N) (hi : N < 0x20_0000_0000_0000) (klo : 896 ≤ k) (khi : k ≤ 1148) (x : Float) (h : HasValue x t (N * 2 ^ k) (2 ^ 1074)) where
  up-29 : (Q : ℕ) → Q * 2 ^ (29 + k) ≡ Q * 0x2000_0000 * 2 ^ k
  up-29 Q = ap (λ (y : ℕ). Q * y) (pow-add 2 29 k) ∙ sym (mul_assoc Q (2 ^ 29) (2 ^ k))

  up-28 : (Q : ℕ) → Q * 2 ^ (28 + k) ≡ Q * 0x1000_0000 * 2 ^ k
  up-28 Q = ap (λ (y : ℕ). Q * y) (pow-add 2 28 k) ∙ sym (mul_assoc Q (2 ^ 28) (2 ^ k))

  lifted-has : HasValue (lifted x) t (N * 2 ^ (29 + k)) (2 ^ 1074)
  lifted-has =
      let e : lifted x ≡ round binary64 t (N * 2 ^ (29 + k)) (2 ^ 1074) =
      mul_val binary64 x (of_bits binary64 0x41c0_0000_0000_0000) t false (N * 2 ^ k) 0x2000_0000 (2 ^ 1074) 1 (pow_pos 1074) (lit< tt) h two_29
      ∙ (λ i. round binary64 (unlike_plus t i) ((mul_right_comm N (2 ^ k) 0x2000_0000 ∙ sym (up-29 N)) i) (mul-one (2 ^ 1074) i)) in
      subst (λ (v : Float). HasValue v t (N * 2 ^ (29 + k)) (2 ^ 1074)) (sym e) (exact t N (29 + k) hi (omega arith))

  -- from what the inner difference is, the outer one
  outer : (d : Float) (E : ℕ) → E + closest N 0x2000_0000 * 0x2000_0000 ≡ N * 0x2000_0000 → HasValue d t (E * 2 ^ k) (2 ^ 1074) → HasValue (sub binary64 (lifted x) d) t (closest N 0x2000_0000 * 2 ^ (29 + k)) (2 ^ 1074)
  outer d E e v =
      let q = closest N 0x2000_0000 in
      let g : 0x80_0000 ≤ q = q_ge t N k lo hi klo khi in
      let l : q ≤ 0x100_0000 = q_le t N k lo hi klo khi in
      let r : sub binary64 (lifted x) d ≡ round binary64 t (q * 2 ^ (29 + k)) (2 ^ 1074) =
      sub_at (lifted x) d t (N * 0x2000_0000 * 2 ^ k) (E * 2 ^ k) (2 ^ 1074) (pow_pos 1074) (mul-lt-mul_of_pos_right (omega arith) (pow_pos k)) (subst (λ (n : ℕ). HasValue (lifted x) t n (2 ^ 1074)) (up-29 N) lifted-has) v
      ∙ ap (λ (n : ℕ). round binary64 t n (2 ^ 1074)) (sym (sub-mul (N * 0x2000_0000) E (2 ^ k)) ∙ ap (λ (n : ℕ). n * 2 ^ k) (left (N * 0x2000_0000) E (q * 0x2000_0000) e) ∙ sym (up-29 q)) in
      subst (λ (y : Float). HasValue y t (q * 2 ^ (29 + k)) (2 ^ 1074)) (sym r) (exact t q (29 + k) (lt_of_le_of_lt l (lit< tt)) (omega arith))
    where
      left : (a b c : ℕ) → b + c ≡ a → a - b ≡ c
      left a b c e = omega arith

  -- the inner one
  inner-is : sub binary64 (lifted x) x ≡ round binary64 t (N * 0x1fff_ffff * 2 ^ k) (2 ^ 1074)
  inner-is =
      sub_at (lifted x) x t (N * 0x2000_0000 * 2 ^ k) (N * 2 ^ k) (2 ^ 1074) (pow_pos 1074) (mul-lt-mul_of_pos_right (omega arith) (pow_pos k)) (subst (λ (n : ℕ). HasValue (lifted x) t n (2 ^ 1074)) (up-29 N) lifted-has) h
      ∙ ap (λ (n : ℕ). round binary64 t n (2 ^ 1074)) (sym (sub-mul (N * 0x2000_0000) N (2 ^ k)) ∙ ap (λ (n : ℕ). n * 2 ^ k) (once N))
    where
      once : (N : ℕ) → N * 0x2000_0000 - N ≡ N * 0x1fff_ffff
      once N = omega arith

  cut_has : HasValue (cut x) t (closest N 0x2000_0000 * 0x2000_0000 * 2 ^ k) (2 ^ 1074)
  unfolding cut
  cut_has = subst (λ (n : ℕ). HasValue (cut x) t n (2 ^ 1074)) (up-29 (closest N 0x2000_0000)) (go (split_le (N * 0x1fff_ffff) 0x1_ffff_ffff_ffff_ffff_ffff))
    where
      fit : (E b : ℕ) → E ≤ 0x20_0000_0000_0000 → b ≤ 29 → E * 2 ^ (b + k) < 2 ^ 2098
      fit E b h l = lt_of_le_of_lt (mul-le-mul_right (2 ^ (b + k)) h) (subst (λ (y : ℕ). y < 2 ^ 2098) (pow-add 2 53 (b + k)) (pow-lt (room b l)))
        where
          room : (b : ℕ) → b ≤ 29 → 53 + (b + k) < 2098
          room b l = omega arith

      go : (N * 0x1fff_ffff ≤ 0x1_ffff_ffff_ffff_ffff_ffff) ⊎ (0x1_ffff_ffff_ffff_ffff_ffff < N * 0x1fff_ffff) → HasValue (cut x) t (closest N 0x2000_0000 * 2 ^ (29 + k)) (2 ^ 1074)
      go (inr l) =
          let E = closest (N * 0x1fff_ffff) 0x2000_0000 in
          let s : E + closest N 0x2000_0000 ≡ N = inner N in
          outer (sub binary64 (lifted x) x) (E * 0x2000_0000) (omega arith)
          (subst (λ (v : Float). HasValue v t (E * 0x2000_0000 * 2 ^ k) (2 ^ 1074)) (sym (inner-is ∙ round_high t (N * 0x1fff_ffff) k 29 l (omega arith)))
          (subst (λ (n : ℕ). HasValue (units binary64 t E (29 + k)) t n (2 ^ 1074)) (up-29 E) (units_val binary64 t E (29 + k) (fit E 29 (omega arith) (lit≤ tt)))))
      go (inl h) =
          let E = closest (N * 0x1fff_ffff) 0x1000_0000 in
          let n : N ≤ 0x10_0000_0080_0000 = omega arith in
          let s : E + 0x100_0000 ≡ 2 * N = inner-low N lo n in
          let q : closest N 0x2000_0000 ≡ 0x80_0000 = outer-low N lo n in
          outer (sub binary64 (lifted x) x) (E * 0x1000_0000) (omega arith)
          (subst (λ (v : Float). HasValue v t (E * 0x1000_0000 * 2 ^ k) (2 ^ 1074)) (sym (inner-is ∙ round_high t (N * 0x1fff_ffff) k 28 (omega arith) (below (N * 0x1fff_ffff) h)))
          (subst (λ (n : ℕ). HasValue (units binary64 t E (28 + k)) t n (2 ^ 1074)) (up-28 E) (units_val binary64 t E (28 + k) (fit E 28 (omega arith) (lit≤ tt)))))
        where
          below : (a : ℕ) → a ≤ 0x1_ffff_ffff_ffff_ffff_ffff → a < 0x2_0000_0000_0000_0000_0000
          below a h = omega arith

  pub cut-is : Narrows x (round binary32 t (N * 2 ^ k) (2 ^ 1074))
  cut-is =
      let q = closest N 0x2000_0000 in
      let v = units binary32 t q (k - 896) in
      let w : HasValue v t (q * 0x2000_0000 * 2 ^ k) (2 ^ 1074) = units-has t N k lo hi klo khi in
      let g : 0x80_0000 ≤ q = q_ge t N k lo hi klo khi in
      let l : q ≤ 0x100_0000 = q_le t N k lo hi klo khi in
      let u : round binary32 t (N * 2 ^ k) (2 ^ 1074) ≡ v = round-is-units t N k lo hi klo khi in
      let f : T (fits binary32 v) = subst (λ (y : Float). T (fits binary32 y)) u (round-fits binary32 t (N * 2 ^ k) (2 ^ 1074)) in
      let e : cut x ≡ v =
      sym (of_bits-to_bits binary64 (cut x) (cut_fits x))
      ∙ ap (of_bits binary64) (bits_at (cut x) t (q * 0x2000_0000) k (omega arith) (omega arith) cut_has ∙ sym (bits_at v t (q * 0x2000_0000) k (omega arith) (omega arith) w))
      ∙ of_bits-to_bits binary64 v (fits_widens v f) in
      record {
        single = subst (λ (y : Float). T (fits binary32 y && not (is_nan y))) (sym e) (and_i (fits binary32 v) (not (is_nan v)) f (not_nan_of v t (q * 0x2000_0000 * 2 ^ k) (2 ^ 1074) w));
        is = e ∙ sym u;
      }

-- a zero
pub cut-zero : (t : Bool) → Narrows (round binary64 t 0 (2 ^ 298)) (round binary32 t 0 (2 ^ 298))
unfolding cut of_bits round mul sub is_nan fits
cut-zero true = record { single = tt; is = refl }
cut-zero false = record { single = tt; is = refl }
