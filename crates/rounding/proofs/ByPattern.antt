-- An f64 rounded to 24 digits by its pattern: 2 ^ 28 is added, and what stands below the 24 digits is dropped.
-- The exponent and the N of 53 digits are one number there, so that a carry goes up by itself. Where there is no tie, (N + 2 ^ 28) / 2 ^ 29 is `closest`, and then the two roundings are one (`Midpoint`).
use Rattle.std.proofs.Common.{◌≡◌, ℕ, suc, ◌+◌, ◌-◌, ◌*◌, ◌/◌, ◌%◌, ◌^◌, ◌<◌, ◌≤◌, Bool, true, false, cond, not, ◌&&◌, T, ltb, ◌⊎◌, sym, refl, ap, ◌∙◌, subst, inl, inr, le_trans, le_of_eq, lt_of_lt_of_le, lt_of_le_of_lt, mul-le-mul_right, mul_assoc, add-mul, eq-or-lt_of_le, arith, lit<, pow_pos, pow_mono, pow-add}
use borrow.Author.Tests.{eqb-false, not-true}
use lib.Pow.{add-lt-pow, pow-lt}
use lib.Ieee.{Float, binary32, binary64, fits, is_nan, nan_bits, of_bits, round, size, sum, to_bits, units}
use lib.Ieee.Bits.{nan_bits_is, of_bits-to_bits}
use lib.Ieee.Digits.{size-lt, size_reaches}
use lib.Ieee.Exact.{HasValue, units_val}
use lib.Ieee.Fits.{and_i, cond-fits, fits_widens, inf-fits, odd-fits}
use lib.Ieee.Nearest.{closest}
use Rattle.binary32.proofs.Size.{size_gt, split_le}
use Rattle.rounding.specs.Steps.{Rounds, Sure, dropped, moved, rounded, sure}
use Rattle.rounding.proofs.Closest.{near-gt, near-lt}
use Rattle.rounding.proofs.Cut.{not_nan_of}
use Rattle.rounding.proofs.Midpoint.{N-ge, N-le, again, has, second}
use Rattle.rounding.proofs.Placed.{pow-back}
use Rattle.rounding.proofs.Single.{bits_at, rescale}
use Rattle.rounding.proofs.Sums.{multiple_of, one_rounding, zero-or_more}

-- the test of a tie
pub surely : (x : Float) → sure (to_bits binary64 x) ≡ true → Sure x
surely x e = eqb-false _ _ (not-true _ e)

-- a pattern that was made so is one of a number, which is `rounded` and a value of f32
pub pattern-is : (x : Float) (w : ℕ) → w ≡ dropped (to_bits binary64 x) → of_bits binary64 w ≡ rounded x
unfolding rounded
pattern-is x w e = ap (of_bits binary64) e

pub pattern-still : (x : Float) (w : ℕ) → w ≡ dropped (to_bits binary64 x) → Rounds x → T (not (nan_bits binary64 w))
pattern-still x w e r = rw e r.still

pub pattern-single : (x : Float) (w : ℕ) → w ≡ dropped (to_bits binary64 x) → Rounds x → T (fits binary32 (of_bits binary64 w) && not (is_nan (of_bits binary64 w)))
pattern-single x w e r = rw (pattern-is x w e) r.single

-- x is rounded so to Q * 2 ^ k of the smallest f32, which is r but at a tie; k is w - 172 at least, and the value 2 ^ (b - 298) at most
pub record Settled (w b : ℕ) (x r : Float) : Type 0 where
  pub rounds : Rounds x
  pub is : Sure x → rounded x ≡ r
  pub sign : Bool
  pub Q : ℕ
  pub k : ℕ
  pub value : HasValue (rounded x) sign (Q * 2 ^ k) (2 ^ 149)
  pub from : w ≤ k + 172
  pub under : Q * 2 ^ (k + 149) ≤ 2 ^ b

wider : {w w' b b' : ℕ} {x r : Float} → w' ≤ w → b ≤ b' → Settled w b x r → Settled w' b' x r
wider h l s = record { rounds = s.rounds; is = s.is; sign = s.sign; Q = s.Q; k = s.k; value = s.value; from = le_trans h s.from; under = le_trans s.under (pow_mono l) }

-- ---- the pattern b of N * 2 ^ k units of binary64
module _ (k N b : ℕ) (h : k < 2000) (l : N ≤ 0x20_0000_0000_0000) where
  adds : (t : Bool) → b ≡ cond t 0x8000_0000_0000_0000 0 + (k * 0x10_0000_0000_0000 + N)
      → (dropped b ≡ cond t 0x8000_0000_0000_0000 0 + (k * 0x10_0000_0000_0000 + (N + 0x1000_0000) / 0x2000_0000 * 0x2000_0000))
      × (moved b % 0x2000_0000 ≡ (N + 0x1000_0000) % 0x2000_0000)
  adds true e = (omega arith, omega arith)
  adds false e = (omega arith, omega arith)

no_tie : (N : ℕ) → ¬ ((N + 0x1000_0000) % 0x2000_0000 ≡ 0) → (N % 0x2000_0000 ≡ 0x1000_0000 → ⊥) × (closest N 0x2000_0000 ≡ (N + 0x1000_0000) / 0x2000_0000)
no_tie N n = (half, by (split_le 0x1000_0000 (N % 0x2000_0000)))
  where
    half : N % 0x2000_0000 ≡ 0x1000_0000 → ⊥
    half e = n (omega arith)

    by : (0x1000_0000 ≤ N % 0x2000_0000) ⊎ (N % 0x2000_0000 < 0x1000_0000) → closest N 0x2000_0000 ≡ (N + 0x1000_0000) / 0x2000_0000
    by (inr l) = near-lt N 29 (lit< tt) l ∙ (omega arith)
    by (inl h) = elim (eq-or-lt_of_le h) [ inl e ↦ absurd (half (sym e)) | inr l ↦ near-gt N 29 (lit< tt) l ∙ (omega arith) ]

units_fits : (t : Bool) (Q k : ℕ) → Q ≤ 0x100_0000 → Q * 2 ^ k < 2 ^ 277 → T (fits binary32 (units binary32 t Q k))
unfolding units
units_fits t Q k q l = cond-fits binary32 (ltb (Q * 2 ^ k) (2 ^ 277)) _ _ (odd-fits binary32 25 t Q k (lt_of_le_of_lt q (lit< tt)) q l) (inf-fits binary32 t)

-- ---- D of c + 1 digits, over 2 ^ 298
settled_at : (t : Bool) (D c : ℕ) → 2 ^ c ≤ D → D < 2 ^ suc c → 172 ≤ c → c ≤ 424 → Settled c (suc c) (round binary64 t D (2 ^ 298)) (round binary32 t D (2 ^ 298))
unfolding rounded
settled_at t D c lo hi clo chi = by (closest (D * 2 ^ 776) (2 ^ (c + 724))) (N-ge t D c lo hi cl) (N-le t D c lo hi cl) (has t D c lo hi cl) (again (D * 2 ^ 776) (2 ^ (c + 724)) (pow_pos (c + 724)))
  where
    cl : c ≤ 600
    cl = omega arith

    by : (N : ℕ) → 0x10_0000_0000_0000 ≤ N → N ≤ 0x20_0000_0000_0000 → HasValue (round binary64 t D (2 ^ 298)) t (N * 2 ^ (c + 724)) (2 ^ 1074)
        → ((N % 0x2000_0000 ≡ 0x1000_0000 → ⊥) → closest N 0x2000_0000 ≡ closest (D * 2 ^ 776) (0x2000_0000 * 2 ^ (c + 724)))
        → Settled c (suc c) (round binary64 t D (2 ^ 298)) (round binary32 t D (2 ^ 298))
    by N nlo nhi h twice =
        let x = round binary64 t D (2 ^ 298) in
        let Q = (N + 0x1000_0000) / 0x2000_0000 in
        let qlo : 0x80_0000 ≤ Q = omega arith in
        let qhi : Q ≤ 0x100_0000 = omega arith in
        let v = units binary32 t Q (c - 172) in
        let a = adds (c + 724) N (to_bits binary64 x) (omega arith) nhi t (bits_at x t N (c + 724) nlo nhi h) in
        let l : Q * 2 ^ (c - 172) < 2 ^ 277 = lt_of_le_of_lt (mul-le-mul_right (2 ^ (c - 172)) qhi) (subst (λ (y : ℕ). y < 2 ^ 277) (pow-add 2 24 (c - 172)) (pow-lt (under c chi))) in
        let v32 : HasValue v t (Q * 2 ^ (c - 172)) (2 ^ 149) = units_val binary32 t Q (c - 172) l in
        let v64 : HasValue v t (Q * 0x2000_0000 * 2 ^ (c + 724)) (2 ^ 1074) =
        rescale v t (Q * 2 ^ (c - 172)) (2 ^ 149) (Q * 0x2000_0000 * 2 ^ (c + 724)) (2 ^ 1074) (pow_pos 149)
        (ap (λ (y : ℕ). y * 2 ^ 149) (mul_assoc Q (2 ^ 29) (2 ^ (c + 724))) ∙ mul_assoc Q (2 ^ 29 * 2 ^ (c + 724)) (2 ^ 149)
        ∙ ap (λ (y : ℕ). Q * y) (ap (λ (y : ℕ). y * 2 ^ 149) (sym (pow-add 2 29 (c + 724))) ∙ sym (pow-add 2 (29 + (c + 724)) 149) ∙ ap (λ (y : ℕ). 2 ^ y) (place c clo) ∙ pow-add 2 (c - 172) 1074)
        ∙ sym (mul_assoc Q (2 ^ (c - 172)) (2 ^ 1074)))
        v32 in
        let f : T (fits binary32 v) = units_fits t Q (c - 172) qhi l in
        let n : T (not (is_nan v)) = not_nan_of v t _ _ v32 in
        let p : dropped (to_bits binary64 x) ≡ to_bits binary64 v = a.0 ∙ sym (bits_at v t (Q * 0x2000_0000) (c + 724) (omega arith) (omega arith) v64) in
        let e : rounded x ≡ v = ap (of_bits binary64) p ∙ of_bits-to_bits binary64 v (fits_widens v f) in
        record {
          rounds = record {
            real = not_nan_of x t _ _ h;
            still = rw (nan_bits_is binary64 (dropped (to_bits binary64 x)), e) n;
            single = rw e (and_i (fits binary32 v) (not (is_nan v)) f n);
          };
          is = λ i.
              let m = no_tie N (λ z. i (a.1 ∙ z)) in
              e ∙ ap (λ (y : ℕ). units binary32 t y (c - 172)) (sym m.1 ∙ twice m.0) ∙ sym (second t D c lo hi cl clo);
          sign = t;
          Q = Q;
          k = c - 172;
          value = rw e v32;
          from = omega arith;
          under = le_trans (mul-le-mul_right (2 ^ (c - 172 + 149)) qhi) (subst (λ (y : ℕ). y ≤ 2 ^ suc c) (pow-add 2 24 (c - 172 + 149)) (pow_mono (least c clo)));
        }
      where
        under : (c : ℕ) → c ≤ 424 → 24 + (c - 172) < 277
        under c h = omega arith

        place : (c : ℕ) → 172 ≤ c → 29 + (c + 724) + 149 ≡ c - 172 + 1074
        place c h = omega arith

        least : (c : ℕ) → 172 ≤ c → 24 + (c - 172 + 149) ≤ suc c
        least c h = omega arith

no_units : (w b : ℕ) → (0 ≡ 0 * 2 ^ w * 1) × (w ≤ w + 172) × (0 * 2 ^ (w + 149) ≤ 2 ^ b)
no_units w b = (omega arith, omega arith, omega arith)

settled-zero : (t : Bool) (w b : ℕ) → Settled w b (round binary64 t 0 (2 ^ 298)) (round binary32 t 0 (2 ^ 298))
unfolding rounded round of_bits to_bits is_nan nan_bits fits
settled-zero true w b =
    let n = no_units w b in
    record { rounds = record { real = tt; still = tt; single = tt }; is = λ i. refl; sign = true; Q = 0; k = w; value = (refl, n.0); from = n.1; under = n.2 }
settled-zero false w b =
    let n = no_units w b in
    record { rounds = record { real = tt; still = tt; single = tt }; is = λ i. refl; sign = false; Q = 0; k = w; value = (refl, n.0); from = n.1; under = n.2 }

-- ---- zero, or 2 ^ w at least
settled : (t : Bool) (D w b : ℕ) → 172 ≤ w → b ≤ 425 → (D ≡ 0) ⊎ (2 ^ w ≤ D) → D < 2 ^ b → Settled w b (round binary64 t D (2 ^ 298)) (round binary32 t D (2 ^ 298))
settled t D w b lo hi (inl e) h = rw e (settled-zero t w b)
settled t D w b lo hi (inr d) h =
    let z = size D in
    let up : D < 2 ^ suc (z - 1) = subst (λ (x : ℕ). D < 2 ^ x) (pred z (size_gt D 0 (lt_of_lt_of_le (pow_pos w) d))) (size-lt D) in
    let reach : 2 ^ (z - 1) ≤ D = size_reaches D (z - 1) (omega (arith, size_gt D 0 (lt_of_lt_of_le (pow_pos w) d))) in
    let wl : w < suc (z - 1) = pow-back w (suc (z - 1)) (lt_of_le_of_lt d up) in
    let bl : z - 1 < b = pow-back (z - 1) b (lt_of_le_of_lt reach h) in
    wider (omega arith) bl (settled_at t D (z - 1) reach up (omega arith) (omega arith))
  where
    pred : (z : ℕ) → 0 < z → z ≡ suc (z - 1)
    pred z p = omega arith

-- ---- a sum of two multiples of 2 ^ w
pub settled-sum : (X Y w b : ℕ) → 172 ≤ w → b ≤ 424 → X * 2 ^ w < 2 ^ b → Y * 2 ^ w < 2 ^ b → (s t : Bool)
    → Settled w (suc b) (sum binary64 s (X * 2 ^ w) t (Y * 2 ^ w) (2 ^ 298)) (sum binary32 s (X * 2 ^ w) t (Y * 2 ^ w) (2 ^ 298))
settled-sum X Y w b lo hi xl yl s t =
    let r = one_rounding s (X * 2 ^ w) t (Y * 2 ^ w) (2 ^ 298) in
    let m = multiple_of X Y w r in
    rw (r.is binary64, r.is binary32, m.is)
    (settled r.sign (m.E * 2 ^ w) w (suc b) lo (omega arith) (zero-or_more m.E w) (lt_of_le_of_lt (le_trans (mul-le-mul_right (2 ^ w) m.under) (le_of_eq (add-mul X Y (2 ^ w)))) (add-lt-pow b xl yl)))
