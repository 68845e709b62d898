-- In f64 the product of a clipped f32 and 255 is exact, and its sum with 2 ^ 52 has the pattern of 2 ^ 52 plus the whole number nearest the product.
-- The product has at most 32 digits. From 2 ^ 52 to 2 ^ 53 the last of an f64's 53 digits is that of the ones, so that rounding there is `closest`.
use Prim.Native.Nat.{ℕ, zero, suc, ◌+◌, ◌-◌, ◌*◌, ◌/◌, ◌^◌, ◌≤◌, ◌<◌}
use mathlib.Core.Path.{◌≡◌, refl, sym, ap, subst, ◌∙◌}
use mathlib.Core.Bool.{Bool, true, false, not, cond, true≢false, false≢true}
use native.Mathlib.Nat.{div-lt_iff_lt-mul, le-div_iff_mul-le, le_of_eq, le_trans, lt_of_lt_of_le, mul_assoc, mul-div_cancel, mul-le-mul_right}
use native.Mathlib.Nat.{mul-lt-mul_of_pos_right, mul-mul-mul_comm, mul-pos, mul_right_comm}
use native.Mathlib.Omega.{arith}
use borrow.Author.Tests.{lt-ltb}
use lib.Dec.{T, ltb}
use lib.IntN.{ℤ}
use lib.Pow.{pow-add, pow_mono, pow_pos, shl_lt}
use lib.Ieee.{Float, nan, inf, fin, binary32, binary64, up, down, size, round, sum, mul, add, fits, is_nan, of_bits, to_bits}
use lib.Ieee.Exact.{HasValue, round_exact}
use lib.Ieee.Fits.{down_pos}
use lib.Ieee.Nearest.{closest, closest_same}
use lib.Ieee.Scale.{grid, round_same, round_val}
use Rattle.binary32.proofs.Count.{units_of}
use Rattle.binary32.proofs.Size.{size_exact}
use Rattle.screen_bytes.proofs.Byte.{byte-within}
use Rattle.screen_bytes.proofs.Clipped.{Clipped, clipped-le, none}
use Rattle.screen_bytes.proofs.Closest.{closest_exactly, closest_nearest}
use Rattle.screen_bytes.specs.Screen.{Nearest, nearest_byte}

-- 255, and 2 ^ 52 twice
abbrev full : Float
full = of_bits binary64 0x406f_e000_0000_0000

abbrev place : Float
place = of_bits binary64 0x4330_0000_0000_0000

abbrev far : ℕ
far = 0x10_0000_0000_0000

abbrev pub summed : Float → Float
summed v = add binary64 (mul binary64 v full) place

-- ---- the product
exact : (s : Bool) (m : ℕ) (e : ℤ) → T (fits binary32 (fin s m e))
    → HasValue (round binary64 s (m * up e * 255) (down e * 1)) s (m * up e * 255) (down e * 1)
exact s m e f =
    let u = units_of s m e f in
    let j = u.j in
    let q : m * 255 * 2 ^ (j + 925) ≡ m * 2 ^ j * 255 * 2 ^ 925 =
    ap (λ (x : ℕ). m * 255 * x) (pow-add 2 j 925) ∙ spread m (2 ^ j) (2 ^ 925) in
    let n : m * up e * 255 * 2 ^ 1074 ≡ m * 2 ^ j * 255 * 2 ^ 925 * (down e * 1) =
    ap (λ (x : ℕ). m * up e * 255 * x) (pow-add 2 149 925) ∙ together (m * up e) (m * 2 ^ j) (down e) (2 ^ 149) (2 ^ 925) u.same in
    round_exact binary64 s (m * up e * 255) (down e * 1) (m * 255) (j + 925) (mul-pos (down_pos e) (pow_pos 0)) (few m u.digits)
    (rw q (lt_of_lt_of_le (shl_lt 285 925 (more (m * 2 ^ j) (2 ^ 277) u.under)) (pow_mono {i = 1210} {j = 2098} (omega arith))))
    (n ∙ ap (λ (x : ℕ). x * (down e * 1)) (sym q))
  where
    spread : (m p q : ℕ) → m * 255 * (p * q) ≡ m * p * 255 * q
    spread m p q = omega arith

    few : (m : ℕ) → m < 0x100_0000 → m * 255 < 2 * far
    few m h = omega arith

    more : (x p : ℕ) → x < p → x * 255 < p * 256
    more x p h = omega arith

    together : (a b d p q : ℕ) → a * p ≡ b * d → a * 255 * (p * q) ≡ b * 255 * q * (d * 1)
    together a b d p q h = mul-mul-mul_comm a 255 p q ∙ ap (λ (x : ℕ). x * (255 * q)) h ∙ omega arith

product : (s : Bool) (m : ℕ) (e : ℤ) → T (fits binary32 (fin s m e)) → HasValue (mul binary64 (fin s m e) full) s (m * up e * 255) (down e * 1)
unfolding mul of_bits
product true m e f = exact true m e f
product false m e f = exact false m e f

-- ---- the sum; its exact value is that of a / c + 2 ^ 52
nothing : (x c : ℕ) → 0 < c → x * c ≡ 0 → x ≡ 0
nothing zero c p h = refl
nothing (suc x) c p h = absurd (omega arith)

added : (v : Float) (s : Bool) (a c : ℕ) → 0 < c → HasValue v s a c → (s ≡ true → a ≡ 0) → add binary64 v place ≡ round binary64 false (a + far * c) c
unfolding add sum of_bits
added nan s a c p h n = absurd h
added (inf t) s a c p h n = absurd h
added (fin false m e) s a c p h n =
    round_same binary64 false (m * up e * 1 + far * down e) (down e * 1) (a + far * c) c (mul-pos (down_pos e) (pow_pos 0)) p
    (sums (m * up e) a c (down e) h.1)
  where
    sums : (x a c d : ℕ) → x * c ≡ a * d → (x * 1 + far * d) * c ≡ (a + far * c) * (d * 1)
    sums x a c d h = omega arith
added (fin true m e) s a c p h n =
    let z : a ≡ 0 = n (sym h.0) in
    let x : m * up e ≡ 0 = nothing (m * up e) c p (h.1 ∙ none a (down e) z) in
    let b = far * down e in
    let y = m * up e * 1 in
    let d = down e * 1 in
    let w = down_pos e in
    ap (λ (t : Bool). cond t (round binary64 false (b - y) d) (round binary64 (ltb b y) (y - b) d)) (lt-ltb y b (omega arith))
    ∙ round_same binary64 false (b - y) d (a + far * c) c (mul-pos w (pow_pos 0)) p (sums (m * up e) a c (down e) x z)
  where
    less : (x d : ℕ) → x ≡ 0 → far * d - x * 1 ≡ far * d
    less x d h = omega arith

    sums : (x a c d : ℕ) → x ≡ 0 → a ≡ 0 → (far * d - x * 1) * c ≡ (a + far * c) * (d * 1)
    sums x a c d p q = ap (λ (y : ℕ). y * c) (less x d p) ∙ rw q (omega arith)

-- ---- its rounding
-- a number of units with 53 digits before the last 1,074
units_size : (n : ℕ) → far * 2 ^ 1074 ≤ n → n < 2 * far * 2 ^ 1074 → size n ≡ 1127
units_size n lo hi = size_exact 1126 n (le_trans (le_of_eq (pow-add 2 52 1074)) lo) (lt_of_lt_of_le hi (le_of_eq (sym (pow-add 2 53 1074))))

next : (b : ℕ) → b ≤ 255 → far + b < 2 * far
next b h = omega arith

shifted : (a c b : ℕ) → Nearest a c b → Nearest (a + far * c) c (far + b)
shifted a c b h = record { near = let k = h.near in omega arith; even = λ e. let k = h.even (omega arith) in omega arith }

module _ (a c : ℕ) (p : 0 < c) (h : a ≤ 255 * c) where
  rounded : grid binary64 (a + far * c) c ≡ (far + closest a c) * 2 ^ 1074
  rounded =
      let n = a + far * c in
      let z : size (n * 2 ^ 1074 / c) ≡ 1127 =
      units_size (n * 2 ^ 1074 / c)
      ((le-div_iff_mul-le p).1 (le_trans (le_of_eq (mul_right_comm far (2 ^ 1074) c)) (mul-le-mul_right (2 ^ 1074) (least a c))))
      ((div-lt_iff_lt-mul p).1 (lt_of_lt_of_le (mul-lt-mul_of_pos_right (most a c p h) (pow_pos 1074)) (le_of_eq (mul_right_comm (2 * far) c (2 ^ 1074))))) in
      ap (λ (k : ℕ). closest (n * 2 ^ 1074) (c * 2 ^ (k - 53)) * 2 ^ (k - 53)) z
      ∙ ap (λ (k : ℕ). k * 2 ^ 1074)
      (closest_same (n * 2 ^ 1074) (c * 2 ^ 1074) n c (mul-pos p (pow_pos 1074)) p (mul_right_comm n (2 ^ 1074) c ∙ mul_assoc n c (2 ^ 1074))
      ∙ sym ((closest_exactly n c (far + closest a c) p).1 (shifted a c (closest a c) (closest_nearest a c p))))
    where
      least : (a c : ℕ) → far * c ≤ a + far * c
      least a c = omega arith

      most : (a c : ℕ) → 0 < c → a ≤ 255 * c → a + far * c < 2 * far * c
      most a c p h = omega arith

  sum-value : closest a c ≤ 255 → HasValue (round binary64 false (a + far * c) c) false ((far + closest a c) * 2 ^ 1074) (2 ^ 1074)
  sum-value l =
      subst (λ (x : ℕ). HasValue (round binary64 false (a + far * c) c) false x (2 ^ 1074)) rounded
      (round_val binary64 (a + far * c) c
      (subst (λ (x : ℕ). x < 2 ^ 2098) (sym rounded) (lt_of_lt_of_le (shl_lt 53 1074 (next (closest a c) l)) (pow_mono {i = 1127} {j = 2098} (omega arith)))))

-- ---- its pattern
pattern-of : (w : Float) (b : ℕ) → b ≤ 255 → HasValue w false ((far + b) * 2 ^ 1074) (2 ^ 1074)
    → (to_bits binary64 w ≡ 0x4330_0000_0000_0000 + b) × T (not (is_nan w))
unfolding to_bits is_nan
pattern-of nan b l h = absurd h
pattern-of (inf t) b l h = absurd h
pattern-of (fin true m e) b l h = absurd (true≢false h.0)
pattern-of (fin false m e) b l h =
    let n = (far + b) * 2 ^ 1074 in
    let u : m * up e * 2 ^ 1074 / down e ≡ n = ap (λ (x : ℕ). x / down e) h.1 ∙ mul-div_cancel n (down_pos e) in
    let z : size n ≡ 1127 =
    units_size n (mul-le-mul_right (2 ^ 1074) (least b)) (mul-lt-mul_of_pos_right (next b l) (pow_pos 1074)) in (
      ap (λ (x : ℕ). 0 + (size x - 53) * far + x / 2 ^ (size x - 53)) u
          ∙ ap (λ (k : ℕ). 0 + (k - 53) * far + n / 2 ^ (k - 53)) z
          ∙ ap (λ (x : ℕ). 0 + 1074 * far + x) (mul-div_cancel (far + b) (pow_pos 1074))
          ∙ sums b,
      tt,
    )
  where
    least : (b : ℕ) → far ≤ far + b
    least b = omega arith

    sums : (b : ℕ) → 0 + 1074 * far + (far + b) ≡ 0x4330_0000_0000_0000 + b
    sums b = omega arith

-- ---- together
pub sum-pattern : (v : Float) → T (fits binary32 v) → T (not (is_nan v)) → Clipped v
    → (to_bits binary64 (summed v) ≡ 0x4330_0000_0000_0000 + nearest_byte v) × T (not (is_nan (summed v)))
unfolding is_nan
sum-pattern nan f n c = absurd n
sum-pattern (inf s) f n c = absurd c
sum-pattern (fin s m e) f n c =
    let a = m * up e * 255 in
    let d = down e * 1 in
    let p : 0 < d = mul-pos (down_pos e) (pow_pos 0) in
    let h : m * up e ≤ down e = clipped-le s m e c in
    let k : closest a d ≡ closest a (down e) = closest_same a d a (down e) p (down_pos e) (omega arith) in
    let l : closest a d ≤ 255 = le_trans (le_of_eq k) (byte-within (fin s m e) c) in
    let g : add binary64 (mul binary64 (fin s m e) full) place ≡ round binary64 false (a + far * d) d =
    added (mul binary64 (fin s m e) full) s a d p (product s m e f) (no_digits s c) in
    let w = pattern-of (round binary64 false (a + far * d) d) (closest a d) l (sum-value a d p (omega arith) l) in
    rw (g, ← k) w
  where
    no_digits : (s : Bool) → Clipped (fin s m e) → s ≡ true → m * up e * 255 ≡ 0
    no_digits true c h = none (m * up e) 255 (none m (up e) c)
    no_digits false c h = absurd (false≢true h)
