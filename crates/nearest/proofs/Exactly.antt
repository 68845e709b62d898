-- Each fraction has exactly one nearest whole number, halves upward, and `byte_of` is that number held within 0 to 255.
-- The difference of two whole numbers is named, so that `omega` sees its products with the divisor as atoms.
use Prim.Native.Nat.{ℕ, ◌+◌, ◌-◌, ◌*◌, ◌/◌, ◌≤◌, ◌<◌, min}
use mathlib.Core.Path.{◌≡◌, sym, ap, ◌∙◌}
use mathlib.Core.Logic.{◌↔◌, ◌⊎◌, inl, inr}
use native.Mathlib.Nat.{div-eq_of_lt-le, eq-zero-or-pos, mul-div-le, lt-mul-div-succ}
use native.Mathlib.Omega.{arith}
use Rattle.nearest.specs.Nearest.{ByteOf, Fraction, Nearest, held, byte_of}

-- there is one: the whole part of (a + q*b - b)/q + 1/2, less b
pub nearest-some : (f : Fraction) → 0 < f.over → Nearest f ((2 * (f.plus + f.over * f.minus) + f.over - 2 * f.minus) / (2 * f.over)) f.minus
nearest-some f h =
    let a = f.plus in
    let b = f.minus in
    let q = f.over in
    let p = 2 * (a + q * b) + q - 2 * b in
    let d : 0 < 2 * q = omega arith in
    let l : b ≤ q * b = omega (arith, le-mul q b h) in
    let low = mul-div-le p (2 * q) in
    let high = lt-mul-div-succ p d in
    record { from = omega arith; below = omega arith }
  where
    le-mul : (q b : ℕ) → 0 < q → b ≤ q * b
    le-mul q b h = let k = q - 1 in let e : q ≡ k + 1 = omega arith in omega (arith, ap (λ (x : ℕ). x * b) e)

-- and no other
pub nearest-one : (f : Fraction) (n m n' m' : ℕ) → Nearest f n m → Nearest f n' m' → n + m' ≡ n' + m
nearest-one f n m n' m' s t = omega (arith, not-less f n m n' m' s t, not-less f n' m' n m t s)
  where
    not-less : (f : Fraction) (n m n' m' : ℕ) → Nearest f n m → Nearest f n' m' → n' + m ≤ n + m'
    not-less f n m n' m' s t = by (eq-zero-or-pos (n' + m - (n + m')))
      where
        by : (n' + m - (n + m') ≡ 0) ⊎ (0 < n' + m - (n + m')) → n' + m ≤ n + m'
        by (inl h) = omega arith
        by (inr h) =
            let q = f.over in
            let k = n' + m - (n + m' + 1) in
            let e : n' + m ≡ n + m' + 1 + k = omega arith in
            absurd (omega (arith, ap (λ (x : ℕ). q * x) e))

-- the byte is that number, held
pub byte-nearest : (f : Fraction) (n m : ℕ) → Nearest f n m → byte_of f ≡ held n m
unfolding byte_of
byte-nearest f n m s = by (eq-zero-or-pos (m - n))
  where
    by : (m - n ≡ 0) ⊎ (0 < m - n) → min 255 ((2 * f.plus + f.over - 2 * f.minus) / (2 * f.over)) ≡ min 255 (n - m)
    by (inl h) =
        let q = f.over in
        let k = n - m in
        let e : n ≡ m + k = omega arith in
        let p = ap (λ (x : ℕ). q * x) e in
        ap (min 255) (div-eq_of_lt-le (2 * q) (omega (arith, p)) (omega (arith, p)))
    by (inr h) =
        let q = f.over in
        let k = m - (n + 1) in
        let e : m ≡ n + 1 + k = omega arith in
        let z : n - m ≡ 0 = omega arith in
        ap (min 255) (div-eq_of_lt-le (2 * q) (omega arith) (omega (arith, ap (λ (x : ℕ). q * x) e)) ∙ sym z)

pub byte-exactly : (f : Fraction) → 0 < f.over → (b : ℕ) → (b ≡ byte_of f) ↔ ByteOf f b
byte-exactly f h b =
    let some = nearest-some f h in
    (λ e. record { n = _; m = _; nearest = some; is = e ∙ byte-nearest f _ _ some }, λ r. r.is ∙ sym (byte-nearest f r.n r.m r.nearest))

pub within : (f : Fraction) → byte_of f ≤ 255
unfolding byte_of
within f = omega arith

-- a fraction that is itself a byte
pub byte-whole : (f : Fraction) (b : ℕ) → 0 < f.over → b ≤ 255 → f.plus ≡ f.over * b + f.minus → byte_of f ≡ b
byte-whole f b h l e = let k : held b 0 ≡ b = omega arith in byte-nearest f b 0 (record { from = omega arith; below = omega arith }) ∙ k
