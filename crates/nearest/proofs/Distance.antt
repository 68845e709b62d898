-- How far a byte lies from its fraction: at most a half, where the fraction lies within -1/2 and 255 1/2; and at most one from a byte that lies less
-- than 3/2 from the fraction. Both from the quotient t: 2qt ≤ p < 2q(t + 1).
use Prim.Native.Nat.{ℕ, ◌+◌, ◌-◌, ◌*◌, ◌/◌, ◌≤◌, ◌<◌, min}
use mathlib.Core.Path.{◌≡◌, ap}
use mathlib.Core.Logic.{◌⊎◌, inl, inr}
use native.Mathlib.Nat.{eq-zero-or-pos, lt-mul-div-succ, lt_of_mul-lt-mul_left, mul-div-le}
use native.Mathlib.Omega.{arith}
use Rattle.nearest.specs.Nearest.{Fraction, byte_of}

-- the whole number r lies at most a half from f
pub record Half (f : Fraction) (r : ℕ) : Type 0 where
  pub above : 2 * (f.over * r) + 2 * f.minus ≤ 2 * f.plus + f.over
  pub under : 2 * f.plus ≤ 2 * (f.over * r) + 2 * f.minus + f.over

module _ (f : Fraction) (z : 0 < f.over) where
  abbrev q : ℕ
  q = f.over

  abbrev p : ℕ
  p = 2 * f.plus + q - 2 * f.minus

  abbrev t : ℕ
  t = p / (2 * q)

  low : 2 * q * t ≤ p
  low = mul-div-le p (2 * q)

  high : p < 2 * q * (t + 1)
  high = let d : 0 < 2 * q = omega arith in lt-mul-div-succ p d

  pub byte-half : 2 * f.minus ≤ 2 * f.plus + f.over → 2 * f.plus ≤ 2 * f.minus + 511 * f.over → Half f (byte_of f)
  unfolding byte_of
  byte-half l u = by (eq-zero-or-pos (t - 255))
    where
      by : (t - 255 ≡ 0) ⊎ (0 < t - 255) → Half f (min 255 t)
      by (inl h) = let e : min 255 t ≡ t = omega arith in rw e (record { above = omega (arith, low); under = omega (arith, high) })
      by (inr h) =
          let e : min 255 t ≡ 255 = omega arith in
          let k = t - 256 in
          let s : t ≡ 256 + k = omega arith in
          rw e (record { above = omega (arith, low, ap (λ (x : ℕ). q * x) s); under = omega arith })

  pub byte_one : (r : ℕ) → r ≤ 255 → 2 * (f.over * r) + 2 * f.minus ≤ 2 * f.plus + 3 * f.over → 2 * f.plus < 2 * (f.over * r) + 2 * f.minus + 3 * f.over → (byte_of f ≤ r + 1) × (r ≤ byte_of f + 1)
  unfolding byte_of
  byte_one r b l u =
      let m : t < r + 2 = lt_of_mul-lt-mul_left (2 * q) (omega (arith, low)) in
      let n : r < t + 2 = lt_of_mul-lt-mul_left (2 * q) (omega (arith, high)) in
      omega arith
