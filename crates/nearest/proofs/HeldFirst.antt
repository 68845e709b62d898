-- A fraction that is held within 0 to 255 before it is rounded has the same byte: only the rule for halves above zero can be seen in a byte.
-- What is nearest the held fraction is the nearest number held, in each of the three places where that may lie.
use Prim.Native.Nat.{ℕ, ◌+◌, ◌-◌, ◌*◌, ◌≤◌, ◌<◌, min}
use mathlib.Core.Path.{◌≡◌, ap, sym, ◌∙◌}
use mathlib.Core.Logic.{◌⊎◌, inl, inr}
use native.Mathlib.Nat.{eq-zero-or-pos, mul-le-mul_left}
use native.Mathlib.Omega.{arith}
use Rattle.nearest.specs.Nearest.{Fraction, Nearest, ⟨◌-◌⟩/◌, byte_of, held}
use Rattle.nearest.proofs.Exactly.{byte-nearest, nearest-some}

-- the fraction held within 0 to 255: ℕ's `-` stops at 0
abbrev pub held_fraction : Fraction → Fraction
held_fraction f = ⟨ min (f.plus - f.minus) (255 * f.over) - 0 ⟩/ f.over

pub held_first : (f : Fraction) → 0 < f.over → byte_of (held_fraction f) ≡ byte_of f
held_first f h =
    let m = f.minus in
    let s = nearest-some f h in
    by _ m s (eq-zero-or-pos (_ - m)) (eq-zero-or-pos (_ - m - 255))
  where
    q : ℕ
    q = f.over

    -- the held fraction's nearest number is k
    to : (n m k : ℕ) → Nearest f n m → k ≡ held n m → Nearest (held_fraction f) k 0 → byte_of (held_fraction f) ≡ byte_of f
    to n m k s e t = let z : held k 0 ≡ k = omega arith in byte-nearest (held_fraction f) k 0 t ∙ z ∙ e ∙ sym (byte-nearest f n m s)

    by : (n m : ℕ) → Nearest f n m → (n - m ≡ 0) ⊎ (0 < n - m) → (n - m - 255 ≡ 0) ⊎ (0 < n - m - 255) → byte_of (held_fraction f) ≡ byte_of f
    by n m s (inl l) g =
        let p : q * n ≤ q * m = mul-le-mul_left q (omega arith) in
        let x = s.below in
        to n m 0 s (omega arith) (record { from = omega arith; below = omega arith })
    by n m s (inr l) (inl g) =
        let k = n - m in
        let e : n ≡ m + k = omega arith in
        let p = ap (λ (x : ℕ). q * x) e in
        let u : q * k ≤ q * 255 = mul-le-mul_left q (omega arith) in
        let x = s.from in
        let y = s.below in
        to n m k s (omega arith) (record { from = omega arith; below = omega arith })
    by n m s (inr l) (inr g) =
        let p : q * (m + 256) ≤ q * n = mul-le-mul_left q (omega arith) in
        let x = s.from in
        to n m 255 s (omega arith) (record { from = omega arith; below = omega arith })
