-- The ties of T.871, all of them: red has none, blue has one where Cb is 3 or 253, and green where Cb and Cr are 78 and 178, or 178 and 78.
-- A tie is an equation over whole numbers, which leaves one remainder; for green Cb + Cr is 256 first, since both factors leave 80 by 587.
use Prim.Native.Nat.{ℕ, ◌+◌, ◌-◌, ◌*◌, ◌≤◌, ◌<◌}
use mathlib.Core.Path.{◌≡◌, ap, sym}
use mathlib.Core.Logic.{◌↔◌, ◌⊎◌, inl, inr}
use native.Mathlib.Nat.{eq-zero-or-pos}
use native.Mathlib.Omega.{arith}
use Rattle.nearest.specs.Nearest.{Tie}
use Rattle.ycbcr_weights.specs.declared.Pixel.{Pixel}
use Rattle.ycbcr_weights.specs.Weights.{t871}
use Rattle.ycbcr_weights.specs.Rgb.{Bytes, red_at, green_at, blue_at}

-- what is left by a divisor
pub remainder : (q x r a b : ℕ) → x < q → r < q → x + q * a ≡ r + q * b → x ≡ r
remainder q x r a b h k e = by (eq-zero-or-pos (a - b)) (eq-zero-or-pos (b - a))
  where
    apart : (a b x r : ℕ) → x < q → a < b → x + q * a ≡ r + q * b → ⊥
    apart a b x r h l e =
        let d = b - (a + 1) in
        let f : b ≡ a + 1 + d = omega arith in
        omega (arith, ap (λ (z : ℕ). q * z) f)

    by : (a - b ≡ 0) ⊎ (0 < a - b) → (b - a ≡ 0) ⊎ (0 < b - a) → x ≡ r
    by (inl l) (inl g) = let f : a ≡ b = omega arith in omega (arith, ap (λ (z : ℕ). q * z) f)
    by (inl l) (inr g) = absurd (apart a b x r h (omega arith) e)
    by (inr l) g = absurd (apart b a r x k (omega arith) (sym e))

-- a number that lies k times q up, from its remainder r by q
found : (q k x r a b : ℕ) → q * k ≤ x → x < q * k + q → r < q → x + q * a ≡ r + q * b → x ≡ r + q * k
found q k x r a b low high h e = omega (arith, remainder q (x - q * k) r (a + k) b (omega arith) h (omega arith))

module _ (p : Pixel) (b : Bytes p) where
  pub red-has-none : ¬ Tie (red_at t871 p)
  red-has-none t =
      let h = t.half in
      let x = b.third in
      let e : p.c2 ≡ 378 = remainder 500 p.c2 378 (422 * p.c2 + 301 * (p.c1 + t.m)) (301 * t.n + 54166) (omega arith) (omega arith) (omega arith) in
      omega arith

  pub blue-ties : Tie (blue_at t871 p) ↔ ((p.c0 ≡ 3) ⊎ (p.c0 ≡ 253))
  blue-ties = (λ t. first t (eq-zero-or-pos (p.c0 - 249)), second)
    where
      by-250 : (t : Tie (blue_at t871 p)) → p.c0 + 250 * (101 * p.c0 + 57 * (p.c1 + t.m)) ≡ 3 + 250 * (57 * t.n + 12957)
      by-250 t = let h = t.half in omega arith

      first : Tie (blue_at t871 p) → (p.c0 - 249 ≡ 0) ⊎ (0 < p.c0 - 249) → (p.c0 ≡ 3) ⊎ (p.c0 ≡ 253)
      first t (inl l) = inl (found 250 0 p.c0 3 _ _ (omega arith) (omega arith) (omega arith) (by-250 t))
      first t (inr l) = let x = b.first in inr (found 250 1 p.c0 3 _ _ (omega arith) (omega arith) (omega arith) (by-250 t))

      second : (p.c0 ≡ 3) ⊎ (p.c0 ≡ 253) → Tie (blue_at t871 p)
      second (inl e) = record { n = p.c1; m = 222; half = omega arith }
      second (inr e) = record { n = p.c1 + 221; m = 0; half = omega arith }

  pub green-ties : Tie (green_at t871 p) ↔ (((p.c0 ≡ 78) × (p.c2 ≡ 178)) ⊎ ((p.c0 ≡ 178) × (p.c2 ≡ 78)))
  green-ties = (λ t. first t (eq-zero-or-pos (p.c0 - 99)) (eq-zero-or-pos (p.c0 - 199)), second)
    where
      sum : Tie (green_at t871 p) → p.c0 + p.c2 ≡ 256
      sum t =
          let h = t.half in
          let x = b.first in
          let z = b.third in
          remainder 587 (p.c0 + p.c2) 256 (22000 * (p.c1 + t.m) + 2969096) (22000 * t.n + 7571 * p.c0 + 15711 * p.c2) (omega arith) (omega arith) (omega arith)

      by-100 : (t : Tie (green_at t871 p)) → p.c0 + 100 * (27 * p.c0 + 73 * (p.c1 + t.m)) ≡ 78 + 100 * (73 * t.n + 3493)
      by-100 t = let h = t.half in let s = sum t in omega arith

      first : Tie (green_at t871 p) → (p.c0 - 99 ≡ 0) ⊎ (0 < p.c0 - 99) → (p.c0 - 199 ≡ 0) ⊎ (0 < p.c0 - 199) → ((p.c0 ≡ 78) × (p.c2 ≡ 178)) ⊎ ((p.c0 ≡ 178) × (p.c2 ≡ 78))
      first t (inl l) g =
          let s = sum t in
          let e : p.c0 ≡ 78 = found 100 0 p.c0 78 _ _ (omega arith) (omega arith) (omega arith) (by-100 t) in
          inl (e, omega arith)
      first t (inr l) (inl g) =
          let s = sum t in
          let e : p.c0 ≡ 178 = found 100 1 p.c0 78 _ _ (omega arith) (omega arith) (omega arith) (by-100 t) in
          inr (e, omega arith)
      first t (inr l) (inr g) =
          let x = b.first in
          let e : p.c0 ≡ 278 = found 100 2 p.c0 78 _ _ (omega arith) (omega arith) (omega arith) (by-100 t) in
          absurd (omega arith)

      second : ((p.c0 ≡ 78) × (p.c2 ≡ 178)) ⊎ ((p.c0 ≡ 178) × (p.c2 ≡ 78)) → Tie (green_at t871 p)
      second (inl e) = let x = e.0 in let z = e.1 in record { n = p.c1; m = 19; half = omega arith }
      second (inr e) = let x = e.0 in let z = e.1 in record { n = p.c1 + 18; m = 0; half = omega arith }
