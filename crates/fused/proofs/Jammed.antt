-- A sum or a difference whose smaller part was jammed.
-- A jammed part is exact, or odd with the exact one strictly between its neighbours; either way the sum rounds the same.
use mathlib.Core.Path.{ap, refl, sym, ◌∙◌, ◌≡◌}
use mathlib.Core.Logic.{inl, inr}
use mathlib.Core.Bool.{Bool, false, not}
use Prim.Native.Nat.{◌%◌, ◌*◌, ◌+◌, ◌-◌, ◌/◌, ◌<◌, ◌^◌, suc, zero, ℕ, ◌≤◌}
use native.Mathlib.Nat.{add-mul, le_of_eq, le_of_lt, le_trans, lt_of_le_of_lt, lt_of_lt_of_le, mul_assoc, mul-le-mul_left, mul_left_comm, mul-lt-mul_of_pos_right, mul-one, one-mul}
use native.Mathlib.Omega.{arith}
use lib.Arith.{lt_of_le-ne}
use lib.Pow.{pow-add, pow_mono, pow_pos}
use lib.Ieee.{binary32, round, sum}
use Rattle.rounding.proofs.Rounding.{round_sticky}
use Rattle.rounding.proofs.Sums.{sub-mul, sum_more, sum-none}
use Rattle.fused.specs.Steps.{Jammed, sized}

-- ---- an odd N next to Y / 2 ^ e rounds as Y does
sticky_at : (s : Bool) (N e Y : ℕ) → N % 2 ≡ 1 → 0x400_0001 ≤ N → (N - 1) * 2 ^ e < Y → Y < (N + 1) * 2 ^ e → round binary32 s (N * 2 ^ e) (2 ^ 359) ≡ round binary32 s Y (2 ^ 359)
sticky_at s N e Y o b lo hi =
    let h = N / 2 in
    let E = 2 ^ e in
    let g : h * 2 ^ (1 + e) ≡ 2 * (h * E) = ap (λ (x : ℕ). h * x) (pow-add 2 1 e) ∙ mul_left_comm h 2 E in
    let m : (N - 1) * E ≡ 2 * (h * E) = ap (λ (x : ℕ). x * E) (less N o) ∙ mul_assoc 2 h E in
    let n : N * E ≡ 2 * (h * E) + E = ap (λ (x : ℕ). x * E) (odd N o) ∙ add-mul (2 * h) 1 E ∙ ap (λ (x : ℕ). x + 1 * E) (mul_assoc 2 h E) ∙ ap (λ (x : ℕ). 2 * (h * E) + x) (one-mul E) in
    let p : (N + 1) * E ≡ N * E + E = add-mul N 1 E ∙ ap (λ (x : ℕ). N * E + x) (one-mul E) in
    let G : 2 ^ (1 + e) ≡ 2 * E = pow-add 2 1 e in
    let P : 0 < E = pow_pos e in
    let y : h * 2 ^ (1 + e) + (Y - h * 2 ^ (1 + e)) ≡ Y = sums (h * 2 ^ (1 + e)) Y (rw (g, ← m) (le_of_lt lo)) in
    let z : N * E ≡ h * 2 ^ (1 + e) + E = n ∙ ap (λ (x : ℕ). x + E) (sym g) in
    ap (λ (x : ℕ). round binary32 s x (2 ^ 359)) z
    ∙ round_sticky s h E (Y - h * 2 ^ (1 + e)) (1 + e) 359 (half N b) P (omega arith) (omega arith) (omega arith)
    ∙ ap (λ (x : ℕ). round binary32 s x (2 ^ 359)) y
  where
    less : (N : ℕ) → N % 2 ≡ 1 → N - 1 ≡ 2 * (N / 2)
    less N o = omega arith

    odd : (N : ℕ) → N % 2 ≡ 1 → N ≡ 2 * (N / 2) + 1
    odd N o = omega arith

    half : (N : ℕ) → 0x400_0001 ≤ N → 0x200_0000 ≤ N / 2
    half N h = omega arith

    sums : (a b : ℕ) → a ≤ b → a + (b - a) ≡ b
    sums a b h = omega arith

-- where something is lost the shift is 2 places or more, and w is small
lost-small : (d w v : ℕ) → v % 4 ≡ 0 → v < 0x2000_0000_0000_0000 → w % 2 ≡ 1 → (w - 1) * 2 ^ d < v → v < (w + 1) * 2 ^ d → w ≤ 0x800_0000_0000_0001
lost-small zero w v m b o lo hi = absurd (no lo hi)
  where
    no : (w - 1) * 1 < v → v < (w + 1) * 1 → ⊥
    no a b = omega arith
lost-small (suc zero) w v m b o lo hi = absurd (no lo hi)
  where
    between : (a b : ℕ) → b < a → a < b + 1 → ⊥
    between a b x y = omega arith

    fours : (a b v w : ℕ) → v ≡ 4 * a → w ≡ 2 * b + 1 → (w - 1) * 2 < v → b < a
    fours a b v w p q x = omega arith

    fours' : (a b v w : ℕ) → v ≡ 4 * a → w ≡ 2 * b + 1 → v < (w + 1) * 2 → a < b + 1
    fours' a b v w p q x = omega arith

    four : (v : ℕ) → v % 4 ≡ 0 → v ≡ 4 * (v / 4)
    four v h = omega arith

    two : (w : ℕ) → w % 2 ≡ 1 → w ≡ 2 * (w / 2) + 1
    two w h = omega arith

    no : (w - 1) * 2 < v → v < (w + 1) * 2 → ⊥
    no x y = between (v / 4) (w / 2) (fours (v / 4) (w / 2) v w (four v m) (two w o) x) (fours' (v / 4) (w / 2) v w (four v m) (two w o) y)
lost-small (suc (suc d)) w v m b o lo hi =
    let f : 4 ≤ 2 ^ suc (suc d) = pow_mono (two d) in
    let g : (w - 1) * 4 ≤ (w - 1) * 2 ^ suc (suc d) = mul-le-mul_left (w - 1) f in
    omega arith
  where
    two : (d : ℕ) → 2 ≤ suc (suc d)
    two d = omega arith

exact_small : (d w v u : ℕ) → v < 0x2000_0000_0000_0000 → 0x1000_0000_0000_0000 ≤ u → (d ≡ 0 → v ≤ u) → w * 2 ^ d ≡ v → w ≤ u
exact_small zero w v u b c o e = le_trans (le_of_eq (sym (mul-one w) ∙ e)) (o refl)
exact_small (suc d) w v u b c o e =
    let f : 2 ≤ 2 ^ suc d = pow_mono (one d) in
    let g : w * 2 ≤ w * 2 ^ suc d = mul-le-mul_left w f in
    omega arith
  where
    one : (d : ℕ) → 1 ≤ suc d
    one d = omega arith

-- ---- the sum of u * 2 ^ e and v * 2 ^ f, with v / 2 ^ (e - f) jammed to w
module _ (u v w e f : ℕ) (U : sized u) (W : sized v) (o : f ≤ e) (j : Jammed w v (e - f)) where
  D : ℕ
  D = 2 ^ (e - f)

  F : ℕ
  F = 2 ^ f

  E-is : 2 ^ e ≡ D * F
  unfolding D F
  E-is = ap (λ (x : ℕ). 2 ^ x) (back e f o) ∙ pow-add 2 (e - f) f
    where
      back : (e f : ℕ) → f ≤ e → e ≡ e - f + f
      back e f h = omega arith

  -- where nothing was lost
  exact : w * D ≡ v → w * 2 ^ e ≡ v * 2 ^ f
  unfolding D F
  exact p = ap (λ (x : ℕ). w * x) E-is ∙ sym (mul_assoc w D F) ∙ ap (λ (x : ℕ). x * F) p

  -- where something was
  lost-lo : (w - 1) * D < v → (w - 1) * 2 ^ e < v * 2 ^ f
  unfolding D F
  lost-lo p = lt_of_le_of_lt (le_of_eq (ap (λ (x : ℕ). (w - 1) * x) E-is ∙ sym (mul_assoc (w - 1) D F))) (mul-lt-mul_of_pos_right p (pow_pos f))

  lost-hi : v < (w + 1) * D → v * 2 ^ f < (w + 1) * 2 ^ e
  unfolding D F
  lost-hi p = lt_of_lt_of_le (mul-lt-mul_of_pos_right p (pow_pos f)) (le_of_eq (sym (ap (λ (x : ℕ). (w + 1) * x) E-is ∙ sym (mul_assoc (w + 1) D F))))

  level : (e ≡ f → v ≤ u) → e - f ≡ 0 → v ≤ u
  level g z = g (omega arith)

  pub w_le : (e ≡ f → v ≤ u) → w ≤ u
  unfolding D
  w_le g = elim j.is [
    | inl p ↦ exact_small (e - f) w v u W.1 U.0 (level g) p
    | inr p ↦ le_trans (lost-small (e - f) w v W.2 W.1 p.0 p.1 p.2) (omega (arith, U.0))
  ]

  pub like-sum : (s : Bool) → round binary32 s ((u + w) * 2 ^ e) (2 ^ 359) ≡ round binary32 s (u * 2 ^ e + v * 2 ^ f) (2 ^ 359)
  unfolding D
  like-sum s = elim j.is [
    | inl p ↦ ap (λ (x : ℕ). round binary32 s x (2 ^ 359)) (add-mul u w (2 ^ e) ∙ ap (λ (x : ℕ). u * 2 ^ e + x) (exact p))
    | inr p ↦
        sticky_at s (u + w) e (u * 2 ^ e + v * 2 ^ f) (omega (arith, p.0, U.2)) (omega (arith, U.0))
        (lt_of_le_of_lt (le_of_eq (ap (λ (x : ℕ). x * 2 ^ e) (pre u w p.0) ∙ add-mul u (w - 1) (2 ^ e))) (omega (arith, lost-lo p.1)))
        (lt_of_lt_of_le (add_left (u * 2 ^ e) (v * 2 ^ f) ((w + 1) * 2 ^ e) (lost-hi p.2)) (le_of_eq (sym (ap (λ (x : ℕ). x * 2 ^ e) (post u w) ∙ add-mul u (w + 1) (2 ^ e)))))
  ]
    where
      pre : (u w : ℕ) → w % 2 ≡ 1 → u + w - 1 ≡ u + (w - 1)
      pre u w o = omega arith

      post : (u w : ℕ) → u + w + 1 ≡ u + (w + 1)
      post u w = omega arith

      add_left : (a b c : ℕ) → b < c → a + b < a + c
      add_left a b c h = omega arith

  pub unlike-sum : (s : Bool) → (e ≡ f → v ≤ u) → (u ≡ w → ⊥) → round binary32 s ((u - w) * 2 ^ e) (2 ^ 359) ≡ sum binary32 s (u * 2 ^ e) (not s) (v * 2 ^ f) (2 ^ 359)
  unfolding D
  unlike-sum s g n = elim j.is [
    | inl p ↦
        let B : w * 2 ^ e ≡ v * 2 ^ f = exact p in
        let l : w < u = lt_of_le-ne (w_le g) (λ (x : w ≡ u). n (sym x)) in
        ap (λ (x : ℕ). round binary32 s x (2 ^ 359)) (sub-mul u w (2 ^ e) ∙ ap (λ (x : ℕ). u * 2 ^ e - x) B)
        ∙ sym (sum_more binary32 s (u * 2 ^ e) (v * 2 ^ f) (2 ^ 359) (lt_of_le_of_lt (le_of_eq (sym B)) (mul-lt-mul_of_pos_right l (pow_pos e))))
    | inr p ↦
        let k : w ≤ 0x800_0000_0000_0001 = lost-small (e - f) w v W.2 W.1 p.0 p.1 p.2 in
        let a : u * 2 ^ e ≡ (u - w - 1) * 2 ^ e + (w + 1) * 2 ^ e = ap (λ (x : ℕ). x * 2 ^ e) (one u w U.0 k) ∙ add-mul (u - w - 1) (w + 1) (2 ^ e) in
        let b : u * 2 ^ e ≡ (u - w + 1) * 2 ^ e + (w - 1) * 2 ^ e = ap (λ (x : ℕ). x * 2 ^ e) (two u w p.0 U.0 k) ∙ add-mul (u - w + 1) (w - 1) (2 ^ e) in
        sticky_at s (u - w) e (u * 2 ^ e - v * 2 ^ f) (odd u w U.2 p.0 U.0 k) (omega (arith, U.0)) (omega (arith, lost-hi p.2)) (omega (arith, lost-lo p.1, lost-hi p.2))
        ∙ sym (sum_more binary32 s (u * 2 ^ e) (v * 2 ^ f) (2 ^ 359) (omega (arith, lost-hi p.2)))
  ]
    where
      one : (u w : ℕ) → 0x1000_0000_0000_0000 ≤ u → w ≤ 0x800_0000_0000_0001 → u ≡ u - w - 1 + (w + 1)
      one u w a b = omega arith

      two : (u w : ℕ) → w % 2 ≡ 1 → 0x1000_0000_0000_0000 ≤ u → w ≤ 0x800_0000_0000_0001 → u ≡ u - w + 1 + (w - 1)
      two u w o a b = omega arith

      odd : (u w : ℕ) → u % 4 ≡ 0 → w % 2 ≡ 1 → 0x1000_0000_0000_0000 ≤ u → w ≤ 0x800_0000_0000_0001 → (u - w) % 2 ≡ 1
      odd u w x y a b = omega arith

  -- and where they cancel
  pub none-sum : (s : Bool) → u ≡ w → round binary32 false 0 (2 ^ 359) ≡ sum binary32 s (u * 2 ^ e) (not s) (v * 2 ^ f) (2 ^ 359)
  unfolding D
  none-sum s n = elim j.is [
    | inl p ↦ sym (sum-none binary32 s (u * 2 ^ e) (2 ^ 359)) ∙ ap (λ (x : ℕ). sum binary32 s (u * 2 ^ e) (not s) x (2 ^ 359)) (ap (λ (x : ℕ). x * 2 ^ e) n ∙ exact p)
    | inr p ↦ absurd (no (lost-small (e - f) w v W.2 W.1 p.0 p.1 p.2) n U.0)
  ]
    where
      no : w ≤ 0x800_0000_0000_0001 → u ≡ w → 0x1000_0000_0000_0000 ≤ u → ⊥
      no a b c = omega arith
