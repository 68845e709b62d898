-- From the whole root to the rounded one: a q whose half steps' cubes enclose g * 2 ^ 48 gives the f32 nearest the root.
-- The neighbours of q * 2 ^ w units are at least 2 ^ w away, but for the one below a power of two, where the root is no smaller than q.
use mathlib.Core.Path.{ap, refl, subst, sym, ◌∙◌, ◌≡◌}
use mathlib.Core.Logic.{inl, inr, ◌⊎◌}
use mathlib.Core.Bool.{Bool, beq, false, not, true}
use Prim.Native.Nat.{◌*◌, ◌+◌, ◌-◌, ◌/◌, ◌<◌, ◌^◌, ℕ, ◌≤◌}
use native.Mathlib.Nat.{add-mul, eq-or-lt_of_le, le_of_eq, le_trans, lt_irrefl, mul_assoc, mul-div_cancel, mul-le-mul_right, mul-mul-mul_comm, mul-pos, mul_right_comm, one-mul, sub-le, zero-mul}
use native.Mathlib.Omega.{arith}
use lib.Dec.{T, eqb, eqb→eq, leb, le→leb, not_T}
use lib.IntN.{ℤ}
use lib.Pow.{pow-add, pow_mono, pow_pos}
use lib.Ieee.{Float, down, fin, inf, nan, size, up}
use lib.Ieee.Bits.{is_false}
use lib.Ieee.Exact.{HasValue}
use lib.Ieee.Fits.{and_i, down_pos}
use Rattle.notation.specs.Choice.{when◌then◌else◌}
use Rattle.binary32.proofs.Size.{size_gt}
use Rattle.binary32.specs.Parts.{count}
use Rattle.cbrt.proofs.Cubes.{cube-mono, cube-mul}
use Rattle.cbrt.specs.Root.{above, below, cube, is_root, within}
use Rattle.cbrt.specs.Steps.{Scaled}

room : (w z : ℕ) → 23 + w < z → w ≤ z - 24
room w z h = omega arith

-- with 24 digits or more above w, the gap is 2 ^ w or more
gap : (n w : ℕ) → 2 ^ (23 + w) ≤ n → 2 ^ w ≤ above n
gap n w h = pow_mono (room w (size n) (size_gt n (23 + w) h))

module _ (N q w : ℕ) (q_ge : 0x80_0000 ≤ q) (N-ge : cube 0x100_0000 ≤ N) (lo : cube (2 * q - 1) ≤ N) (hi : N ≤ cube (2 * q + 1)) where
  n-ge : 2 ^ (23 + w) ≤ q * 2 ^ w
  n-ge = le_trans (le_of_eq (pow-add 2 23 w)) (mul-le-mul_right (2 ^ w) q_ge)

  up_to : (x p b : ℕ) → x ≡ q * p → p ≤ b → (2 * q + 1) * p ≤ 2 * x + b
  up_to x p b e h = omega (arith, mul_assoc 2 q p, add-mul (2 * q) 1 p)

  pub upper : N * cube (2 ^ w) ≤ cube (2 * (q * 2 ^ w) + above (q * 2 ^ w))
  upper =
      le_trans (mul-le-mul_right (cube (2 ^ w)) hi)
      (le_trans (le_of_eq (sym (cube-mul (2 * q + 1) (2 ^ w))))
      (cube-mono (up_to (q * 2 ^ w) (2 ^ w) (above (q * 2 ^ w)) refl (gap (q * 2 ^ w) w n-ge))))

  -- from a value that is no power of two
  down-from : (x p b : ℕ) → x ≡ q * p → p ≤ b → 2 * x - b ≤ (2 * q - 1) * p
  down-from x p b e h =
      let d : 2 * q ≡ (2 * q - 1) + 1 = omega arith in
      let m : 2 * q * p ≡ (2 * q - 1) * p + p = ap (λ (z : ℕ). z * p) d ∙ add-mul (2 * q - 1) 1 p ∙ ap (λ (z : ℕ). (2 * q - 1) * p + z) (one-mul p) in
      omega (arith, mul_assoc 2 q p)

  one_less : (x p b : ℕ) → 0x80_0000 < q → x ≡ q * p → b ≡ 0x80_0000 * p → 0 < p → b ≤ x - 1
  one_less x p b l e f h =
      let g : 0x80_0001 * p ≤ q * p = mul-le-mul_right p l in
      omega arith

  pub lower : cube (2 * (q * 2 ^ w) - below (q * 2 ^ w)) ≤ N * cube (2 ^ w)
  lower = go (eq-or-lt_of_le q_ge)
    where
      go : (0x80_0000 ≡ q) ⊎ (0x80_0000 < q) → cube (2 * (q * 2 ^ w) - below (q * 2 ^ w)) ≤ N * cube (2 ^ w)
      go (inl e) =
          le_trans (cube-mono (sub-le (2 * (q * 2 ^ w)) (below (q * 2 ^ w))))
          (le_trans (le_of_eq (ap cube (sym (mul_assoc 2 q (2 ^ w))) ∙ cube-mul (2 * q) (2 ^ w)))
          (mul-le-mul_right (cube (2 ^ w)) (le_trans (le_of_eq (ap (λ (z : ℕ). cube (2 * z)) (sym e))) N-ge)))
      go (inr l) =
          le_trans (cube-mono (down-from (q * 2 ^ w) (2 ^ w) (below (q * 2 ^ w)) refl (gap (q * 2 ^ w - 1) w (one_less (q * 2 ^ w) (2 ^ w) (2 ^ (23 + w)) l refl (pow-add 2 23 w) (pow_pos w)))))
          (le_trans (le_of_eq (cube-mul (2 * q - 1) (2 ^ w))) (mul-le-mul_right (cube (2 ^ w)) lo))

-- ---- the test of `specs/`
-- in units of 2 ^ -450, the cubes of half units
in_cubes : (A g a : ℕ) → A * 0x200_0000 ≡ g * cube (2 ^ a) → A * 2 ^ 301 ≡ g * 0x1_0000_0000_0000 * cube (2 ^ (a + 76))
in_cubes A g a e =
    ap (λ (x : ℕ). A * x) (pow-add 2 25 276)
    ∙ sym (mul_assoc A 0x200_0000 (2 ^ 276))
    ∙ ap (λ (x : ℕ). x * 2 ^ 276) e
    ∙ ap (λ (x : ℕ). g * cube (2 ^ a) * x) (pow-add 2 48 228)
    ∙ mul-mul-mul_comm g (cube (2 ^ a)) 0x1_0000_0000_0000 (2 ^ 228)
    ∙ ap (λ (x : ℕ). g * 0x1_0000_0000_0000 * x) (sym (ap cube (pow-add 2 a 76) ∙ cube-mul (2 ^ a) (2 ^ 76)))

scale : (m u A d : ℕ) → m * u * 2 ^ 149 ≡ A * d → m * u * 2 ^ 450 ≡ A * 2 ^ 301 * d
scale m u A d e = ap (λ (x : ℕ). m * u * x) (pow-add 2 149 301) ∙ sym (mul_assoc (m * u) (2 ^ 149) (2 ^ 301)) ∙ ap (λ (x : ℕ). x * 2 ^ 301) e ∙ mul_right_comm A d (2 ^ 301)

not_zero : (m u A d : ℕ) → 0 < A * d → m * u * 2 ^ 149 ≡ A * d → m ≡ 0 → ⊥
not_zero m u A d h e z = lt_irrefl 0 (subst (λ (x : ℕ). 0 < x) (sym e ∙ ap (λ (x : ℕ). x * u * 2 ^ 149) z ∙ ap (λ (x : ℕ). x * 2 ^ 149) (zero-mul u) ∙ zero-mul (2 ^ 149)) h)

within_of : (A m : ℕ) (e : ℤ) (g a q : ℕ) → Scaled A g a → 0x80_0000 ≤ q → cube (2 * q - 1) ≤ g * 0x1_0000_0000_0000 → g * 0x1_0000_0000_0000 ≤ cube (2 * q + 1)
    → m * up e * 2 ^ 149 ≡ A * down e → T (within (q * 2 ^ (a + 76)) (m * up e) (down e))
within_of A m e g a q c q_ge lo hi v =
    let n = q * 2 ^ (a + 76) in
    let N = g * 0x1_0000_0000_0000 in
    let x : m * up e * 2 ^ 450 ≡ N * cube (2 ^ (a + 76)) * down e = scale m (up e) A (down e) v ∙ ap (λ (z : ℕ). z * down e) (in_cubes A g a c.same) in
    let N-ge : cube 0x100_0000 ≤ N = mul-le-mul_right 0x1_0000_0000_0000 c.g_ge in
    and_i (leb (cube (2 * n - below n) * down e) (m * up e * 2 ^ 450)) (leb (m * up e * 2 ^ 450) (cube (2 * n + above n) * down e))
    (le→leb (cube (2 * n - below n) * down e) (m * up e * 2 ^ 450) (le_trans (mul-le-mul_right (down e) (lower N q (a + 76) q_ge N-ge lo hi)) (le_of_eq (sym x))))
    (le→leb (m * up e * 2 ^ 450) (cube (2 * n + above n) * down e) (le_trans (le_of_eq x) (mul-le-mul_right (down e) (upper N q (a + 76) q_ge N-ge lo hi))))

pub root_holds : (x r : Float) (s : Bool) (A g a q : ℕ) → 0 < A → HasValue x s A (2 ^ 149) → Scaled A g a → 0x80_0000 ≤ q → cube (2 * q - 1) ≤ g * 0x1_0000_0000_0000
    → g * 0x1_0000_0000_0000 ≤ cube (2 * q + 1) → HasValue r s (q * 2 ^ (a + 76)) (2 ^ 149) → T (is_root x r)
unfolding is_root
root_holds nan r s A g a q p v c k lo hi w = absurd v
root_holds (inf t) r s A g a q p v c k lo hi w = absurd v
root_holds (fin t m e) nan s A g a q p v c k lo hi w = absurd w
root_holds (fin t m e) (inf u) s A g a q p v c k lo hi w = absurd w
root_holds (fin t m e) (fin u y d) s A g a q p v c k lo hi w =
    let n = q * 2 ^ (a + 76) in
    let j : count y d ≡ n = ap (λ (z : ℕ). z / down d) w.1 ∙ mul-div_cancel n (down_pos d) in
    let b : T (beq t u) = subst (λ (z : Bool). T (beq t z)) (v.0 ∙ sym w.0) (same t) in
    let z : T (not (eqb m 0)) = not_T (eqb m 0) (λ i. not_zero m (up e) A (down e) (mul-pos p (down_pos e)) v.1 (eqb→eq m 0 i)) in
    let o : T (within (count y d) (m * up e) (down e)) = rw j (within_of A m e g a q c k lo hi v.1) in
    and_i (beq t u) (when eqb m 0 then eqb y 0 else within (count y d) (m * up e) (down e)) b (rw (is_false (eqb m 0) z) o)
  where
    same : (s : Bool) → T (beq s s)
    same true = tt
    same false = tt
