-- `closest`, a fraction to the nearest whole number: by a shift, and with anything that is not 0 below the digits that decide it.
-- Twice the remainder is compared with the divisor; what lies below its digits can only break the tie.
use Rattle.std.proofs.Common.{◌≡◌, ℕ, suc, ◌+◌, ◌-◌, ◌*◌, ◌/◌, ◌%◌, ◌^◌, ◌<◌, ◌≤◌, Bool, true, false, not, T, eqb, leb, sym, refl, ap, ◌∙◌, subst, le_trans, le_of_eq, le_of_lt, mul-le-mul_right, mod-eq_of_lt, mul_assoc, suc-mul, mul_comm, not-le_of_lt, arith, le→leb, eqb→eq, leb→le, shr_lt}
use Prim.Native.Nat.{Ordering, compare}
use native.Mathlib.Nat.{div-div-eq-div-mul, div-eq_of_lt, pow-succ'}
use lib.Arith.{digits_div, digits_mod, mod-mul}
use lib.Dec.{eqb_refl, compare_is_eq, is_le, nleb→lt, not_T}
use lib.Ieee.{nearest}
use lib.Ieee.Fits.{nearest-le}
use lib.Ieee.Nearest.{closest, nearest-ge}

-- ---- compare
pub cmp_lt : (a b : ℕ) → a < b → compare a b ≡ Ordering.lt
cmp_lt a b h = go (compare a b) (le→leb a b (le_of_lt h)) (λ t. ne (eqb→eq a b t))
  where
    ne : a ≡ b → ⊥
    ne e = omega arith

    go : (o : Ordering) → T (is_le o) → (T (compare_is_eq o) → ⊥) → o ≡ Ordering.lt
    go Ordering.lt p q = refl
    go Ordering.eq p q = absurd (q tt)
    go Ordering.gt p q = absurd p

pub cmp_gt : (a b : ℕ) → b < a → compare a b ≡ Ordering.gt
cmp_gt a b h = go (compare a b) (not_T (leb a b) (λ t. not-le_of_lt h (leb→le a b t)))
  where
    go : (o : Ordering) → T (not (is_le o)) → o ≡ Ordering.gt
    go Ordering.lt p = absurd p
    go Ordering.eq p = absurd p
    go Ordering.gt p = refl

pub cmp_eq : (a b : ℕ) → a ≡ b → compare a b ≡ Ordering.eq
cmp_eq a b h = go (compare a b) (subst (λ (x : ℕ). T (eqb a x)) h (eqb_refl a))
  where
    go : (o : Ordering) → T (compare_is_eq o) → o ≡ Ordering.eq
    go Ordering.lt p = absurd p
    go Ordering.eq p = refl
    go Ordering.gt p = absurd p

-- ---- with something below the digits of h, neither too little nor too much to tell
abbrev side : Bool → Ordering
side true = Ordering.gt
side false = Ordering.lt

closest_tail : (h l G v : ℕ) → 0 < l → l < G → 0 < v → closest (h * G + l) (2 * v * G) ≡ nearest (h / (2 * v)) (side (leb v (h % (2 * v))))
closest_tail h l G v p q vp =
    let a = h * G + l in
    let r = h % (2 * v) in
    let quot : a / (2 * v * G) ≡ h / (2 * v) = ap (λ (x : ℕ). a / x) (mul_comm (2 * v) G) ∙ sym (div-div-eq-div-mul a G (2 * v)) ∙ ap (λ (x : ℕ). x / (2 * v)) (digits_div h q) in
    let rest : a % (2 * v * G) ≡ r * G + l = mod-mul a (twice v vp) (pos l G p q) ∙ ap (λ (x : ℕ). x % (2 * v) * G + a % G) (digits_div h q) ∙ ap (λ (x : ℕ). r * G + x) (digits_mod h q) in
    ap (λ (x : ℕ). nearest x (compare (a % (2 * v * G) * 2) (2 * v * G))) quot
    ∙ ap (λ (x : ℕ). nearest (h / (2 * v)) (compare (x * 2) (2 * v * G))) rest
    ∙ ap (λ (o : Ordering). nearest (h / (2 * v)) o) (go r (leb v r) (leb→le v r) (nleb→lt v r))
  where
    twice : (v : ℕ) → 0 < v → 0 < 2 * v
    twice v h = omega arith

    pos : (l G : ℕ) → 0 < l → l < G → 0 < G
    pos l G p q = omega arith

    big : (r x y z : ℕ) → z ≡ 2 * x → x ≤ y → z < (y + l) * 2
    big r x y z e h = omega arith

    little : (x y z : ℕ) → z ≡ 2 * x → y + G ≤ x → (y + l) * 2 < z
    little x y z e h = omega arith

    go : (r : ℕ) (b : Bool) → (T b → v ≤ r) → (T (not b) → r < v) → compare ((r * G + l) * 2) (2 * v * G) ≡ side b
    go r true h k = cmp_gt ((r * G + l) * 2) (2 * v * G) (big r (v * G) (r * G) (2 * v * G) (mul_assoc 2 v G) (mul-le-mul_right G (h tt)))
    go r false h k = cmp_lt ((r * G + l) * 2) (2 * v * G) (little (v * G) (r * G) (2 * v * G) (mul_assoc 2 v G) (le_trans (le_of_eq (sym (suc-mul r G))) (mul-le-mul_right G (k tt))))

pub closest_sticky : (h l l' G v : ℕ) → 0 < l → l < G → 0 < l' → l' < G → 0 < v → closest (h * G + l) (2 * v * G) ≡ closest (h * G + l') (2 * v * G)
closest_sticky h l l' G v p q p' q' vp = closest_tail h l G v p q vp ∙ sym (closest_tail h l' G v p' q' vp)

-- ---- `closest` by a shift
pub closest_zero : (m b : ℕ) → m * 2 < b → closest m b ≡ 0
closest_zero m b h =
    let l : m < b = omega arith in
    ap (λ (x : ℕ). nearest x (compare (m % b * 2) b)) (div-eq_of_lt l)
    ∙ ap (λ (x : ℕ). nearest 0 (compare (x * 2) b)) (mod-eq_of_lt l)
    ∙ ap (λ (o : Ordering). nearest 0 o) (cmp_lt (m * 2) b h)

module _ (m d : ℕ) (dp : 0 < d) where
  half_of : 2 ^ d ≡ 2 * 2 ^ (d - 1)
  half_of = ap (λ (x : ℕ). 2 ^ x) (pred d dp) ∙ pow-succ' 2 (d - 1)
    where
      pred : (d : ℕ) → 0 < d → d ≡ suc (d - 1)
      pred d h = omega arith

  pub near-lt : m % 2 ^ d < 2 ^ (d - 1) → closest m (2 ^ d) ≡ m / 2 ^ d
  near-lt h = ap (λ (o : Ordering). nearest (m / 2 ^ d) o) (cmp_lt (m % 2 ^ d * 2) (2 ^ d) (omega (arith, half_of)))

  pub near-eq : m % 2 ^ d ≡ 2 ^ (d - 1) → closest m (2 ^ d) ≡ m / 2 ^ d + m / 2 ^ d % 2
  near-eq h = ap (λ (o : Ordering). nearest (m / 2 ^ d) o) (cmp_eq (m % 2 ^ d * 2) (2 ^ d) (omega (arith, half_of)))

  pub near-gt : 2 ^ (d - 1) < m % 2 ^ d → closest m (2 ^ d) ≡ suc (m / 2 ^ d)
  near-gt h = ap (λ (o : Ordering). nearest (m / 2 ^ d) o) (cmp_gt (m % 2 ^ d * 2) (2 ^ d) (omega (arith, half_of)))

-- ---- the bounds of q
pub closest_le : (m d j : ℕ) → m < 2 ^ (j + d) → closest m (2 ^ d) ≤ 2 ^ j
closest_le m d j h = le_trans (nearest-le (m / 2 ^ d) (compare (m % 2 ^ d * 2) (2 ^ d))) (shr_lt j d h)

pub closest_ge : (m d a : ℕ) → a ≤ m / 2 ^ d → a ≤ closest m (2 ^ d)
closest_ge m d a h = le_trans h (nearest-ge (m / 2 ^ d) (compare (m % 2 ^ d * 2) (2 ^ d)))
