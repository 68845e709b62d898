-- The digits of an f32 that lies between two powers of two, and where they stand.
-- By the parts of a float (`is_finite`): the powers bound its size, and so the place of its digits.
use Rattle.std.proofs.Common.{◌≡◌, ℕ, suc, ◌+◌, ◌*◌, ◌^◌, ◌<◌, ◌≤◌, Bool, true, false, T, ◌⊎◌, refl, inl, inr, le_trans, le_of_eq, le_refl, le_of_suc-le-suc, lt_of_le_of_lt, mul-le-mul_right, lt_of_not-le, not-le_of_lt, le_of_mul-le-mul_right, arith, pow_pos, pow_mono, pow-add, shl_lt}
use lib.Pow.{pow-lt}
use lib.Ieee.{Float, binary32, fin, fits, inf, le, nan}
use lib.Ieee.Exact.{HasValue}
use lib.Ieee.Positive.{between, positive, positive_of_value, values_of_le}
use Rattle.binary32.proofs.Apart.{is_finite}

signless : (x : Float) (s : Bool) (a c : ℕ) → T (positive x) → HasValue x s a c → HasValue x false a c
signless nan s a c p h = absurd p
signless (inf t) s a c p h = absurd p
signless (fin true m e) s a c p h = absurd p
signless (fin false m e) s a c p h = (refl, h.1)

pub pow-back : (i j : ℕ) → 2 ^ i < 2 ^ j → i < j
pow-back i j h = lt_of_not-le (λ (g : j ≤ i). not-le_of_lt h (pow_mono g))

-- ---- a value between two powers of two: its digits, and where they stand
pub record Placed (x : Float) (i j : ℕ) : Type 0 where
  pub M : ℕ
  pub y : ℕ
  pub value : HasValue x false (M * 2 ^ y) (2 ^ 149)
  pub few : M < 0x100_0000
  pub full : 0x80_0000 ≤ M
  pub from : i < 24 + y
  pub to : 23 + y ≤ j
  pub under : M * 2 ^ y ≤ 2 ^ j

pub place : (L x U : Float) (i j : ℕ) → 24 ≤ i → HasValue L false (2 ^ i) (2 ^ 149) → HasValue U false (2 ^ j) (2 ^ 149) → T (fits binary32 x) → T (le L x) → T (le x U) → Placed x i j
place L x U i j I l u f a b = by x px f a b
  where
    pl : T (positive L)
    pl = positive_of_value L (2 ^ i) (2 ^ 149) l (pow_pos i)

    pu : T (positive U)
    pu = positive_of_value U (2 ^ j) (2 ^ 149) u (pow_pos j)

    px : T (positive x)
    px = between L x U pl pu a b

    whole : (y M : ℕ) → i < 24 + y → (y ≡ 0) ⊎ (0x80_0000 ≤ M) → 0x80_0000 ≤ M
    whole y M h (inl e) = absurd (no y h e)
      where
        no : (y : ℕ) → i < 24 + y → y ≡ 0 → ⊥
        no y h e = omega arith
    whole y M h (inr l) = l

    by : (x : Float) → T (positive x) → T (fits binary32 x) → T (le L x) → T (le x U) → Placed x i j
    by nan p f a b = absurd p
    by (inf t) p f a b = absurd p
    by (fin t m e) p f a b =
        let d = is_finite (fin t m e) t _ _ f refl in
        let v = signless (fin t m e) t _ _ p d.value in
        let lo = le_of_mul-le-mul_right (values_of_le L (fin t m e) (2 ^ i) (2 ^ 149) _ (2 ^ 149) pl p l v a) (pow_pos 149) in
        let hi = le_of_mul-le-mul_right (values_of_le (fin t m e) U _ (2 ^ 149) (2 ^ j) (2 ^ 149) p pu v u b) (pow_pos 149) in
        let fr = pow-back i _ (lt_of_le_of_lt lo (shl_lt 24 _ d.few)) in
        let fu = whole _ _ fr d.leading in
        record {
          M = _;
          y = _;
          value = v;
          few = d.few;
          full = fu;
          from = fr;
          under = hi;
          to = le_of_suc-le-suc (pow-back _ (suc j) (lt_of_le_of_lt (le_trans (le_of_eq (pow-add 2 23 _)) (le_trans (mul-le-mul_right (2 ^ _) fu) hi)) (pow-lt (le_refl (suc j)))));
        }
