-- The sum of two f32, each a difference of two whole numbers of a unit: the difference of the sums, rounded once; exact where 24 digits hold it, and else off by half of the last digit's weight.
-- By the cases of `sum`; whoever adds differences need not ask which part is larger.
use Rattle.std.proofs.Common.{◌≡◌, ℕ, zero, suc, ◌+◌, ◌-◌, ◌*◌, ◌/◌, ◌%◌, ◌^◌, ◌<◌, ◌≤◌, Bool, true, false, not, T, ◌⊎◌, sym, refl, ap, ◌∙◌, subst, inl, inr, le_trans, le_of_eq, lt_of_lt_of_le, lt_of_le_of_lt, mul-le-mul_right, mod-lt, mul_assoc, suc-mul, mul_comm, add-mul, eq-or-lt_of_le, mul-lt-mul_of_pos_right, mul-pos, one-mul, zero-mul, mul-one, arith, lit<, lit≤, pow_pos, pow_mono, pow-add, shl_lt}
use native.Mathlib.Nat.{div-add-mod, mul-mul-mul_comm}
use lib.Pow.{pow-lt}
use lib.Ieee.{Float, add, binary32, fin, inf, mul, nan, neg, round, size, sum, units}
use lib.Ieee.Digits.{size-lt, size_reaches}
use lib.Ieee.Exact.{HasValue, round_exact, units_val}
use lib.Ieee.Nearest.{closest, closest_same}
use Rattle.binary32.proofs.Size.{size_gt, split_le}
use Rattle.rounding.proofs.Closest.{closest_le, near-eq, near-gt, near-lt}
use Rattle.rounding.proofs.Placed.{pow-back}
use Rattle.rounding.proofs.Rounding.{round_at}
use Rattle.rounding.proofs.Single.{rescale}
use Rattle.rounding.proofs.Sums.{add_at, mul_val, sub-mul, sum_less, sum_like, sum_more, sum-none}

-- A - B by its sign and size
abbrev pub Side : Bool → ℕ → ℕ → ℕ → Type 0
Side false D A B = A ≡ B + D
Side true D A B = B ≡ A + D

-- x is A - B, of the unit 2 ^ w over 2 ^ 298
pub record Is (w : ℕ) (x : Float) (A B : ℕ) : Type 0 where
  pub sign : Bool
  pub D : ℕ
  pub value : HasValue x sign (D * 2 ^ w) (2 ^ 298)
  pub side : Side sign D A B

-- and no negative zero
abbrev pub Proper : Bool → ℕ → Type 0
Proper s D = s ≡ true → 0 < D

pub positive : (D : ℕ) → Proper false D
positive D z = absurd (subst (λ (x : Bool). T (not x)) z tt)

pub record Firm (w : ℕ) (x : Float) (A B : ℕ) : Type 0 where
  pub is : Is w x A B
  pub proper : Proper is.sign is.D

-- r is A - B rounded once, and no negative zero
pub record Once (w : ℕ) (r : Float) (A B : ℕ) : Type 0 where
  pub sign : Bool
  pub D : ℕ
  pub is : r ≡ round binary32 sign (D * 2 ^ w) (2 ^ 298)
  pub side : Side sign D A B
  pub proper : Proper sign D

-- ---- the sum
module _ (w a b A B C D : ℕ) where
  abbrev P : ℕ → ℕ
  P n = n * 2 ^ w

  -- of unlike signs, by which is larger
  differ : (s : Bool) → Side s a A B → Side (not s) b C D → Once w (sum binary32 s (P a) (not s) (P b) (2 ^ 298)) (A + C) (B + D)
  differ s p q = elim (split_le a b) [
    | inr l ↦ more s p q l
    | inl h ↦ elim (eq-or-lt_of_le h) [ inl e ↦ none s p q e | inr l ↦ less s p q l ]
  ]
    where
      more : (s : Bool) → Side s a A B → Side (not s) b C D → b < a → Once w (sum binary32 s (P a) (not s) (P b) (2 ^ 298)) (A + C) (B + D)
      more s p q l = record {
        sign = s;
        D = a - b;
        is = sum_more binary32 s (P a) (P b) (2 ^ 298) (mul-lt-mul_of_pos_right l (pow_pos w)) ∙ ap (λ (x : ℕ). round binary32 s x (2 ^ 298)) (sym (sub-mul a b (2 ^ w)));
        side = by s p q;
        proper = λ e. omega arith;
      }
        where
          by : (s : Bool) → Side s a A B → Side (not s) b C D → Side s (a - b) (A + C) (B + D)
          by true p q = omega arith
          by false p q = omega arith

      less : (s : Bool) → Side s a A B → Side (not s) b C D → a < b → Once w (sum binary32 s (P a) (not s) (P b) (2 ^ 298)) (A + C) (B + D)
      less true p q l = record {
        sign = false;
        D = b - a;
        is = sum_less binary32 false (P a) (P b) (2 ^ 298) (mul-lt-mul_of_pos_right l (pow_pos w)) ∙ ap (λ (x : ℕ). round binary32 false x (2 ^ 298)) (sym (sub-mul b a (2 ^ w)));
        side = omega arith;
        proper = λ e. omega arith;
      }
      less false p q l = record {
        sign = true;
        D = b - a;
        is = sum_less binary32 true (P a) (P b) (2 ^ 298) (mul-lt-mul_of_pos_right l (pow_pos w)) ∙ ap (λ (x : ℕ). round binary32 true x (2 ^ 298)) (sym (sub-mul b a (2 ^ w)));
        side = omega arith;
        proper = λ e. omega arith;
      }

      none : (s : Bool) → Side s a A B → Side (not s) b C D → a ≡ b → Once w (sum binary32 s (P a) (not s) (P b) (2 ^ 298)) (A + C) (B + D)
      none s p q e = record {
        sign = false;
        D = 0;
        is = ap (λ (x : ℕ). sum binary32 s (P a) (not s) (P x) (2 ^ 298)) (sym e) ∙ sum-none binary32 s (P a) (2 ^ 298) ∙ ap (λ (x : ℕ). round binary32 false x (2 ^ 298)) (sym (zero-mul (2 ^ w)));
        side = by s p q;
        proper = positive 0;
      }
        where
          by : (s : Bool) → Side s a A B → Side (not s) b C D → Side false 0 (A + C) (B + D)
          by true p q = omega arith
          by false p q = omega arith

  -- of like signs
  alike : (s : Bool) → Side s a A B → Side s b C D → Proper s a → Once w (sum binary32 s (P a) s (P b) (2 ^ 298)) (A + C) (B + D)
  alike s p q h = record {
    sign = s;
    D = a + b;
    is = sum_like binary32 s (P a) (P b) (2 ^ 298) ∙ ap (λ (x : ℕ). round binary32 s x (2 ^ 298)) (sym (add-mul a b (2 ^ w)));
    side = by s p q;
    proper = λ e. let l = h e in omega arith;
  }
    where
      by : (s : Bool) → Side s a A B → Side s b C D → Side s (a + b) (A + C) (B + D)
      by true p q = omega arith
      by false p q = omega arith

  pub either : (s t : Bool) → Side s a A B → Side t b C D → Proper s a → Once w (sum binary32 s (P a) t (P b) (2 ^ 298)) (A + C) (B + D)
  either true true p q h = alike true p q h
  either false false p q h = alike false p q h
  either true false p q h = differ true p q
  either false true p q h = differ false p q

pub adds : (w : ℕ) (x y : Float) {A B C D : ℕ} → Firm w x A B → Is w y C D → Once w (add binary32 x y) (A + C) (B + D)
adds w x y {A = A} {B = B} {C = C} {D = D} f k =
    let i = f.is in
    subst (λ (r : Float). Once w r (A + C) (B + D)) (sym (add_at binary32 x y i.sign k.sign (i.D * 2 ^ w) (k.D * 2 ^ w) (2 ^ 298) (pow_pos 298) i.value k.value))
    (either w i.D k.D A B C D i.sign k.sign i.side k.side f.proper)

-- ---- the other way round
negated : (x : Float) (s : Bool) (a : ℕ) → HasValue x s a (2 ^ 298) → HasValue (neg x) (not s) a (2 ^ 298)
unfolding neg
negated nan s a h = h
negated (inf t) s a h = h
negated (fin t m e) s a h = (ap not h.0, h.1)

pub minus : {w : ℕ} {x : Float} {A B : ℕ} → Is w x A B → Is w (neg x) B A
minus {w = w} {x = x} {A = A} {B = B} i = record { sign = not i.sign; D = i.D; value = negated x i.sign (i.D * 2 ^ w) i.value; side = by i.sign i.D i.side }
  where
    by : (s : Bool) (D : ℕ) → Side s D A B → Side (not s) D B A
    by true D e = e
    by false D e = e

-- ---- the same difference of other numbers
pub also : {w : ℕ} {x : Float} {A B : ℕ} (C D : ℕ) → A + D ≡ C + B → Firm w x A B → Firm w x C D
also {A = A} {B = B} C D e f = record { is = record { sign = f.is.sign; D = f.is.D; value = f.is.value; side = by f.is.sign f.is.D f.is.side }; proper = f.proper }
  where
    by : (s : Bool) (X : ℕ) → Side s X A B → Side s X C D
    by true X p = omega arith
    by false X p = omega arith

-- two ways to it
pub same : {w : ℕ} {x y : Float} {A B C D : ℕ} → Once w x A B → Once w y C D → A + D ≡ C + B → x ≡ y
same {w = w} {A = A} {B = B} {C = C} {D = D} o p e =
    let z = by o.sign p.sign o.D p.D o.side p.side o.proper p.proper in
    o.is ∙ (λ i. round binary32 (z.0 i) (z.1 i * 2 ^ w) (2 ^ 298)) ∙ sym p.is
  where
    by : (s t : Bool) (a b : ℕ) → Side s a A B → Side t b C D → Proper s a → Proper t b → (s ≡ t) × (a ≡ b)
    by true true a b p q g h = (refl, omega arith)
    by false false a b p q g h = (refl, omega arith)
    by true false a b p q g h = let l = g refl in absurd (omega arith)
    by false true a b p q g h = let l = h refl in absurd (omega arith)

-- ---- exact: F * 2 ^ m, F of 24 digits, or 2 ^ 24
fine : (t : Bool) (F m w : ℕ) → F < 0x100_0000 → 149 ≤ w → w + m ≤ 400 → HasValue (round binary32 t (F * 2 ^ m * 2 ^ w) (2 ^ 298)) t (F * 2 ^ m * 2 ^ w) (2 ^ 298)
fine t F m w f l u =
    round_exact binary32 t (F * 2 ^ m * 2 ^ w) (2 ^ 298) F (m + w - 149) (pow_pos 298) f (lt_of_lt_of_le (shl_lt 24 (m + w - 149) f) (pow_mono (under m w u)))
    (ap (λ (x : ℕ). x * 2 ^ 149) (mul_assoc F (2 ^ m) (2 ^ w) ∙ ap (λ (x : ℕ). F * x) (sym (pow-add 2 m w)))
    ∙ mul_assoc F (2 ^ (m + w)) (2 ^ 149)
    ∙ ap (λ (x : ℕ). F * x) (sym (pow-add 2 (m + w) 149) ∙ ap (λ (x : ℕ). 2 ^ x) (sums m w l) ∙ pow-add 2 (m + w - 149) 298)
    ∙ sym (mul_assoc F (2 ^ (m + w - 149)) (2 ^ 298)))
  where
    under : (m w : ℕ) → w + m ≤ 400 → 24 + (m + w - 149) ≤ 277
    under m w u = omega arith

    sums : (m w : ℕ) → 149 ≤ w → m + w + 149 ≡ m + w - 149 + 298
    sums m w l = omega arith

fine_to : (t : Bool) (F m w : ℕ) → F ≤ 0x100_0000 → 149 ≤ w → w + m < 400 → HasValue (round binary32 t (F * 2 ^ m * 2 ^ w) (2 ^ 298)) t (F * 2 ^ m * 2 ^ w) (2 ^ 298)
fine_to t F m w f l u = elim (eq-or-lt_of_le f) [
  | inr g ↦ fine t F m w g l (omega arith)
  | inl e ↦
      let d : F * 2 ^ m ≡ 0x80_0000 * 2 ^ (1 + m) = ap (λ (x : ℕ). x * 2 ^ m) e ∙ mul_assoc 0x80_0000 2 (2 ^ m) ∙ ap (λ (x : ℕ). 0x80_0000 * x) (sym (pow-add 2 1 m)) in
      subst (λ (x : ℕ). HasValue (round binary32 t (x * 2 ^ w) (2 ^ 298)) t (x * 2 ^ w) (2 ^ 298)) (sym d) (fine t 0x80_0000 (1 + m) w (lit< tt) l (omega arith))
]

-- A and B lie F * 2 ^ m apart
abbrev pub Apart : ℕ → ℕ → ℕ → Type 0
Apart X A B = (A ≡ B + X) ⊎ (B ≡ A + X)

far_is : (A B X D : ℕ) (s : Bool) → Side s D A B → Apart X A B → D ≡ X
far_is A B X D true p (inl q) = omega arith
far_is A B X D true p (inr q) = omega arith
far_is A B X D false p (inl q) = omega arith
far_is A B X D false p (inr q) = omega arith

pub exactly : {w : ℕ} {r : Float} {A B : ℕ} (F m : ℕ) (o : Once w r A B) → Apart (F * 2 ^ m) A B → F ≤ 0x100_0000 → 149 ≤ w → w + m < 400 → Firm w r A B
exactly {w = w} {A = A} {B = B} F m o a f l u =
    let e = far_is A B (F * 2 ^ m) o.D o.sign o.side a in
    record {
      is = record {
        sign = o.sign;
        D = o.D;
        value = subst (λ (x : Float). HasValue x o.sign (o.D * 2 ^ w) (2 ^ 298)) (sym o.is)
            (subst (λ (x : ℕ). HasValue (round binary32 o.sign (x * 2 ^ w) (2 ^ 298)) o.sign (x * 2 ^ w) (2 ^ 298)) (sym e) (fine_to o.sign F m w f l u));
        side = o.side;
      };
      proper = o.proper;
    }

-- so it is where A and B are no farther apart than 2 ^ 24
pub close : {w : ℕ} {r : Float} {A B : ℕ} → Once w r A B → A ≤ B + 0x100_0000 → B ≤ A + 0x100_0000 → 149 ≤ w → w < 400 → Firm w r A B
close {A = A} {B = B} o a b l u = elim (split_le B A) [
  | inl h ↦ exactly (A - B) 0 o (inl (omega (arith, mul-one (A - B)))) (omega arith) l (omega arith)
  | inr h ↦ exactly (B - A) 0 o (inr (omega (arith, mul-one (B - A)))) (omega arith) l (omega arith)
]

-- ---- and else: D of 48 digits at most is rounded to Q * 2 ^ n
closest_off : (D n : ℕ) → 0 < n → (2 * (closest D (2 ^ n) * 2 ^ n) ≤ 2 * D + 2 ^ n) × (2 * D ≤ 2 * (closest D (2 ^ n) * 2 ^ n) + 2 ^ n)
closest_off D n np = by (split_le (2 ^ (n - 1)) (D % 2 ^ n))
  where
    half : 2 ^ n ≡ 2 * 2 ^ (n - 1)
    half = ap (λ (x : ℕ). 2 ^ x) (back n np) ∙ pow-add 2 1 (n - 1)
      where
        back : (n : ℕ) → 0 < n → n ≡ 1 + (n - 1)
        back n h = omega arith

    whole : D ≡ D / 2 ^ n * 2 ^ n + D % 2 ^ n
    whole = sym (div-add-mod D (2 ^ n)) ∙ ap (λ (x : ℕ). x + D % 2 ^ n) (mul_comm (2 ^ n) (D / 2 ^ n))

    by : (2 ^ (n - 1) ≤ D % 2 ^ n) ⊎ (D % 2 ^ n < 2 ^ (n - 1)) → (2 * (closest D (2 ^ n) * 2 ^ n) ≤ 2 * D + 2 ^ n) × (2 * D ≤ 2 * (closest D (2 ^ n) * 2 ^ n) + 2 ^ n)
    by (inr l) = rw (near-lt D n np l) (omega (arith, whole, half), omega (arith, whole, half))
    by (inl h) = elim (eq-or-lt_of_le h) [
      | inl e ↦ rw (near-eq D n np (sym e), add-mul (D / 2 ^ n) (D / 2 ^ n % 2) (2 ^ n)) (tied (D / 2 ^ n % 2) (sym e) (omega arith))
      | inr l ↦ rw (near-gt D n np l, suc-mul (D / 2 ^ n) (2 ^ n)) (omega (arith, whole, half), omega (arith, whole, half, mod-lt D (pow_pos n)))
    ]
      where
        tied : (u : ℕ) → D % 2 ^ n ≡ 2 ^ (n - 1) → u < 2 → (2 * (D / 2 ^ n * 2 ^ n + u * 2 ^ n) ≤ 2 * D + 2 ^ n) × (2 * D ≤ 2 * (D / 2 ^ n * 2 ^ n + u * 2 ^ n) + 2 ^ n)
        tied zero e l = (omega (arith, whole, half, zero-mul (2 ^ n)), omega (arith, whole, half, zero-mul (2 ^ n)))
        tied (suc zero) e l = (omega (arith, whole, half, one-mul (2 ^ n)), omega (arith, whole, half, one-mul (2 ^ n)))
        tied (suc (suc u)) e l = absurd (omega arith)

pub record Near (w : ℕ) (r : Float) (t : Bool) (D : ℕ) : Type 0 where
  pub n : ℕ
  pub Q : ℕ
  pub value : HasValue r t (Q * 2 ^ n * 2 ^ w) (2 ^ 298)
  pub few : Q ≤ 0x100_0000
  pub place : n ≤ 24
  pub lead : (n ≡ 0) ⊎ (0x80_0000 * 2 ^ n ≤ D)
  pub under : D < 0x100_0000 * 2 ^ n
  pub over : 2 * (Q * 2 ^ n) ≤ 2 * D + 2 ^ n
  pub less : 2 * D ≤ 2 * (Q * 2 ^ n) + 2 ^ n

module _ (w : ℕ) (t : Bool) (D : ℕ) (l : 173 ≤ w) (u : w ≤ 330) where
  small : D < 0x100_0000 → Near w (round binary32 t (D * 2 ^ w) (2 ^ 298)) t D
  small h = record {
    n = 0;
    Q = D;
    value = subst (λ (x : ℕ). HasValue (round binary32 t (x * 2 ^ w) (2 ^ 298)) t (D * 2 ^ 0 * 2 ^ w) (2 ^ 298)) (mul-one D) (fine t D 0 w h (omega arith) (omega arith));
    few = omega arith;
    place = lit≤ tt;
    lead = inl refl;
    under = h;
    over = omega arith;
    less = omega arith;
  }

  -- D has 24 + n digits
  large : (n : ℕ) → 0 < n → n ≤ 24 → 0x80_0000 * 2 ^ n ≤ D → D < 0x100_0000 * 2 ^ n → Near w (round binary32 t (D * 2 ^ w) (2 ^ 298)) t D
  large n np nl lo hi =
      let c = 23 + n + w in
      let k = n + w - 149 in
      let Q = closest D (2 ^ n) in
      let up : D * 2 ^ w < 2 ^ suc c = lt_of_lt_of_le (mul-lt-mul_of_pos_right hi (pow_pos w)) (le_of_eq (ap (λ (x : ℕ). x * 2 ^ w) (sym (pow-add 2 24 n)) ∙ sym (pow-add 2 (24 + n) w) ∙ ap (λ (x : ℕ). 2 ^ x) (one_more n w))) in
      let reach : 2 ^ c ≤ D * 2 ^ w = le_trans (le_of_eq (pow-add 2 (23 + n) w ∙ ap (λ (x : ℕ). x * 2 ^ w) (pow-add 2 23 n))) (mul-le-mul_right (2 ^ w) lo) in
      let e : round binary32 t (D * 2 ^ w) (2 ^ 298) ≡ units binary32 t Q k =
      round_at t (D * 2 ^ w) 298 c reach up ∙ ap (λ (x : ℕ). units binary32 t (closest (D * 2 ^ w * 2 ^ 149) (2 ^ 298 * 2 ^ x)) x) (place n w l)
      ∙ ap (λ (x : ℕ). units binary32 t x k)
      (closest_same (D * 2 ^ w * 2 ^ 149) (2 ^ 298 * 2 ^ k) D (2 ^ n) (mul-pos (pow_pos 298) (pow_pos k)) (pow_pos n)
      (ap (λ (x : ℕ). x * 2 ^ n) (mul_assoc D (2 ^ w) (2 ^ 149) ∙ ap (λ (x : ℕ). D * x) (sym (pow-add 2 w 149))) ∙ mul_assoc D (2 ^ (w + 149)) (2 ^ n)
      ∙ ap (λ (x : ℕ). D * x) (sym (pow-add 2 (w + 149) n) ∙ ap (λ (x : ℕ). 2 ^ x) (room n w l) ∙ pow-add 2 298 k))) in
      let q : Q ≤ 0x100_0000 = closest_le D n 24 (lt_of_lt_of_le hi (le_of_eq (sym (pow-add 2 24 n)))) in
      let o = closest_off D n np in
      record {
        n = n;
        Q = Q;
        value = subst (λ (x : Float). HasValue x t (Q * 2 ^ n * 2 ^ w) (2 ^ 298)) (sym e)
            (rescale (units binary32 t Q k) t (Q * 2 ^ k) (2 ^ 149) (Q * 2 ^ n * 2 ^ w) (2 ^ 298) (pow_pos 149)
            (ap (λ (x : ℕ). x * 2 ^ 149) (mul_assoc Q (2 ^ n) (2 ^ w) ∙ ap (λ (x : ℕ). Q * x) (sym (pow-add 2 n w))) ∙ mul_assoc Q (2 ^ (n + w)) (2 ^ 149)
            ∙ ap (λ (x : ℕ). Q * x) (sym (pow-add 2 (n + w) 149) ∙ ap (λ (x : ℕ). 2 ^ x) (back n w l) ∙ pow-add 2 k 298)
            ∙ sym (mul_assoc Q (2 ^ k) (2 ^ 298)))
            (units_val binary32 t Q k (lt_of_le_of_lt (mul-le-mul_right (2 ^ k) q) (subst (λ (x : ℕ). x < 2 ^ 277) (pow-add 2 24 k) (pow-lt (fit n w nl u))))));
        few = q;
        place = nl;
        lead = inr lo;
        under = hi;
        over = o.0;
        less = o.1;
      }
    where
      one_more : (n w : ℕ) → 24 + n + w ≡ suc (23 + n + w)
      one_more n w = omega arith

      place : (n w : ℕ) → 173 ≤ w → suc (23 + n + w + 149) - 298 - 24 ≡ n + w - 149
      place n w l = omega arith

      room : (n w : ℕ) → 173 ≤ w → w + 149 + n ≡ 298 + (n + w - 149)
      room n w l = omega arith

      back : (n w : ℕ) → 173 ≤ w → n + w + 149 ≡ n + w - 149 + 298
      back n w l = omega arith

      fit : (n w : ℕ) → n ≤ 24 → w ≤ 330 → 24 + (n + w - 149) < 277
      fit n w h u = omega arith

  pub near : D < 0x1_0000_0000_0000 → Near w (round binary32 t (D * 2 ^ w) (2 ^ 298)) t D
  near h = elim (split_le 0x100_0000 D) [
    | inr g ↦ small g
    | inl g ↦
        let z = size D in
        let zl : 24 < z = size_gt D 24 g in
        let n = z - 24 in
        let up : D < 0x100_0000 * 2 ^ n = lt_of_lt_of_le (size-lt D) (le_of_eq (ap (λ (x : ℕ). 2 ^ x) (full z zl) ∙ pow-add 2 24 n)) in
        let reach : 0x80_0000 * 2 ^ n ≤ D = le_trans (le_of_eq (sym (pow-add 2 23 n) ∙ ap (λ (x : ℕ). 2 ^ x) (less z zl))) (size_reaches D (z - 1) (omega arith)) in
        let zu : z - 1 < 48 = pow-back (z - 1) 48 (lt_of_le_of_lt (size_reaches D (z - 1) (omega arith)) h) in
        large n (omega arith) (omega arith) reach up
  ]
    where
      full : (z : ℕ) → 24 < z → z ≡ 24 + (z - 24)
      full z h = omega arith

      less : (z : ℕ) → 24 < z → 23 + (z - 24) ≡ z - 1
      less z h = omega arith

-- ---- the product of two that are positive, over 2 ^ 149
pub times_is : (x y : Float) (a b i j : ℕ) → HasValue x false (a * 2 ^ i) (2 ^ 149) → HasValue y false (b * 2 ^ j) (2 ^ 149) → mul binary32 x y ≡ round binary32 false (a * b * 2 ^ (i + j)) (2 ^ 298)
times_is x y a b i j p q =
    mul_val binary32 x y false false (a * 2 ^ i) (b * 2 ^ j) (2 ^ 149) (2 ^ 149) (pow_pos 149) (pow_pos 149) p q
    ∙ ap (λ (z : ℕ). round binary32 false z (2 ^ 298)) (mul-mul-mul_comm a (2 ^ i) b (2 ^ j) ∙ ap (λ (z : ℕ). a * b * z) (sym (pow-add 2 i j)))

pub times : (x y : Float) (a b i j : ℕ) → HasValue x false (a * 2 ^ i) (2 ^ 149) → HasValue y false (b * 2 ^ j) (2 ^ 149) → Once (i + j) (mul binary32 x y) (a * b) 0
times x y a b i j p q = record { sign = false; D = a * b; is = times_is x y a b i j p q; side = omega arith; proper = positive (a * b) }
