-- `fused` of a positive product and a negative addend by f32 alone: what the product and the sum lose is put back before the last rounding.
-- Where the addend's last digit weighs from 1 to 2 ^ 23 of the product's, no step on the way is rounded: the sum's own loss and the product's are 2 ^ 23 of these at most, so that 24 digits hold both together.
use mathlib.Core.Path.{ap, subst, sym, ◌∙◌, ◌≡◌}
use mathlib.Core.Logic.{◌⊎◌, inl, inr}
use mathlib.Core.Bool.{Bool, false, true}
use Prim.Native.Nat.{◌*◌, ◌+◌, ◌-◌, ◌<◌, ◌^◌, suc, ℕ, ◌≤◌}
use native.Mathlib.Nat.{le_of_eq, lt_of_le_of_lt, lt_of_lt_of_le, lt_of_mul-lt-mul_right, mul_assoc, mul-le-mul, mul-le-mul_right, mul-pos}
use native.Mathlib.Omega.{arith}
use lib.Pow.{pow-add, pow_mono, pow_pos}
use lib.Ieee.{Float, add, binary32, mul, neg, round, sub, sum}
use lib.Ieee.Exact.{HasValue}
use Rattle.binary32.proofs.Size.{split_le}
use Rattle.rounding.specs.Steps.{by_parts}
use Rattle.rounding.proofs.Differences.{Apart, Firm, Near, Once, Proper, Side, adds, also, close, either, exactly, minus, near, positive, same}
use Rattle.rounding.proofs.Lost.{Product}
use Rattle.rounding.proofs.Placed.{pow-back}
use Rattle.rounding.proofs.Single.{widened}
use Rattle.rounding.proofs.Sums.{sub-mul}
use Rattle.fused.specs.Fused.{fused}
use Rattle.fused.proofs.Product.{by_digits}

-- two multiples of v, and how many of it lie between them
between : (X Y v f : ℕ) → ((Y ≤ X) → X - Y ≤ f) → ((X < Y) → Y - X ≤ f) → (F : ℕ) × (F ≤ f) × Apart (F * v) (X * v) (Y * v)
between X Y v f g h = elim (split_le Y X) [
  | inl l ↦ (X - Y, g l, inl (more X Y l))
  | inr l ↦ (Y - X, h l, inr (more Y X (omega arith)))
]
  where
    more : (X Y : ℕ) → Y ≤ X → X * v ≡ Y * v + (X - Y) * v
    more X Y l = omega (arith, sub-mul X Y v, mul-le-mul_right v l)

-- as they stand in a sum
padded : (F A B : ℕ) → Apart F A B → Apart F (A + 0) (0 + B)
padded F A B (inl e) = inl (omega arith)
padded F A B (inr e) = inr (omega arith)

module _ (a b c : Float) (H G O i j k m : ℕ)
    (va : HasValue a false (H * 2 ^ i) (2 ^ 149)) (vb : HasValue b false (G * 2 ^ j) (2 ^ 149)) (vc : HasValue c true (O * 2 ^ k) (2 ^ 149)) (q : Product (i + j) a b (H * G))
    (oa : 0 < O) (ob : O ≤ 0x100_0000) (lo : 173 ≤ i + j) (hi : i + j ≤ 330) (at : k + 149 ≡ m + (i + j)) (ml : m ≤ 23) where
  abbrev w : ℕ
  w = i + j

  abbrev p : Float
  p = mul binary32 a b

  abbrev s : Float
  s = add binary32 p c

  abbrev P : ℕ
  P = q.Q * 2 ^ q.n

  abbrev C : ℕ
  C = O * 2 ^ m

  -- the addend
  C-is : O * 2 ^ (k + 149) ≡ C * 2 ^ w
  C-is = ap (λ (x : ℕ). O * x) (ap (λ (x : ℕ). 2 ^ x) at ∙ pow-add 2 m w) ∙ sym (mul_assoc O (2 ^ m) (2 ^ w))

  c-has : HasValue c true (C * 2 ^ w) (2 ^ 298)
  c-has = subst (λ (x : ℕ). HasValue c true x (2 ^ 298)) C-is (widened c true O k vc)

  C-pos : 0 < C
  C-pos = mul-pos oa (pow_pos m)

  firm-c : Firm w c 0 C
  firm-c = record { is = record { sign = true; D = C; value = c-has; side = omega arith }; proper = λ e. C-pos }

  -- what is to be shown equal to it
  fused-once : Once w (fused a b c) (H * G + 0) (0 + C)
  fused-once =
      subst (λ (r : Float). Once w r (H * G + 0) (0 + C))
      (ap (λ (x : ℕ). sum binary32 false (H * G * 2 ^ w) true x (2 ^ 298)) (sym C-is) ∙ by_digits a b c false false true H G O i j k va vb vc)
      (either w (H * G) C (H * G) 0 0 C false true (omega arith) (omega arith) (positive (H * G)))

  once : Once w s (P + 0) (0 + C)
  once = adds w p c q.rounded firm-c.is

  -- ---- from the sum and its difference to the product on
  finish : (S T : ℕ) → Firm w s S T → Firm w (sub binary32 s p) S (T + P) → P + T ≤ C + S + 0x80_0000 → C + S ≤ P + T + 0x80_0000 → by_parts a b c ≡ fused a b c
  unfolding by_parts sub
  finish S T f z u v =
      let t = close (adds w c _ firm-c (minus z.is)) (omega arith) (omega arith) (omega arith) (omega arith) in
      let e = close (adds w _ _ t q.rest.is) (omega (arith, q.over)) (omega (arith, q.less)) (omega arith) (omega arith) in
      same (adds w s _ f e.is) fused-once (omega arith)

  -- the product as a multiple of 2 ^ r, for every r up to its place
  count : (r : ℕ) → r ≤ q.n → P ≡ q.Q * 2 ^ (q.n - r) * 2 ^ r
  count r h = ap (λ (x : ℕ). q.Q * x) (ap (λ (x : ℕ). 2 ^ x) (back q.n r h) ∙ pow-add 2 (q.n - r) r) ∙ sym (mul_assoc q.Q (2 ^ (q.n - r)) (2 ^ r))
    where
      back : (n r : ℕ) → r ≤ n → n ≡ n - r + r
      back n r h = omega arith

  -- ---- below twice the addend the sum is exact, and its difference to the product is the addend
  near_by : P < 2 * C → by_parts a b c ≡ fused a b c
  unfolding sub
  near_by h =
      let X = q.Q * 2 ^ (q.n - m) in
      let e : P ≡ X * 2 ^ m = count m (omega (arith, q.from)) in
      let l : X < 2 * O = lt_of_mul-lt-mul_right (2 ^ m) (lt_of_le_of_lt (le_of_eq (sym e)) (lt_of_lt_of_le h (le_of_eq (sym (mul_assoc 2 O (2 ^ m)))))) in
      let d = between X O (2 ^ m) 0x100_0000 (λ g. omega arith) (λ g. omega arith) in
      let f = exactly d.0 m once (padded (d.0 * 2 ^ m) P C (subst (λ (x : ℕ). Apart (d.0 * 2 ^ m) x C) (sym e) d.2)) d.1 (omega arith) (omega arith) in
      let z = exactly O m (adds w s (neg p) f (minus q.rounded.is)) (inr (omega arith)) (omega arith) (omega arith) (omega arith) in
      finish P C (also P C (omega arith) f) (also P (C + P) (omega arith) z) (omega arith) (omega arith)

  -- ---- and else it is positive and larger than the addend
  size-lt : P ≤ 0x1_0000_0000_0000
  size-lt = mul-le-mul q.few (pow_mono q.to)

  far-off : (D : ℕ) → 2 * C ≤ P → P ≡ C + D → Near w s false D → by_parts a b c ≡ fused a b c
  unfolding sub
  far-off D h e r =
      let v = 2 ^ r.n in
      let S = r.Q * v in
      let X = q.Q * 2 ^ (q.n - r.n) in
      let ex : P ≡ X * v = count r.n (lower r.lead) in
      let d = between r.Q X v 0x100_0000
      (λ g. up_to (r.Q - X) (lt_of_mul-lt-mul_right v (omega (arith, pow_pos r.n, r.over, sub-mul r.Q X v, C-pos))))
      (λ g. up_to (X - r.Q) (lt_of_mul-lt-mul_right v (omega (arith, pow_pos r.n, r.under, r.less, sub-mul X r.Q v)))) in
      let weight : v ≤ 0x100_0000 = pow_mono r.place in
      let f : Firm w s S 0 = record { is = record { sign = false; D = S; value = r.value; side = omega arith }; proper = positive S } in
      let z = exactly d.0 r.n (adds w s (neg p) f (minus q.rounded.is)) (padded (d.0 * v) S P (subst (λ (x : ℕ). Apart (d.0 * v) S x) (sym ex) d.2)) d.1 (omega arith) (omega (arith, r.place)) in
      finish S 0 f (also S (0 + P) (omega arith) z) (omega (arith, r.less, weight)) (omega (arith, r.over, weight))
    where
      up_to : (F : ℕ) → F < 0x100_0001 → F ≤ 0x100_0000
      up_to F h = omega arith

      lower : (r.n ≡ 0) ⊎ (0x80_0000 * 2 ^ r.n ≤ D) → r.n ≤ q.n
      lower (inl z) = omega arith
      lower (inr l) = under r.n q.n (pow-back r.n (suc q.n) (omega (arith, pow-add 2 1 q.n, mul-le-mul_right (2 ^ q.n) q.few, C-pos)))
        where
          under : (x y : ℕ) → x < suc y → x ≤ y
          under x y h = omega arith

  above : 2 * C ≤ P → by_parts a b c ≡ fused a b c
  above h = by once.sign once.D once.is once.side once.proper
    where
      by : (t : Bool) (D : ℕ) → s ≡ round binary32 t (D * 2 ^ w) (2 ^ 298) → Side t D (P + 0) (0 + C) → Proper t D → by_parts a b c ≡ fused a b c
      by true D e x y = absurd (omega (arith, C-pos))
      by false D e x y = far-off D h (omega arith) (subst (λ (r : Float). Near w r false D) (sym e) (near w false D lo hi (omega (arith, size-lt, C-pos))))

  pub by-parts-fused : by_parts a b c ≡ fused a b c
  by-parts-fused = elim (split_le (2 * C) P) [ inl h ↦ above h | inr h ↦ near_by h ]
