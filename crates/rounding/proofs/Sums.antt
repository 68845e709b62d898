-- Laws of the kit's `sum` at any format, and the sum and the product of two floats by their sizes over one divisor.
-- By the cases of signs and order; equal fractions round to the same.
use Rattle.std.proofs.Common.{◌≡◌, ℕ, zero, suc, ◌+◌, ◌-◌, ◌*◌, ◌^◌, ◌<◌, ◌≤◌, Bool, true, false, cond, not, ◌&&◌, T, ltb, ◌⊎◌, sym, refl, ap, ◌∙◌, inl, inr, le_of_eq, le_refl, lt_of_lt_of_le, lt_of_le_of_lt, le_of_lt, mul_assoc, suc-mul, mul_comm, add-mul, lt_of_mul-lt-mul_right, eq-or-lt_of_le, mul-lt-mul_of_pos_right, mul-pos, zero-mul, mul_right_comm, arith, ltb→lt, lt→ltb, le-ltb, lt-ltb}
use mathlib.Core.Bool.{beq}
use native.Mathlib.Nat.{mul-mul-mul_comm, mul-sub, sub_self}
use lib.Ieee.{Float, Format, add, down, fin, inf, mul, nan, round, sum, unlike, up}
use lib.Ieee.Exact.{HasValue}
use lib.Ieee.Fits.{down_pos}
use lib.Ieee.Scale.{round_same}
use Rattle.binary32.proofs.Size.{split_le}

pub sub-mul : (a b c : ℕ) → (a - b) * c ≡ a * c - b * c
sub-mul a b c = mul_comm (a - b) c ∙ mul-sub c a b ∙ ap (λ (x : ℕ). x - c * b) (mul_comm c a) ∙ ap (λ (x : ℕ). a * c - x) (mul_comm c b)

-- ---- equal fractions have equal sums
same_order : (a b c a' b' c' : ℕ) → 0 < c → 0 < c' → a * c' ≡ a' * c → b * c' ≡ b' * c → a < b → a' < b'
same_order a b c a' b' c' C C' p q h = lt_of_mul-lt-mul_right c (lt_of_le_of_lt (le_of_eq (sym p)) (lt_of_lt_of_le (mul-lt-mul_of_pos_right h C') (le_of_eq q)))

same_ltb : (a b c a' b' c' : ℕ) → 0 < c → 0 < c' → a * c' ≡ a' * c → b * c' ≡ b' * c → ltb a b ≡ ltb a' b'
same_ltb a b c a' b' c' C C' p q = go (ltb a b) (ltb a' b') (λ t. lt→ltb a' b' (same_order a b c a' b' c' C C' p q (ltb→lt a b t))) (λ t. lt→ltb a b (same_order a' b' c' a b c C' C (sym p) (sym q) (ltb→lt a' b' t)))
  where
    go : (x y : Bool) → (T x → T y) → (T y → T x) → x ≡ y
    go true true f g = refl
    go true false f g = absurd (f tt)
    go false true f g = absurd (g tt)
    go false false f g = refl

pub sum_same : (f : Format) (s : Bool) (a : ℕ) (t : Bool) (b c a' b' c' : ℕ) → 0 < c → 0 < c' → a * c' ≡ a' * c → b * c' ≡ b' * c → sum f s a t b c ≡ sum f s a' t b' c'
unfolding sum
sum_same f s a t b c a' b' c' C C' p q =
    let plus : round f s (a + b) c ≡ round f s (a' + b') c' = round_same f s (a + b) c (a' + b') c' C C' (add-mul a b c' ∙ ap (λ (x : ℕ). x + b * c') p ∙ ap (λ (x : ℕ). a' * c + x) q ∙ sym (add-mul a' b' c)) in
    let one : (u : Bool) → round f u (b - a) c ≡ round f u (b' - a') c' = λ u. round_same f u (b - a) c (b' - a') c' C C' (sub-mul b a c' ∙ ap (λ (x : ℕ). x - a * c') q ∙ ap (λ (x : ℕ). b' * c - x) p ∙ sym (sub-mul b' a' c)) in
    let two : (u : Bool) → round f u (a - b) c ≡ round f u (a' - b') c' = λ u. round_same f u (a - b) c (a' - b') c' C C' (sub-mul a b c' ∙ ap (λ (x : ℕ). x - b * c') p ∙ ap (λ (x : ℕ). a' * c - x) q ∙ sym (sub-mul a' b' c)) in
    let e = same_ltb a b c a' b' c' C C' p q in
    let g = same_ltb b a c b' a' c' C C' q p in
    λ i. cond (beq s t) (plus i) (cond (e i) (one t i) ((ap (λ (x : Bool). round f (s && x) (a - b) c) g ∙ two (s && ltb b' a')) i))

-- ---- what `sum` is, by its cases
pub sum_like : (f : Format) (s : Bool) (a b c : ℕ) → sum f s a s b c ≡ round f s (a + b) c
unfolding sum
sum_like f true a b c = refl
sum_like f false a b c = refl

-- the second part is smaller
pub sum_more : (f : Format) (s : Bool) (a b c : ℕ) → b < a → sum f s a (not s) b c ≡ round f s (a - b) c
unfolding sum
sum_more f true a b c h = ap (λ (x : Bool). cond x (round f false (b - a) c) (round f (ltb b a) (a - b) c)) (le-ltb a b (le_of_lt h)) ∙ ap (λ (x : Bool). round f x (a - b) c) (lt-ltb b a h)
sum_more f false a b c h = ap (λ (x : Bool). cond x (round f true (b - a) c) (round f false (a - b) c)) (le-ltb a b (le_of_lt h))

-- the first is
pub sum_less : (f : Format) (s : Bool) (a b c : ℕ) → a < b → sum f (not s) a s b c ≡ round f s (b - a) c
unfolding sum
sum_less f true a b c h = ap (λ (x : Bool). cond x (round f true (b - a) c) (round f false (a - b) c)) (lt-ltb a b h)
sum_less f false a b c h = ap (λ (x : Bool). cond x (round f false (b - a) c) (round f (ltb b a) (a - b) c)) (lt-ltb a b h)

irr : (a : ℕ) → ltb a a ≡ false
irr a = le-ltb a a (le_refl a)

-- they cancel
pub sum-none : (f : Format) (s : Bool) (a c : ℕ) → sum f s a (not s) a c ≡ round f false 0 c
unfolding sum
sum-none f true a c = ap (λ (x : Bool). cond x (round f false (a - a) c) (round f x (a - a) c)) (irr a) ∙ ap (λ (x : ℕ). round f false x c) (sub_self a)
sum-none f false a c = ap (λ (x : Bool). cond x (round f true (a - a) c) (round f false (a - a) c)) (irr a) ∙ ap (λ (x : ℕ). round f false x c) (sub_self a)

-- so it is one rounding, of the same number at every format
pub record OneRounding (s : Bool) (a : ℕ) (t : Bool) (b c : ℕ) : Type 0 where
  pub sign : Bool
  pub D : ℕ
  pub which : (D ≡ a + b) ⊎ ((D ≡ a - b) ⊎ (D ≡ b - a))
  pub under : D ≤ a + b
  pub is : (f : Format) → sum f s a t b c ≡ round f sign D c

one_less : (s : Bool) (a b c : ℕ) → a < b → OneRounding (not s) a s b c
one_less s a b c l = record { sign = s; D = b - a; which = inr (inr refl); under = omega arith; is = λ f. sum_less f s a b c l }

one_more : (s : Bool) (a b c : ℕ) → b < a → OneRounding s a (not s) b c
one_more s a b c l = record { sign = s; D = a - b; which = inr (inl refl); under = omega arith; is = λ f. sum_more f s a b c l }

one_none : (s : Bool) (a b c : ℕ) → a ≡ b → OneRounding s a (not s) b c
one_none s a b c e = record {
  sign = false;
  D = 0;
  which = inr (inl (omega arith));
  under = omega arith;
  is = λ f. ap (λ (x : ℕ). sum f s a (not s) x c) (sym e) ∙ sum-none f s a c;
}

pub one_rounding : (s : Bool) (a : ℕ) (t : Bool) (b c : ℕ) → OneRounding s a t b c
one_rounding true a true b c = record { sign = true; D = a + b; which = inl refl; under = le_refl (a + b); is = λ f. sum_like f true a b c }
one_rounding false a false b c = record { sign = false; D = a + b; which = inl refl; under = le_refl (a + b); is = λ f. sum_like f false a b c }
one_rounding true a false b c = elim (split_le a b) [ inl h ↦ elim (eq-or-lt_of_le h) [ inl e ↦ one_none true a b c e | inr l ↦ one_less false a b c l ] | inr l ↦ one_more true a b c l ]
one_rounding false a true b c = elim (split_le a b) [ inl h ↦ elim (eq-or-lt_of_le h) [ inl e ↦ one_none false a b c e | inr l ↦ one_less true a b c l ] | inr l ↦ one_more false a b c l ]

-- of two multiples of 2 ^ w it is a multiple, and of no more than both together
pub record MultipleOf (D X Y w : ℕ) : Type 0 where
  pub E : ℕ
  pub is : D ≡ E * 2 ^ w
  pub under : E ≤ X + Y

pub multiple_of : (X Y w : ℕ) {s t : Bool} {c : ℕ} (r : OneRounding s (X * 2 ^ w) t (Y * 2 ^ w) c) → MultipleOf r.D X Y w
multiple_of X Y w r = by r.which
  where
    by : {D : ℕ} → (D ≡ X * 2 ^ w + Y * 2 ^ w) ⊎ ((D ≡ X * 2 ^ w - Y * 2 ^ w) ⊎ (D ≡ Y * 2 ^ w - X * 2 ^ w)) → MultipleOf D X Y w
    by (inl e) = record { E = X + Y; is = e ∙ sym (add-mul X Y (2 ^ w)); under = le_refl (X + Y) }
    by (inr (inl e)) = record { E = X - Y; is = e ∙ sym (sub-mul X Y (2 ^ w)); under = omega arith }
    by (inr (inr e)) = record { E = Y - X; is = e ∙ sym (sub-mul Y X (2 ^ w)); under = omega arith }

-- so that it is zero or no smaller,
pub zero-or_more : (E w : ℕ) → (E * 2 ^ w ≡ 0) ⊎ (2 ^ w ≤ E * 2 ^ w)
zero-or_more zero w = inl (zero-mul (2 ^ w))
zero-or_more (suc E) w = inr (omega (arith, suc-mul E (2 ^ w)))

-- ---- the sum of two floats, by their sizes over one divisor
pub add_at : (f : Format) (x y : Float) (s t : Bool) (a b c : ℕ) → 0 < c → HasValue x s a c → HasValue y t b c → add f x y ≡ sum f s a t b c
unfolding add
add_at f nan y s t a b c C p q = absurd p
add_at f (inf u) y s t a b c C p q = absurd p
add_at f (fin u m e) nan s t a b c C p q = absurd q
add_at f (fin u m e) (inf w) s t a b c C p q = absurd q
add_at f (fin u m e) (fin w n d) s t a b c C p q =
    sum_same f u (m * up e * down d) w (n * up d * down e) (down e * down d) a b c (mul-pos (down_pos e) (down_pos d)) C
    (mul_right_comm (m * up e) (down d) c ∙ ap (λ (x : ℕ). x * down d) p.1 ∙ mul_assoc a (down e) (down d))
    (mul_right_comm (n * up d) (down e) c ∙ ap (λ (x : ℕ). x * down e) q.1 ∙ mul_assoc b (down d) (down e) ∙ ap (λ (x : ℕ). b * x) (mul_comm (down d) (down e)))
    ∙ (λ i. sum f (p.0 i) a (q.0 i) b c)

-- and the product
pub mul_val : (f : Format) (x y : Float) (s t : Bool) (a b c d : ℕ) → 0 < c → 0 < d → HasValue x s a c → HasValue y t b d → mul f x y ≡ round f (unlike s t) (a * b) (c * d)
unfolding mul
mul_val f nan y s t a b c d C D p q = absurd p
mul_val f (inf u) y s t a b c d C D p q = absurd p
mul_val f (fin u m e) nan s t a b c d C D p q = absurd q
mul_val f (fin u m e) (inf w) s t a b c d C D p q = absurd q
mul_val f (fin u m e) (fin w n i) s t a b c d C D p q =
    round_same f (unlike u w) (m * up e * (n * up i)) (down e * down i) (a * b) (c * d) (mul-pos (down_pos e) (down_pos i)) (mul-pos C D)
    (mul-mul-mul_comm (m * up e) (n * up i) c d ∙ ap (λ (z : ℕ). z * (n * up i * d)) p.1 ∙ ap (λ (z : ℕ). a * down e * z) q.1 ∙ mul-mul-mul_comm a (down e) b (down i))
    ∙ (λ j. round f (unlike (p.0 j) (q.0 j)) (a * b) (c * d))
