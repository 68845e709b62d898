-- Where the digits that patterns have together are in the window, every sample is ordinary.
-- What any has is no less than what each has, and what all have no more (`lib.Bits`); the exponent's field gives the place of the last digit (`Fields`).
use Rattle.std.proofs.Common.{◌≡◌, ℕ, ◌+◌, ◌-◌, ◌*◌, ◌%◌, ◌^◌, ◌<◌, ◌≤◌, Bool, true, false, not, T, leb, sym, refl, ap, subst, inl, inr, le_trans, lt_of_le_of_lt, eq-zero-or-pos, arith, lit≤}
use lib.Bits.{and_le_l, and_le_r, and_mod, bit_and, bit_or, or_add_and, or_mod}
use lib.Ieee.{Float, binary32, fin, fits, inf, is_nan, lt, nan, of_bits, to_bits}
use lib.Ieee.Exact.{HasValue}
use Rattle.notation.specs.Choice.{when◌then◌else◌}
use Rattle.notation.specs.F32.{bits}
use Rattle.binary32.proofs.Apart.{is_finite}
use Rattle.binary32.proofs.Fields.{exponent, leading_digit, no_leading_digit}
use Rattle.ciexyz.specs.declared.Vec3.{Vec3}
use Rattle.ycbcr_float.specs.Steps.{Ordinary, Ready, Single, Within, all_of, any_of, one_less, pattern_of}

-- ---- a sample by its pattern
module _ (x : Float) (f : T (fits binary32 x)) (n : T (not (is_nan x))) where
  by_zero : to_bits binary32 x % 0x8000_0000 ≡ 0 → Ordinary x
  by_zero z =
      let s = leb 0x8000_0000 (to_bits binary32 x) in
      let d = is_finite x s _ 0 f (no_leading_digit x f n (omega arith)) in
      let e : to_bits binary32 x % 0x80_0000 * 2 ^ 0 ≡ 0 = ap (λ (k : ℕ). k * 2 ^ 0) (below (to_bits binary32 x) z) in
      record { single = f; sign = s; M = 0; y = 95; value = subst (λ (k : ℕ). HasValue x s k (2 ^ 149)) e d.value; few = lit≤ tt; low = lit≤ tt; high = lit≤ tt }
    where
      below : (w : ℕ) → w % 0x8000_0000 ≡ 0 → w % 0x80_0000 ≡ 0
      below w z = omega arith

  by_place : 0x3000_0000 ≤ to_bits binary32 x % 0x8000_0000 → to_bits binary32 x % 0x8000_0000 < 0x4000_0000 → Ordinary x
  by_place l h =
      let d = is_finite x _ _ _ f (leading_digit x f n (λ e. omega arith) (λ e. omega arith)) in
      record { single = f; sign = _; M = _; y = exponent (to_bits binary32 x) - 1; value = d.value; few = d.few; low = omega arith; high = omega arith }

  by-pattern : to_bits binary32 x % 0x8000_0000 < 0x4000_0000 → 0x3000_0000 ≤ (to_bits binary32 x + 0xffff_ffff) % 2 ^ 32 % 0x4000_0000 → Ordinary x
  by-pattern h l = elim (eq-zero-or-pos (to_bits binary32 x % 0x8000_0000)) [ inl z ↦ by_zero z | inr p ↦ by_place (over (to_bits binary32 x) p h l) h ]
    where
      over : (w : ℕ) → 0 < w % 0x8000_0000 → w % 0x8000_0000 < 0x4000_0000 → 0x3000_0000 ≤ (w + 0xffff_ffff) % 2 ^ 32 % 0x4000_0000 → 0x3000_0000 ≤ w % 0x8000_0000
      over w p h l = omega arith

-- a sample below another is no NaN
real_below : (x y : Float) → lt x y ≡ true → T (not (is_nan x))
unfolding lt is_nan
real_below nan y e = absurd (subst T (sym e) tt)
real_below (inf s) y e = tt
real_below (fin s m k) y e = tt

-- 2 is not in the window
two_out : to_bits binary32 (bits 0x4000_0000) % 0x8000_0000 < 0x4000_0000 → ⊥
unfolding of_bits to_bits
two_out h = omega arith

in_window : (x : Float) → T (fits binary32 x) → pattern_of x % 0x8000_0000 < 0x4000_0000 → 0x3000_0000 ≤ one_less x % 0x4000_0000 → Ordinary x
in_window x f = by (lt x (bits 0x4000_0000)) (real_below x (bits 0x4000_0000))
  where
    by : (b : Bool) → (b ≡ true → T (not (is_nan x))) → let w = to_bits binary32 (when b then x else bits 0x4000_0000) in w % 0x8000_0000 < 0x4000_0000 → 0x3000_0000 ≤ (w + 0xffff_ffff) % 2 ^ 32 % 0x4000_0000 → Ordinary x
    by true n h l = by-pattern x f (n refl) h l
    by false n h l = absurd (two_out h)

-- ---- many at once: what any has is no less than what each has, and what all have no more
or_over : (a b : ℕ) → (a % 0x8000_0000 ≤ bit_or a b % 0x8000_0000) × (b % 0x8000_0000 ≤ bit_or a b % 0x8000_0000)
or_over a b =
    let m = a % 0x8000_0000 in
    let n = b % 0x8000_0000 in
    let e : bit_or a b % 0x8000_0000 ≡ bit_or m n = or_mod a b 31 in
    let s = or_add_and m n in
    let l = and_le_l m n in
    let r = and_le_r m n in
    (omega arith, omega arith)

and_under : (a b : ℕ) → (bit_and a b % 0x4000_0000 ≤ a % 0x4000_0000) × (bit_and a b % 0x4000_0000 ≤ b % 0x4000_0000)
and_under a b =
    let m = a % 0x4000_0000 in
    let n = b % 0x4000_0000 in
    let e : bit_and a b % 0x4000_0000 ≡ bit_and m n = and_mod a b 30 in
    let l = and_le_l m n in
    let r = and_le_r m n in
    (omega arith, omega arith)

-- x is among the samples whose digits these are
pub record Shown (any all : ℕ) (x : Float) : Type 0 where
  single : T (fits binary32 x)
  large : pattern_of x % 0x8000_0000 ≤ any % 0x8000_0000
  small : all % 0x4000_0000 ≤ one_less x % 0x4000_0000

abbrev pub AllShown : ℕ → ℕ → Vec3 → Type 0
AllShown any all s = Shown any all s.v0 × Shown any all s.v1 × Shown any all s.v2

-- and with one sample more
shown_still : (any all w b : ℕ) (x : Float) → Shown any all x → Shown (bit_or any w) (bit_and all b) x
shown_still any all w b x h = record { single = h.single; large = le_trans h.large (or_over any w).0; small = le_trans (and_under all b).0 h.small }

shown_now : (any all : ℕ) (x : Float) → T (fits binary32 x) → Shown (bit_or any (pattern_of x)) (bit_and all (one_less x)) x
shown_now any all x f = record { single = f; large = (or_over any (pattern_of x)).1; small = (and_under all (one_less x)).1 }

-- with a pixel more
module _ (any all : ℕ) (s : Vec3) (any' all' : ℕ) (p : any' ≡ any_of any s) (q : all' ≡ all_of all s) where
  on-third : (a b : ℕ) (x : Float) → Shown a b x → Shown (bit_or a (pattern_of s.v2)) (bit_and b (one_less s.v2)) x
  on-third a b = shown_still a b (pattern_of s.v2) (one_less s.v2)

  after_first : (x : Float) → Shown (bit_or any (pattern_of s.v0)) (bit_and all (one_less s.v0)) x → Shown (any_of any s) (all_of all s) x
  after_first x h = on-third _ _ x (shown_still _ _ (pattern_of s.v1) (one_less s.v1) x h)

  still : (x : Float) → Shown any all x → Shown (any_of any s) (all_of all s) x
  still x h = after_first x (shown_still any all (pattern_of s.v0) (one_less s.v0) x h)

  pub still-shown : (t : Vec3) → AllShown any all t → AllShown any' all' t
  still-shown t h = rw (p, q) (still t.v0 h.0, still t.v1 h.1, still t.v2 h.2)

  pub now-shown : Single s → AllShown any' all' s
  now-shown f =
      let a = bit_or any (pattern_of s.v0) in
      let b = bit_and all (one_less s.v0) in
      rw (p, q) (after_first s.v0 (shown_now any all s.v0 f.0), on-third _ _ s.v1 (shown_now a b s.v1 f.1), shown_now (bit_or a (pattern_of s.v1)) (bit_and b (one_less s.v1)) s.v2 f.2)

pub ready_within : (any all : ℕ) (s : Vec3) → Within any all → AllShown any all s → Ready s
ready_within any all s w h = record { cb = on s.v0 h.0; y = on s.v1 h.1; cr = on s.v2 h.2 }
  where
    on : (x : Float) → Shown any all x → Ordinary x
    on x k = in_window x k.single (lt_of_le_of_lt k.large w.0) (le_trans w.1 k.small)
