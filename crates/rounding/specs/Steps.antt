-- What the quick forms of `mul_add` and of the loops over samples ask and compute. Nothing that a crate promises outside rests on believing this page.
use Rattle.std.specs.Prelude.{◌≡◌, ℕ, ◌+◌, ◌*◌, ◌/◌, ◌%◌, ◌^◌, ◌≤◌, Bool, not, ◌&&◌, T, ◌⊎◌, ◌==◌, ◌≢◌, from_bits, is_nan, to_bits, Float}
use Rattle.std.specs.Float.Ieee.{add, fits, mul, nan_bits, sub}
use Rattle.std.specs.Float.{binary32, binary64}

-- 2 ^ 29 times an f64: an f64 has 29 digits more than an f32
abbrev pub lifted : Float → Float
lifted x = mul binary64 x (from_bits binary64 0x41c0_0000_0000_0000)

-- an f64 rounded to 24 digits by three operations of f64
unfoldable pub cut : Float → Float
cut x = sub binary64 (lifted x) (sub binary64 (lifted x) x)

-- cutting x gives r, a value of f32: so the cast of it is defined
pub record Narrows (x r : Float) : Type 0 where
  pub single : T (fits binary32 (cut x) && not (is_nan (cut x)))
  pub is : cut x ≡ r

-- the pattern of an f64 that is not half way between two values of f32, and whose exponent is one of f32's normal ones
abbrev pub NotHalfWay : ℕ → Type 0
NotHalfWay b =
    (b % 0x2000_0000 ≢ 0x1000_0000)
    × (898 ≤ b % 0x8000_0000_0000_0000 / 0x10_0000_0000_0000)
    × (b % 0x8000_0000_0000_0000 / 0x10_0000_0000_0000 ≤ 1149)

-- or of a zero
abbrev pub Clear : ℕ → Type 0
Clear b = (b % 0x8000_0000_0000_0000 ≡ 0) ⊎ NotHalfWay b

-- a pattern of an f64, and half of what the last of 24 digits weighs; no number's pattern is so large that the sum wraps
abbrev pub moved : ℕ → ℕ
moved w = (w + 0x1000_0000) % 2 ^ 64

-- the pattern with nothing below the 24 digits: that of an f64 rounded to them, a tie going away from zero
abbrev pub dropped : ℕ → ℕ
dropped w = moved w / 0x2000_0000 * 0x2000_0000

-- the f64 was not half way between two values of f32: the test,
abbrev pub sure : ℕ → Bool
sure w = not (moved w % 0x2000_0000 == 0)

-- and in words
abbrev pub Sure : Float → Type 0
Sure x = ¬ (moved (to_bits binary64 x) % 0x2000_0000 ≡ 0)

unfoldable pub rounded : Float → Float
rounded x = from_bits binary64 (dropped (to_bits binary64 x))

-- both patterns are those of numbers, the second of one of f32: so reading the one, and making and casting the other, is defined
pub record Rounds (x : Float) : Type 0 where
  pub real : T (not (is_nan x))
  pub still : T (not (nan_bits binary64 (dropped (to_bits binary64 x))))
  pub single : T (fits binary32 (rounded x) && not (is_nan (rounded x)))

-- a * b + c at f64, and rounded so
abbrev pub sum_of : Float → Float → Float → Float
sum_of a b c = add binary64 (mul binary64 a b) c

abbrev pub by_f64 : Float → Float → Float → Float
by_f64 a b c = rounded (sum_of a b c)

-- the first twelve digits of an f32, by its pattern, and the others
unfoldable pub upper : Float → Float
upper x = from_bits binary32 (to_bits binary32 x / 0x1000 * 0x1000)

abbrev pub lower : Float → Float
lower x = sub binary32 x (upper x)

-- both patterns are those of numbers: so taking them apart is defined
pub record Parted (x : Float) : Type 0 where
  pub real : T (not (is_nan x))
  pub still : T (not (nan_bits binary32 (to_bits binary32 x / 0x1000 * 0x1000)))

-- what a product loses by its rounding, from the products of the parts
abbrev pub lost : Float → Float → Float → Float
lost a b p =
    add binary32 (add binary32 (add binary32 (sub binary32 (mul binary32 (upper a) (upper b)) p) (mul binary32 (upper a) (lower b))) (mul binary32 (lower a) (upper b))) (mul binary32 (lower a) (lower b))

-- a * b + c at f32, with what the product and the sum lost put back
abbrev pub restored : Float → Float → Float → Float → Float
restored c p s l = add binary32 s (add binary32 (sub binary32 c (sub binary32 s p)) l)

unfoldable pub by_parts : Float → Float → Float → Float
by_parts a b c = restored c (mul binary32 a b) (add binary32 (mul binary32 a b) c) (lost a b (mul binary32 a b))
