-- A number of 53 digits at most is exact at binary64: the product of two f32 is.
-- By the kit's law of exact rounding, in units of the smallest f64.
use Rattle.std.proofs.Common.{◌≡◌, ℕ, ◌+◌, ◌*◌, ◌^◌, ◌<◌, ◌≤◌, Bool, sym, ap, ◌∙◌, lt_of_lt_of_le, mul_assoc, arith, pow_pos, pow_mono, pow-add, shl_lt}
use lib.Ieee.{binary64, round}
use lib.Ieee.Exact.{HasValue, round_exact}

-- ---- S * 2 ^ w over 2 ^ 298, S of at most 53 digits: exact at binary64
pub fine : (t : Bool) (S w : ℕ) → S < 0x20_0000_0000_0000 → w ≤ 1200 → HasValue (round binary64 t (S * 2 ^ w) (2 ^ 298)) t (S * 2 ^ w) (2 ^ 298)
fine t S w h l =
    round_exact binary64 t (S * 2 ^ w) (2 ^ 298) S (w + 776) (pow_pos 298) h (lt_of_lt_of_le (shl_lt 53 (w + 776) h) (pow_mono (under w l)))
    (mul_assoc S (2 ^ w) (2 ^ 1074) ∙ ap (λ (x : ℕ). S * x) (sym (pow-add 2 w 1074) ∙ ap (λ (x : ℕ). 2 ^ x) (sums w) ∙ pow-add 2 (w + 776) 298) ∙ sym (mul_assoc S (2 ^ (w + 776)) (2 ^ 298)))
  where
    under : (w : ℕ) → w ≤ 1200 → 53 + (w + 776) ≤ 2098
    under w l = omega arith

    sums : (w : ℕ) → w + 1074 ≡ w + 776 + 298
    sums w = omega arith
