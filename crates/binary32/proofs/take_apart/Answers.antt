-- `take_apart` answers the parts of its argument.
-- Each way through the fields of the pattern is a law of `Fields`.
use mathlib.Core.Path.{sym, ap, subst, ◌∙◌}
use native.Mathlib.Nat.{lt_of_lt_of_le}
use lib.Dec.{T, lit≤}
use lib.Ieee.{binary32}
use lib.Ieee.Bits.{to_bits-lt}
use Rattle.binary32.specs.Parts.{parts_of}
use Rattle.binary32.proofs.Nan.{number, only_nan}
use Rattle.binary32.proofs.Fields.{all_ones, no_leading_digit, leading_digit}
use Rattle.binary32.proofs.take_apart.Goals as goal

pub returns-then-is_nan : goal.returns-then-is_nan
returns-then-is_nan c = sym (ap parts_of (only_nan _ (sym c.is_nan.ensures.value ∙ c.if-is_nan.true)))

-- that the format holds an f32 is told by owning it
pub overflow_cast-bits : goal.overflow_cast-bits
overflow_cast-bits c = record { fits = lt_of_lt_of_le (to_bits-lt binary32 c.args.x (subst T (sym c.well_formed.0.1) tt)) (lit≤ tt) }

pub returns-then-exponent-eq255 : goal.returns-then-exponent-eq255
returns-then-exponent-eq255 c = all_ones _ (subst T (sym c.well_formed.0.1) tt) (number _ (sym c.is_nan.ensures.value ∙ c.if-is_nan.false)) c.if-exponent-eq255.true

pub returns-then-exponent-eq0 : goal.returns-then-exponent-eq0
returns-then-exponent-eq0 c = no_leading_digit _ (subst T (sym c.well_formed.0.1) tt) (number _ (sym c.is_nan.ensures.value ∙ c.if-is_nan.false)) c.if-exponent-eq0.true

pub returns : goal.returns
returns c = leading_digit _ (subst T (sym c.well_formed.0.1) tt) (number _ (sym c.is_nan.ensures.value ∙ c.if-is_nan.false)) c.if-exponent-eq255.false c.if-exponent-eq0.false
