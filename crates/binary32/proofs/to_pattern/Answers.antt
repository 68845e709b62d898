-- `to_pattern` answers the bits of a float, and of a NaN 7fc00000.
-- Past the test the float is the one NaN.
use Rattle.std.proofs.Common.{ap, sym, ◌∙◌}
use lib.Ieee.{binary32, to_bits}
use Rattle.binary32.proofs.Nan.{only_nan}
use Rattle.binary32.proofs.to_pattern.Goals as goal

pub returns-then-is_nan : goal.returns-then-is_nan
unfolding to_bits
returns-then-is_nan c = sym (ap (to_bits binary32) (only_nan _ (sym c.is_nan.ensures.value ∙ c.if-is_nan.true)))
