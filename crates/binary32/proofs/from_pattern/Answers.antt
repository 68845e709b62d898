-- `from_pattern` answers the float with these bits.
-- Up to an infinity's magnitude the pattern is no NaN's, so that `from_bits` reads it; above it both are the NaN.
use mathlib.Core.Path.{sym, ◌∙◌}
use native.Mathlib.Omega.{arith}
use Rattle.binary32.proofs.Nan.{nan_pattern, no_nan_pattern}
use Rattle.binary32.proofs.from_pattern.Goals as goal

pub returns-then-pattern-gt2139095040 : goal.returns-then-pattern-gt2139095040
returns-then-pattern-gt2139095040 c = nan_pattern 0x7fc0_0000 (omega arith) ∙ sym (nan_pattern c.args.pattern (omega arith))

pub float_from_bits-result : goal.float_from_bits-result
float_from_bits-result c = no_nan_pattern c.args.pattern (omega arith)
