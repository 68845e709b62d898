-- `put_together` answers the float of the sign and the magnitude.
-- Up to an infinity's magnitude the pattern is no NaN's, so that `from_bits` reads it.
use mathlib.Core.Bool.{false, true}
use native.Mathlib.Nat.{zero-add}
use native.Mathlib.Omega.{arith}
use borrow.Author.Tests.{lt-leb}
use Rattle.binary32.proofs.Nan.{nan_pattern}
use Rattle.binary32.proofs.Pattern.{no_nan}
use Rattle.binary32.proofs.put_together.Goals as goal

pub returns-then-magnitude-gt2139095040 : goal.returns-then-magnitude-gt2139095040
returns-then-magnitude-gt2139095040 c = rw (lt-leb _ _ c.if-magnitude-gt2139095040.true) (nan_pattern 0x7fc0_0000 (omega arith))

pub float_from_bits-result : goal.float_from_bits-result
float_from_bits-result c = no_nan true _ c.if-magnitude-gt2139095040.false

pub float_from_bits-result-else-negative : goal.float_from_bits-result-else-negative
float_from_bits-result-else-negative c = rw zero-add at (no_nan false _ c.if-magnitude-gt2139095040.false)
