-- `one_if_bad` is 1 for a sample that is infinite or NaN.
-- No other is not finite.
use Rattle.bad_samples.proofs.Infinite.{not_finite}
use Rattle.bad_samples.proofs.one_if_bad.Goals as goal

pub returns : goal.returns
returns c = cc (not_finite c.args.x)
