-- `point` answers `point_of`.
-- Each call's result stands for its meaning, and a signed field read back from its bits is the field.
use Rattle.std.proofs.Common.{rules}
use Rattle.ciexyz.proofs.consts.point.Goals as goal

pub returns : goal.returns
returns c = rw (c.coordinate.ensures, c.coordinate-2.ensures) (search rules)
