-- `coordinate` answers `coordinate_of`.
-- The kit's nearest float of the whole number, divided as the spec divides it.
use Rattle.std.proofs.Common.{rules}
use Rattle.ciexyz.proofs.consts.coordinate.Goals as goal

pub returns : goal.returns
returns c = rw c.nearest_i32_to_f32.ensures (search rules)
