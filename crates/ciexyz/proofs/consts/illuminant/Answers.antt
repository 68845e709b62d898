-- `illuminant` answers `illuminant_of`.
-- Each arm knows its case of the white point. For E both sides are computed: the code's constant is folded, the spec divides.
use lib.Ieee.{div, of_bits}
use Rattle.ciexyz.proofs.consts.illuminant.Goals as goal

pub returns-in-D65 : goal.returns-in-D65
returns-in-D65 c = rw c.in-D65.is

pub returns-in-E : goal.returns-in-E
unfolding div of_bits
returns-in-E c = rw c.in-E.is

pub returns-in-Dci : goal.returns-in-Dci
returns-in-Dci c = rw c.in-Dci.is

pub returns-in-Custom : goal.returns-in-Custom
returns-in-Custom c = rw c.in-Custom.is c.point.ensures
