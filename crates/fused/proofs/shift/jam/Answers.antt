-- `jam` shifts down, and leaves an odd last digit where something was lost.
-- Where all of a number is shifted out, that is a law of `Shifts`.
use Rattle.fused.proofs.Shifts.{jam-all}
use Rattle.fused.proofs.shift.jam.Goals as goal

pub returns-else-n-eq0 : goal.returns-else-n-eq0
returns-else-n-eq0 c = jam-all _ _ c.requires c.if-n-eq0.false c.if-d-gt61.true
