-- `padded` meets its contract.
-- The ops stand where the first of thirty-two Clips did.
use Rattle.list.proofs.Building.{filled}
use Rattle.list.proofs.padded.Goals as goal

pub returns : goal.returns
returns c = rw c.empty-out.ensures (filled _ _ _ c.requires.0 (rw c.empty-out.ensures at c.put_front.ensures) _ c.requires.1)
