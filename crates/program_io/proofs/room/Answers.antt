-- `pictures::room` has the length that it says.
-- By the law on a repeated element, since counting so many one by one is too much for the check.
use Prim.Native.Nat.{ℕ}
use mathlib.Core.Path.{sym}
use lib.ListN.{length-replicate}
use Rattle.program_io.proofs.room.Goals as goal

pub returns : goal.returns
returns c = sym (length-replicate {0} {A = ℕ} 790528 0)
