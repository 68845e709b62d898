-- The numbers that are printed are below a hundred: a width is at most 3, a position is below the count, and the refusals go to 10.
-- By the bounds of what the check tells.
use Rattle.std.specs.Prelude.{Ok, Err}
use Prim.Native.Nat.{ℕ, ◌<◌}
use mathlib.Core.Path.{◌≡◌}
use native.Mathlib.Omega.{arith}
use Rattle.list.specs.Lists.{Lawful}
use Rattle.list.specs.Check.{check_of}
use Rattle.list.specs.declared.Plan.{Plan}
use Rattle.list.specs.declared.CheckError.TheVariants.{Misfit}
use Rattle.list.proofs.Bounds.{start-within, misfit-lawful, width-within, position-below}
use Rattle.block_read.specs.Block.{paper}
use Rattle.block_read.specs.Block.{Reading}
use Rattle.block_read.specs.declared.ReadError.TheVariants.{Short, WrongMark, BadOp, Malformed}

module _ (p : Plan) where
  pub start_small : Lawful p → p.start < 100
  start_small l = let h = (start-within p l).few in omega arith

  pub width_small : {w : ℕ} → check_of p ≡ Ok w → w < 100
  width_small e = let h = (width-within p e).few in omega arith

  pub position-small : {i : ℕ} → check_of p ≡ (Err (Misfit i)) → i < 32
  position-small e = let h = (misfit-lawful p e).0.1 in omega (arith, position-below p e)

pub number_small : (a : Reading) → (paper a).number < 100
number_small (Ok tt) = omega arith
number_small (Err Short) = omega arith
number_small (Err WrongMark) = omega arith
number_small (Err BadOp) = omega arith
number_small (Err Malformed) = omega arith
