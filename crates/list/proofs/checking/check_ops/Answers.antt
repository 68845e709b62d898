-- `checking::check_ops` meets its contract.
-- What remains from a position begins with the op in that slot, and the verdict on it goes on with the rest.
use Prim.Native.Nat.{◌<◌, ◌≤◌}
use mathlib.Core.Path.{sym, ◌∙◌}
use native.Mathlib.Omega.{arith}
use lib.ListN.{length}
use Rattle.list.proofs.Turn.{stops, goes, ends}
use Rattle.list.proofs.checking.check_ops.Goals as goal

pub returns-then-not-fits : goal.returns-then-not-fits
returns-then-not-fits c =
    let k : c.loop-position.position < length c.args.ops.now = omega arith in
    sym (stops _ _ _ _ k c.fits.ensures c.if-not-fits.true) ∙ c.loop-position.invariant

pub loop-position-preserved : goal.loop-position-preserved
loop-position-preserved c =
    let k : c.loop-position.position < length c.args.ops.now = omega arith in
    sym (goes _ _ _ _ k c.fits.ensures c.if-not-fits.false c.gives-width.ensures) ∙ c.loop-position.invariant

pub returns : goal.returns
returns c =
    let k : length c.args.ops.now ≤ c.loop-position.position = omega arith in
    sym (ends _ _ _ k) ∙ c.loop-position.invariant
