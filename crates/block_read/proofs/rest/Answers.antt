-- `rest` meets its contract.
-- The block ends within the bytes, so that what follows it is a part of them.
use Prim.Native.Nat.{◌≤◌, ◌+◌}
use mathlib.Core.Path.{ap, ◌∙◌}
use lib.ListN.{length, drop}
use Rattle.block_read.specs.declared.Block.{Block}
use Rattle.block_read.proofs.Walking.{to_end}
use Rattle.block_read.proofs.Judging.{used-fits}
use Rattle.block_read.proofs.rest.Goals as goal

pub slice_bounds-result-count : goal.slice_bounds-result-count
slice_bounds-result-count c =
    let within : c.read-used.result.used ≤ length c.args.bytes.now = rw c.read-used.ensures (used-fits c.args.bytes.now) in
    within

pub slice_bounds-result-start : goal.slice_bounds-result-start
slice_bounds-result-start c =
    let within : c.read-used.result.used ≤ length c.args.bytes.now = rw c.read-used.ensures (used-fits c.args.bytes.now) in
    within

pub returns : goal.returns
returns c =
    let b = c.args.bytes in
    record {
      contents = to_end b.now c.read-used.result.used ∙ ap (λ (x : Block). drop x.used b.now) c.read-used.ensures;
      place = ap (λ (x : Block). (b.ref_ptr.0, x.used + b.ref_ptr.1)) c.read-used.ensures;
    }
