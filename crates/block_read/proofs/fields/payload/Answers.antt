-- `fields::payload` meets its contract.
-- The next field's bytes come before those of the fields behind it; nine fields have few bytes.
use Prim.Native.Nat.{◌<◌, ◌≤◌}
use native.Mathlib.Omega.{arith}
use lib.ListN.{length, length-map}
use Rattle.op_fields.specs.Parts.{field_in}
use Rattle.block_read.proofs.Walking.{said, bytes_small, bytes_next, none_left}
use Rattle.block_read.proofs.fields.payload.Goals as goal

pub overflow_add-size : goal.overflow_add-size
overflow_add-size c =
    let v = c.loop-blank in
    let bs = c.args.blanks.now in
    let k : v.blank-index < length bs = omega arith in
    omega (arith, bytes_next bs v.blank-index v.size k c.size_of-size.ensures v.invariant, bytes_small (said bs), length-map bs field_in, c.requires)

pub loop-blank-preserved : goal.loop-blank-preserved
loop-blank-preserved c =
    let v = c.loop-blank in
    let bs = c.args.blanks.now in
    let k : v.blank-index < length bs = omega arith in
    bytes_next bs v.blank-index v.size k c.size_of-size.ensures v.invariant

pub returns : goal.returns
returns c =
    let v = c.loop-blank in
    let bs = c.args.blanks.now in
    let k : length bs ≤ v.blank-index = omega arith in
    omega (arith, rw (none_left bs v.blank-index k) at v.invariant)
