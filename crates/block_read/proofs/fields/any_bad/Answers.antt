-- `fields::any_bad` meets its contract.
-- The next field is the first of those that are left, and what follows its bytes is read as the rest of them.
use Prim.Native.Nat.{◌<◌, ◌≤◌}
use mathlib.Core.Path.{◌∙◌}
use native.Mathlib.Omega.{arith}
use lib.ListN.{length}
use Rattle.block_read.proofs.Walking.{bytes_next, bad-next, bad-here, room, none_left}
use Rattle.block_read.proofs.fields.any_bad.Goals as goal

pub is_bad-requires : goal.is_bad-requires
is_bad-requires c =
    let v = c.loop-blank in
    let bs = c.args.blanks.now in
    let k : v.blank-index < length bs = omega arith in
    room bs v.blank-index v.at k c.args.s.now (omega (arith, v.invariant.0, c.requires))

pub returns-then-is_bad : goal.returns-then-is_bad
returns-then-is_bad c =
    let v = c.loop-blank in
    let bs = c.args.blanks.now in
    let k : v.blank-index < length bs = omega arith in
    bad-here bs v.blank-index v.at k c.args.s.now c.is_bad.ensures c.if-is_bad.true ∙ v.invariant.1

pub overflow_add-at : goal.overflow_add-at
overflow_add-at c =
    let v = c.loop-blank in
    let bs = c.args.blanks.now in
    let k : v.blank-index < length bs = omega arith in
    omega (arith, bytes_next bs v.blank-index v.at k c.size_of-at.ensures v.invariant.0, c.requires)

pub loop-blank-preserved : goal.loop-blank-preserved
loop-blank-preserved c =
    let v = c.loop-blank in
    let bs = c.args.blanks.now in
    let k : v.blank-index < length bs = omega arith in (
      bytes_next bs v.blank-index v.at k c.size_of-at.ensures v.invariant.0,
      bad-next bs v.blank-index v.at k c.size_of-at.ensures c.args.s.now c.is_bad.ensures c.if-is_bad.false ∙ v.invariant.1,
    )

pub returns : goal.returns
returns c =
    let v = c.loop-blank in
    let bs = c.args.blanks.now in
    let k : length bs ≤ v.blank-index = omega arith in
    rw (none_left bs v.blank-index k) at v.invariant.1
