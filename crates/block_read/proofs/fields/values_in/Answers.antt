-- `fields::values_in` meets its contract.
-- The next value is stored behind those read already.
use Prim.Native.Nat.{◌<◌, ◌≤◌}
use mathlib.Core.Path.{◌≡◌, refl, sym, ◌∙◌}
use mathlib.Core.List.{map, append-nil}
use native.Mathlib.Omega.{arith}
use borrow.Author.Rules.{rules}
use lib.ListN.{length, take, length-set}
use Rattle.op_fields.specs.Parts.{value_of}
use Rattle.block_read.proofs.Walking.{bytes_next, stored, room, none_left}
use Rattle.block_read.proofs.fields.values_in.Goals as goal

pub loop-i-init : goal.loop-i-init
loop-i-init c = (search rules, omega arith, refl)

pub value_in-requires : goal.value_in-requires
value_in-requires c =
    let v = c.loop-i in
    let bs = c.args.blanks.now in
    let k : v.i < length bs = omega arith in
    room bs v.i v.at k c.args.s.now (omega (arith, v.invariant.1, c.requires.blanks_room))

pub overflow_add-at : goal.overflow_add-at
overflow_add-at c =
    let v = c.loop-i in
    let bs = c.args.blanks.now in
    let k : v.i < length bs = omega arith in
    omega (arith, bytes_next bs v.i v.at k c.size_of-at.ensures v.invariant.1, c.requires.blanks_room)

pub loop-i-preserved : goal.loop-i-preserved
loop-i-preserved c =
    let v = c.loop-i in
    let bs = c.args.blanks.now in
    let k : v.i < length bs = omega arith in
    let n = v.invariant.0 in
    let few = c.requires.blanks_few in (
      length-set v.cells v.i _ ∙ n,
      bytes_next bs v.i v.at k c.size_of-at.ensures v.invariant.1,
      stored bs v.i v.at k c.size_of-at.ensures c.args.s.now v.cells (omega arith) c.value_in.ensures v.invariant.2,
    )

pub returns : goal.returns
returns c =
    let v = c.loop-i in
    let bs = c.args.blanks.now in
    let k : length bs ≤ v.i = omega arith in
    let e : v.i ≡ length bs = omega arith in
    sym (append-nil (map value_of (take (length bs) v.cells))) ∙ rw (none_left bs v.i k, e) at v.invariant.2
