-- `read_op` meets its contract.
-- Behind the tests each return is what `op_in` says (Front), of the fields that the kind has (Laid).
use mathlib.Core.Path.{◌≡◌, sym, ◌∙◌}
use borrow.Author.Rules.{rules}
use borrow.Author.Tests.{eqb-false}
use lib.ListN.{length, take}
use lib.Seq.{length-take-le}
use Rattle.block_read.specs.Fields.{byte_at}
use Rattle.block_read.proofs.Laid.{few, size_is, bad-is, op-is}
use Rattle.block_read.proofs.Front.{bad, good}
use Rattle.block_read.proofs.read_op.Goals as goal

pub returns-then-any_bad : goal.returns-then-any_bad
returns-then-any_bad c =
    let s = c.args.s.now in
    let kind = byte_at s 0 in
    let q = c.layout_of-layout.ensures in
    let some : ¬ (length s ≡ 0) = eqb-false (length s) 0 (sym c.is_empty.ensures ∙ c.if-is_empty.false) in
    bad s some c.if-kind-gt9.false (size_is kind q c.payload-size.ensures) c.if-s-size.false (bad-is kind q _ c.any_bad.ensures) c.if-any_bad.true

pub returns : goal.returns
returns c =
    let s = c.args.s.now in
    let kind = byte_at s 0 in
    let layout = c.layout_of-layout.result in
    let q = c.layout_of-layout.ensures in
    let some : ¬ (length s ≡ 0) = eqb-false (length s) 0 (sym c.is_empty.ensures ∙ c.if-is_empty.false) in
    let nine : length layout.cells ≡ 9 = search rules in
    let n : length (take layout.count layout.cells) ≡ layout.count = length-take-le layout.count layout.cells (rw nine (few kind q)) in
    good s some c.if-kind-gt9.false (size_is kind q c.payload-size.ensures) c.if-s-size.false (bad-is kind q _ c.any_bad.ensures) c.if-any_bad.false
    (op-is kind q _ c.values_in.result (rw n at c.values_in.ensures) c.op_by.ensures)
