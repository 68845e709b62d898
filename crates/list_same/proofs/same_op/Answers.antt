-- `list_same::same_op` meets its contract.
-- Of one kind, ops agree where their cells do.
use mathlib.Core.Path.{◌≡◌}
use borrow.Author.Tests.{eq-eqb}
use Rattle.op_fields.specs.Parts.{kind_of}
use Rattle.list_same.proofs.Comparing.{by_cells}
use Rattle.list_same.proofs.same_op.Goals as goal

pub returns-then-p-q : goal.returns-then-p-q
returns-then-p-q c =
    let a = c.args.a in
    let b = c.args.b in
    let k : kind_of a ≡ kind_of b = rw (c.parts_of-p.ensures, c.parts_of-q.ensures) at c.if-p-q.true in
    rw (← by_cells a b, eq-eqb (kind_of a) (kind_of b) k) (rw (c.parts_of-p.ensures, c.parts_of-q.ensures) at c.same_cells.ensures)
