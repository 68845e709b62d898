-- `apart::floats` meets its contract.
-- The zeros are rewritten by the floats, cell by cell.
use mathlib.Core.Path.{◌≡◌, sym, ap}
use mathlib.Core.List.{List}
use native.Mathlib.Omega.{arith}
use borrow.Author.Rules.{rules}
use lib.Ieee.{nan}
use lib.ListN.{length}
use Rattle.notation.proofs.Elements.{map_at}
use Rattle.notation.proofs.Rewriting.{map-begun, write, ended}
use Rattle.op_fields.specs.Parts.{float_cell}
use Rattle.op_fields.specs.declared.Cell.{Cell}
use Rattle.op_fields.proofs.apart.floats.Goals as goal

pub loop-i-init : goal.loop-i-init
loop-i-init c =
    let k : length c.args.f ≡ 9 = search rules in
    (k, map-begun float_cell c.args.f _ (sym k))

pub loop-i-preserved : goal.loop-i-preserved
loop-i-preserved c =
    let v = c.loop-i.invariant in
    let h = c.loop-i-test.true in
    let k = v.0 in
    (k, write v.1 (float_cell nan) _ h (sym (map_at float_cell c.args.f c.loop-i.i nan (float_cell nan) (omega arith))))

pub returns : goal.returns
returns c =
    let a = c.args in
    ap (λ (l : List Cell). record { kind = a.kind; count = a.count; cells = l }) (ended c.loop-i.invariant.1 c.loop-i-test.false)
