-- `in_tables` meets its contract.
-- Its tests are those of `in_tables`, number by number.
use Rattle.encoding_numbers.specs.Sides.{in_tables}
use Rattle.encoding_numbers.proofs.in_tables.Goals as goal

pub returns : goal.returns
unfolding in_tables
returns c =
    let five = c in
    let four = five in
    let three = four in
    let two = three in
    let one = two in
    rw (one.natural_at-curve.ensures, two.natural_at.ensures, three.natural_at-2.ensures, four.natural_at-3.ensures, five.natural_at-4.ensures, c.natural_at-5.ensures)
