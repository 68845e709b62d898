-- `list_same::same_cells` meets its contract.
-- The invariant: the rest of the cells, from here, compare as the whole do.
use Prim.Native.Nat.{◌≤◌, ◌<◌}
use mathlib.Core.Path.{refl, sym, ◌∙◌}
use borrow.Author.Rules.{rules}
use lib.ListN.{length, drop_of_length-le}
use Rattle.list_same.specs.Same.{same_cell}
use Rattle.list_same.proofs.Comparing.{stops, goes}
use Rattle.notation.proofs.Elements.{next}
use Rattle.list_same.proofs.same_cells.Goals as goal

pub loop-i-init : goal.loop-i-init
loop-i-init c = refl

pub returns-then-not-same_value : goal.returns-then-not-same_value
returns-then-not-same_value c =
    let l = c in
    let m : l.loop-i.i < length l.args.a = search rules in
    let n : l.loop-i.i < length l.args.b = search rules in
    sym (stops same_cell (next _ _ _ m) (next _ _ _ n) c.same_value.ensures (c.if-not-same_value.true)) ∙ l.loop-i.invariant

pub loop-i-preserved : goal.loop-i-preserved
loop-i-preserved c =
    let l = c in
    let m : l.loop-i.i < length l.args.a = search rules in
    let n : l.loop-i.i < length l.args.b = search rules in
    sym (goes same_cell (next _ _ _ m) (next _ _ _ n) c.same_value.ensures (c.if-not-same_value.false)) ∙ l.loop-i.invariant

pub returns : goal.returns
returns c =
    let l = c in
    let m : length l.args.a ≤ l.loop-i.i = search rules in
    let n : length l.args.b ≤ l.loop-i.i = search rules in
    rw (drop_of_length-le l.args.a m, drop_of_length-le l.args.b n) at l.loop-i.invariant
