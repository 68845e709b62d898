-- `lawful` meets its contract.
-- The start width and the count are those of a list, and the end width is compared with that to which the ops lead.
use mathlib.Core.Path.{◌≡◌, sym, ◌∙◌}
use mathlib.Core.Bool.{true}
use Rattle.list.specs.Lists.{well_formed, is_true}
use Rattle.list.proofs.lawful.Goals as goal

pub returns-then-well_formed : goal.returns-then-well_formed
unfolding is_true
returns-then-well_formed c =
    let formed : well_formed c.args.plan.start c.args.plan.count ≡ true = sym c.well_formed-2.ensures ∙ c.if-well_formed.true in
    rw (c.end_of.ensures, formed)
