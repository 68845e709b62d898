-- `list_merge::merge` meets its contract.
-- A list that is not lawful is refused, and the loop asks for a lawful one.
use mathlib.Core.Path.{sym, ◌∙◌}
use Rattle.list.proofs.Formed.{lawful-exactly}
use Rattle.list.proofs.Owned.{as_many}
use Rattle.list_merge.proofs.merge.Goals as goal

pub returns-then-not-lawful : goal.returns-then-not-lawful
returns-then-not-lawful c = rw (← c.lawful.ensures, c.if-not-lawful.true, c.empty.ensures)

pub merge_ops-requires : goal.merge_ops-requires
merge_ops-requires c =
    let p = c.args.plan in
    let f = ((lawful-exactly p).0 (sym c.lawful.ensures ∙ c.if-not-lawful.false)).0 in
    rw (as_many p c.well_formed.0 f.1) f

pub returns : goal.returns
returns c = rw (← c.lawful.ensures, c.if-not-lawful.false, c.merge_ops.ensures)
