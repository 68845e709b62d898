-- `kept` meets its contract.
-- 10 refuses the list, or its ops are those below the count.
use mathlib.Core.Path.{◌≡◌, sym, ◌∙◌}
use Rattle.list.proofs.Owned.{as_many}
use Rattle.list.proofs.Formed.{lawful-exactly}
use Rattle.list.proofs.Building.{refused, as-it-is}
use Rattle.list.proofs.kept.Goals as goal

pub returns-then-not-lawful : goal.returns-then-not-lawful
returns-then-not-lawful c = c.empty.ensures ∙ refused c.args.plan (sym c.lawful.ensures ∙ c.if-not-lawful.true) _

pub padded-requires : goal.padded-requires
padded-requires c =
    let p = c.args.plan in
    let k = (lawful-exactly p).0 (sym c.lawful.ensures ∙ c.if-not-lawful.false) in
    let n = as_many p c.well_formed.0 k.0.1 in
    (rw n k.0.1, rw n k.1)

pub returns : goal.returns
returns c = c.padded.ensures ∙ as-it-is c.args.plan (sym c.lawful.ensures ∙ c.if-not-lawful.false)
