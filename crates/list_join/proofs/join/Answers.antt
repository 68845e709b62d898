-- `join` meets its contract.
-- Where the lists pass, the second's ops have room behind the first's.
use mathlib.Core.Path.{ap, sym, ◌∙◌}
use Rattle.list.specs.Answer.{paper}
use Rattle.list_join.proofs.Exactly.{zero-exactly}
use Rattle.list_join.proofs.Passing.{appends}
use Rattle.list_join.proofs.join.Goals as goal

pub returns-in-Ok : goal.returns-in-Ok
returns-in-Ok c =
    let a = c.args in
    let passed = sym c.verdict_of.ensures ∙ c.in-Ok.is in
    let may-join = ((zero-exactly a.first a.second _).0 (ap paper passed)).0 in
    rw (passed, c.with_ops.ensures ∙ appends a.first a.second may-join)
