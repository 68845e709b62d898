-- What `use_up` leaves held.
-- Place by place: each byte that is left is the copy of one further on.
use Rattle.std.proofs.Common.{arith, rules}
use Rattle.std.proofs.lemmas.List.{same_lists, places}
use Rattle.program_io.proofs.ahead.Ahead.use_up.Goals as goal

pub returns-clause-held : goal.returns-clause-held
returns-clause-held c = rw (← c.self.view_is, c.copy_within.ensures.after) (same_lists _ _ (search (rules, places)) (λ k d h. grind (arith, places)))
