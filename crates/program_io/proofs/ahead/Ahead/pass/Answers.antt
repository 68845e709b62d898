-- What `pass` leaves passed and held.
-- Place by place: the room is as it was, and each part of it is taken from another place.
use Rattle.std.proofs.Common.{arith, rules}
use Rattle.std.proofs.lemmas.List.{same_lists, places}
use Rattle.program_io.proofs.ahead.Ahead.pass.Goals as goal

pub returns-clause-passed : goal.returns-clause-passed
returns-clause-passed c = rw (← c.self.view_is) (same_lists _ _ (search (rules, places)) (λ k d h. grind (arith, places)))

pub returns-clause-held : goal.returns-clause-held
returns-clause-held c = rw (← c.self.view_is) (same_lists _ _ (search (rules, places)) (λ k d h. grind (arith, places)))
