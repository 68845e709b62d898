-- Demand 3 on runs: "If it passes, its ops are all carried and the three lent channels have equal length, the run reaches the end and reports
-- the width the check foretold; then the channels within that width depend only on the plan and on the channels within the starting width."
use Rattle.std.specs.Prelude.{Ok}
use Prim.Native.Nat.{ℕ}
use mathlib.Core.Path.{sym, ◌≡◌}
use Rattle.notation.specs.Answers.{answer}
use Rattle.channels.specs.Channels.{Channels, EquallyLong}
use Rattle.list.specs.Answer as Check
use Rattle.list.specs.Check.{check_of}
use Rattle.list.specs.Lists.{ops_of}
use Rattle.list.specs.declared.Plan.{Plan}
use Rattle.list.proofs.Exactly.{passes-exactly}
use Rattle.run_check.specs.Carried.{AllCarried}
use Rattle.run.specs.Reach.{Agree}
use Rattle.run.specs.Refusals.{outcome_of, paper}
use Rattle.run.specs.Run.{ran_of}
use Rattle.run.proofs.Answered.{is-given}
use Rattle.run.proofs.Depends.{ops-agree}
use Rattle.run.proofs.Exactly.{zero-exactly}
use Rattle.run.proofs.Leaving.{done, refused}

module _ (p : Plan) (w : ℕ) (passes : Check.paper (check_of p) ≡ answer 0 0 w) (carried : AllCarried (ops_of p)) where
  -- the run reaches the end and reports the width the check foretold
  pub reaches-the-end : (s : Channels) → EquallyLong s → paper (outcome_of p s) ≡ answer 0 0 w
  reaches-the-end s e = let l = (passes-exactly p w).0 passes in (zero-exactly p s w).1 (l.0, e, l.1, carried)

  -- two triples of channels that agree within the starting width end with channels that agree within w
  pub depends-within : (s t : Channels) → EquallyLong s → EquallyLong t → Agree p.start s t → Agree w (ran_of p s) (ran_of p t)
  depends-within s t e f h =
      let l = (passes-exactly p w).0 passes in
      let on-s = is-given p s (Ok w) (l.0, e, l.1, carried) in
      let on-t = is-given p t (Ok w) (l.0, f, l.1, carried) in
      rw (← done p s w (sym on-s), ← done p t w (sym on-t)) (ops-agree s t l.1 e f h)

-- a refused run leaves all three channels as they were
pub refused-changes_nothing : (p : Plan) (s : Channels) → ¬ ((paper (outcome_of p s)).number ≡ 0) → ran_of p s ≡ s
refused-changes_nothing = refused
