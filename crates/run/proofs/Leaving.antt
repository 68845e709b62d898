-- What a run leaves in the channels, by its outcome: what its ops make of them, or the channels as they were.
-- By the cases of the outcome.
use Rattle.std.specs.Prelude.{Ok, Err}
use Prim.Native.Nat.{ℕ}
use mathlib.Core.Path.{◌≡◌, refl, ap}
use Rattle.channels.specs.Channels.{Channels}
use Rattle.list.specs.Lists.{ops_of}
use Rattle.list.specs.declared.Plan.{Plan}
use Rattle.run.specs.Refusals.{outcome_of, paper}
use Rattle.run.specs.Run.{if_done, ran_of, run_ops}
use Rattle.run.specs.Refusals.{Outcome}

pub done : (p : Plan) (s : Channels) (w : ℕ) → Ok w ≡ outcome_of p s → run_ops p.start (ops_of p) s ≡ ran_of p s
done p s w e = ap (λ (o : Outcome). if_done o (run_ops p.start (ops_of p) s) s) e

left_alone : (o : Outcome) → ¬ ((paper o).number ≡ 0) → (ran s : Channels) → if_done o ran s ≡ s
left_alone (Ok w) n ran s = absurd (n refl)
left_alone (Err e) n ran s = refl

pub refused : (p : Plan) (s : Channels) → ¬ ((paper (outcome_of p s)).number ≡ 0) → ran_of p s ≡ s
refused p s n = left_alone (outcome_of p s) n (run_ops p.start (ops_of p) s) s
