-- "a refusal leaves it untouched", and tells length 0: of planning.
-- What is refused before is not written, and the writer leaves the bytes of what it refuses (Sending).
use Prim.Native.Nat.{ℕ}
use mathlib.Core.Path.{◌≡◌}
use mathlib.Core.List.{List}
use lib.ListN.{length}
use Rattle.planner.specs.Planning as P
use Rattle.planner.specs.declared.Planned.{Planned}
use Rattle.c_plan.specs.Sent.{plan_sent, plan_left}
use Rattle.c_plan.proofs.Sending.{untouched}

pub plan-untouched : (p : Planned) (v : ℕ) (old : List ℕ) → ¬ ((plan_sent p v (length old)).number ≡ 0) → ((plan_sent p v (length old)).length ≡ 0) × (plan_left p v old ≡ old)
plan-untouched p v old = untouched (P.paper p.answer).number p.plan v old
