-- The list that an accepted opening keeps can be run, ends at the same width, and runs as the one that was given.
-- It has the same start width and the same ops.
use Rattle.std.specs.Prelude.{Ok}
use Prim.Native.Nat.{ℕ}
use mathlib.Core.Path.{◌≡◌, refl, ap, sym, subst, ◌∙◌}
use mathlib.Core.List.{List, []}
use native.Mathlib.Omega.{arith}
use Rattle.channels.specs.Channels.{Channels, EquallyLong}
use Rattle.channels.proofs.Lengths.{equal_exactly}
use Rattle.op.specs.declared.Op.{Op}
use Rattle.list.specs.Lists.{ops_of, plan_of, appended}
use Rattle.list.specs.declared.Plan.{Plan}
use Rattle.list.proofs.Building.{as-it-is, few, ops-of}
use Rattle.list.proofs.Formed.{lawful-exactly}
use Rattle.run_check.specs.Judging.{judge_of}
use Rattle.run_check.proofs.Judged.{Words, is-given}
use Rattle.run.specs.Refusals.{outcome_of}
use Rattle.run.specs.Run.{ran_of, run_ops}
use Rattle.run.proofs.Leaving.{done}

-- a run of equally long channels with a list that can be run reaches the end
pub reaches : (p : Plan) (w : ℕ) → judge_of p ≡ Ok w → (s : Channels) → EquallyLong s → Ok w ≡ outcome_of p s
reaches p w r s e = rw (r, (equal_exactly s).1 e)

pub ran : (p : Plan) (w : ℕ) → judge_of p ≡ Ok w → (s : Channels) → EquallyLong s → run_ops p.start (ops_of p) s ≡ ran_of p s
ran p w r s e = done p s w (reaches p w r s e)

module _ (p : Plan) (w : ℕ) (g : Words p (Ok w)) where
  is : plan_of p.start (ops_of p) ≡ appended p []
  is = as-it-is p ((lawful-exactly p).1 g.0)

  kept-words : Words (plan_of p.start (ops_of p)) (Ok w)
  kept-words =
      let n = g.0.0.1 in
      rw (ops-of p.start (ops_of p)) (((g.0.0.0, omega (arith, few p ((lawful-exactly p).1 g.0))), refl), g.1, g.2)

  pub kept-ready : judge_of (appended p []) ≡ Ok w
  kept-ready = rw (← is) (is-given (plan_of p.start (ops_of p)) (Ok w) kept-words)

  kept-ops : (s : Channels) → EquallyLong s → ran_of (plan_of p.start (ops_of p)) s ≡ run_ops p.start (ops_of p) s
  kept-ops s e =
      sym (ran (plan_of p.start (ops_of p)) w (is-given (plan_of p.start (ops_of p)) (Ok w) kept-words) s e)
      ∙ ap (λ (os : List Op). run_ops p.start os s) (ops-of p.start (ops_of p))

  pub kept-ran : (s : Channels) → EquallyLong s → ran_of (appended p []) s ≡ ran_of p s
  kept-ran s e = subst (λ (q : Plan). ran_of q s ≡ ran_of p s) is (kept-ops s e ∙ ran p w (is-given p (Ok w) g) s e)
