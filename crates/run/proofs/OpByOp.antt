-- Running is op by op: a list that is one list after another runs as the one and then the other.
-- By induction on the first list.
use Rattle.std.specs.Prelude.{Ok}
use Prim.Native.Nat.{ℕ}
use mathlib.Core.Path.{ap, refl, subst, sym, ◌∙◌, ◌≡◌}
use mathlib.Core.List.{◌++◌, List, [], ◌∷◌}
use Rattle.channels.specs.Channels.{Channels}
use Rattle.op.specs.Widths.{gives_of}
use Rattle.op.specs.declared.Op.{Op}
use Rattle.op.proofs.Steps.{step_gives}
use Rattle.run_op.specs.Apply.{after_op}
use Rattle.list.specs.Lists.{ops_of}
use Rattle.list.specs.Fits.{Fits, none, more}
use Rattle.list.specs.declared.Plan.{Plan}
use Rattle.run.specs.Refusals.{outcome_of}
use Rattle.run.specs.Run.{ran_of, run_ops}
use Rattle.run.proofs.Leaving.{done}

pub one_after_another : (xs ys : List Op) {w v : ℕ} (s : Channels) → Fits w xs v → run_ops w (xs ++ ys) s ≡ run_ops v ys (run_ops w xs s)
one_after_another [] ys s none = refl
one_after_another (x ∷ xs) ys s (more {w} {v = v} k f) =
    let t = after_op x w s in
    subst (λ (u : ℕ). run_ops u (xs ++ ys) t ≡ run_ops v ys (run_ops u xs t)) (sym (step_gives k)) (one_after_another xs ys t f)

-- the first op, and then the rest
pub first-then_rest : (o : Op) (os : List Op) (w : ℕ) (s : Channels) → run_ops w (o ∷ os) s ≡ run_ops (gives_of o w) os (after_op o w s)
first-then_rest o os w s = refl

-- of three lists that all run to the end, the third being the first and then the second
pub joined-runs : (p q r : Plan) (s : Channels) (v w u : ℕ) → r.start ≡ p.start → ops_of r ≡ ops_of p ++ ops_of q → q.start ≡ v
    → Ok v ≡ outcome_of p s → Ok w ≡ outcome_of q (ran_of p s) → Ok u ≡ outcome_of r s → Fits p.start (ops_of p) v → ran_of r s ≡ ran_of q (ran_of p s)
joined-runs p q r s v w u a b c d e f g =
    sym (done r s u f)
    ∙ ap (λ (k : ℕ). run_ops k (ops_of r) s) a
    ∙ ap (λ (os : List Op). run_ops p.start os s) b
    ∙ one_after_another (ops_of p) (ops_of q) s g
    ∙ ap (λ (k : ℕ). run_ops k (ops_of q) (run_ops p.start (ops_of p) s)) (sym c)
    ∙ ap (run_ops q.start (ops_of q)) (done p s v d)
    ∙ done q (ran_of p s) w e
