-- "The run reports the count after its last op" (02, W4): it is what that op's own step reports of the channels that it finds.
-- The ops before the last lead to the width and the channels that it finds.
use Rattle.std.specs.Prelude.{Ok, Err}
use Prim.Native.Nat.{ℕ}
use mathlib.Core.Path.{◌≡◌, ap, subst, sym, ◌∙◌}
use mathlib.Core.Bool.{Bool}
use mathlib.Core.List.{List, [], ◌∷◌, ◌++◌}
use Rattle.notation.specs.Choice.{when◌then◌else◌}
use Rattle.channels.specs.Channels.{Channels, EquallyLong}
use Rattle.channels.specs.Stepping.{unequal}
use Rattle.channels.proofs.Lengths.{equal_exactly}
use Rattle.bad_samples.specs.Bad.{count_of, report_of}
use Rattle.op.specs.Widths.{gives_of}
use Rattle.op.specs.declared.Op.{Op}
use Rattle.op.proofs.Steps.{step_gives}
use Rattle.run_op.specs.Apply.{after_op, own_step}
use Rattle.run_op.proofs.Even.{after-even}
use Rattle.list.specs.Fits.{Fits, none, more}
use Rattle.list.specs.Lists.{ops_of}
use Rattle.list.specs.declared.Plan.{Plan}
use Rattle.run.specs.Refusals.{outcome_of, paper}
use Rattle.run.specs.Report.{bad_after, reported_of}
use Rattle.run.specs.Run.{ran_of, run_ops}
use Rattle.run.specs.Refusals.{Outcome}
use Rattle.run.proofs.Exactly.{zero-exactly}
use Rattle.run.proofs.Leaving.{done}
use Rattle.run.proofs.OpByOp.{one_after_another}

last_gives : (xs : List Op) (o : Op) {u v w : ℕ} → Fits u (xs ++ (o ∷ [])) w → Fits u xs v → gives_of o v ≡ w
last_gives [] o (more k none) none = step_gives k
last_gives (x ∷ xs) o {v = v} (more k f) (more l g) = last_gives xs o f (subst (λ (t : ℕ). Fits t xs v) (sym (step_gives l) ∙ step_gives k) g)

pub ops-even : (w : ℕ) (os : List Op) (s : Channels) → EquallyLong s → EquallyLong (run_ops w os s)
ops-even w [] s e = e
ops-even w (o ∷ os) s e = ops-even (gives_of o w) os (after_op o w s) (after-even o w s e)

-- of equally long channels an own step reports the count that it leaves
own_count : (o : Op) (v : ℕ) (t : Channels) → EquallyLong t → count_of (gives_of o v) (after_op o v t) ≡ (own_step o v t).bad
own_count o v t e =
    ap (λ (b : Bool). (report_of (when b then Ok (gives_of o v) else Err unequal) (when b then after_op o v t else t)).bad) (sym ((equal_exactly t).1 e))

pub last_step : (p : Plan) (os : List Op) (o : Op) (v w : ℕ) (s : Channels) → ops_of p ≡ os ++ (o ∷ []) → Fits p.start os v → Ok w ≡ outcome_of p s
    → (reported_of p s).bad ≡ (own_step o v (run_ops p.start os s)).bad
last_step p os o v w s split f d =
    let z = (zero-exactly p s w).0 (sym (ap paper d)) in
    let t = run_ops p.start os s in
    let gives = last_gives os o (subst (λ (xs : List Op). Fits p.start xs w) split z.2) f in
    let left = sym (one_after_another os (o ∷ []) s f) ∙ ap (λ (xs : List Op). run_ops p.start xs s) (sym split) ∙ done p s w d in
    ap (λ (q : Outcome). bad_after q (ran_of p s)) (sym d)
    ∙ ap (count_of w) (sym left)
    ∙ ap (λ (k : ℕ). count_of k (after_op o v t)) (sym gives)
    ∙ own_count o v t (ops-even p.start os s z.1)

-- "for an empty list the count in the starting channels"
pub empty-list : (p : Plan) (w : ℕ) (s : Channels) → ops_of p ≡ [] → Ok w ≡ outcome_of p s → (reported_of p s).bad ≡ count_of w s
empty-list p w s no-op d =
    ap (λ (q : Outcome). bad_after q (ran_of p s)) (sym d)
    ∙ ap (count_of w) (sym (done p s w d) ∙ ap (λ (xs : List Op). run_ops p.start xs s) no-op)
