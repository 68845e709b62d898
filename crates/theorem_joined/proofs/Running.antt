-- "Where every op of both is carried, running it equals running one after the other, in all three channels." (02, W12), and the answers with it.
-- On equally long channels all three runs reach the end, and ops run one after the other; on others all three are refused by 4.
use Rattle.std.specs.Prelude.{Ok, Err}
use Prim.Native.Nat.{ℕ}
use mathlib.Core.Path.{◌≡◌, refl, ap, sym, subst, ◌∙◌}
use mathlib.Core.Bool.{Bool, true, false}
use mathlib.Core.List.{List, ◌++◌}
use Rattle.notation.specs.Answers.{answer}
use Rattle.notation.proofs.Tests.{fails_exactly}
use Rattle.channels.specs.Channels.{Channels, EquallyLong, equally_long}
use Rattle.channels.proofs.Lengths.{equal_exactly}
use Rattle.op.specs.declared.Op.{Op}
use Rattle.list.specs.Answer as Check
use Rattle.list.specs.Fits.{Fits}
use Rattle.list.specs.Lists.{ops_of, Lawful}
use Rattle.list.specs.declared.Plan.{Plan}
use Rattle.list.proofs.Exactly.{passes-exactly}
use Rattle.run_check.specs.Carried.{AllCarried, none, more}
use Rattle.run.specs.Refusals.{outcome_of, paper}
use Rattle.run.specs.Report.{bad_after, reported_of}
use Rattle.run.specs.Run.{if_done, ran_of, run_ops}
use Rattle.run.specs.Refusals.{Outcome}
use Rattle.run.specs.declared.RunError.TheVariants.{Unequal}
use Rattle.run.specs.declared.Ran.{Ran}
use Rattle.run.proofs.Answered.{is-given}
use Rattle.run.proofs.LastStep.{ops-even}
use Rattle.run.proofs.Leaving.{done}
use Rattle.run.proofs.OpByOp.{joined-runs}
use Rattle.list_join.specs.Join.{join_of}
use Rattle.list_join.proofs.Exactly.{zero-exactly}
use Rattle.list_join.proofs.Passing.{is-joined, ops-joined, ends-as-second, join-passes}

carried_on : {xs ys : List Op} → AllCarried xs → AllCarried ys → AllCarried (xs ++ ys)
carried_on none d = d
carried_on (more e c) d = more e (carried_on c d)

-- channels that are not equally long stay
unequal_stays : (p : Plan) (s : Channels) → outcome_of p s ≡ (Err Unequal) → ran_of p s ≡ s
unequal_stays p s e = ap (λ (o : Outcome). if_done o (run_ops p.start (ops_of p) s) s) e

abbrev told : Outcome → Channels → Ran
told o left = record { outcome = o; bad = bad_after o left }

module _ (p q : Plan) (w : ℕ) (passed : Check.paper (join_of p q).answer ≡ answer 0 0 w) (first : AllCarried (ops_of p)) (second : AllCarried (ops_of q)) where
  -- what is known of the three lists
  parts : Lawful p × Lawful q × Fits p.start (ops_of p) q.start × Fits q.start (ops_of q) q.end
  parts =
      let g = (zero-exactly p q w).0 passed in
      (g.0.0, g.0.1, g.1, subst (Fits q.start (ops_of q)) (ends-as-second p q w passed) g.2)

  joined : Lawful (join_of p q).plan × Fits (join_of p q).plan.start (ops_of (join_of p q).plan) q.end
  joined = (passes-exactly (join_of p q).plan q.end).0 (join-passes p q w passed)

  all-carried : AllCarried (ops_of (join_of p q).plan)
  all-carried = subst AllCarried (sym (ops-joined p q w passed)) (carried_on first second)

  module _ (s : Channels) (e : EquallyLong s) where
    first_ends : outcome_of p s ≡ Ok q.start
    first_ends = is-given p s (Ok q.start) (parts.0, e, parts.2, first)

    still-even : EquallyLong (ran_of p s)
    still-even = subst EquallyLong (done p s q.start (sym first_ends)) (ops-even p.start (ops_of p) s e)

    second-ends : outcome_of q (ran_of p s) ≡ Ok q.end
    second-ends = is-given q (ran_of p s) (Ok q.end) (parts.1, still-even, parts.3, second)

    joined-ends : outcome_of (join_of p q).plan s ≡ Ok q.end
    joined-ends = is-given (join_of p q).plan s (Ok q.end) (joined.0, e, joined.1, all-carried)

    -- the first ends at the second's start width, and both the second and the join at the second's end width
    pub all-reach-the-end : (paper (outcome_of p s) ≡ answer 0 0 q.start) × (paper (outcome_of q (ran_of p s)) ≡ answer 0 0 q.end) × (paper (outcome_of (join_of p q).plan s) ≡ answer 0 0 q.end)
    all-reach-the-end = (ap paper first_ends, ap paper second-ends, ap paper joined-ends)

    even-channels : ran_of (join_of p q).plan s ≡ ran_of q (ran_of p s)
    even-channels =
        joined-runs p q (join_of p q).plan s q.start q.end q.end
        (ap (λ (r : Plan). r.start) (is-joined p q w passed))
        (ops-joined p q w passed)
        refl
        (sym first_ends)
        (sym second-ends)
        (sym joined-ends)
        parts.2

  module _ (s : Channels) (n : ¬ EquallyLong s) where
    first-stays : ran_of p s ≡ s
    first-stays = unequal_stays p s (is-given p s (Err Unequal) (parts.0, n))

    joined-unequal : outcome_of (join_of p q).plan s ≡ Err Unequal
    joined-unequal = is-given (join_of p q).plan s (Err Unequal) (joined.0, n)

    second-unequal : outcome_of q s ≡ Err Unequal
    second-unequal = is-given q s (Err Unequal) (parts.1, n)

  -- for every three channels: what the join leaves in all three is what the one and then the other leave
  pub runs-one-after-other : (s : Channels) → ran_of (join_of p q).plan s ≡ ran_of q (ran_of p s)
  runs-one-after-other s = by (equally_long s) refl
    where
      by : (b : Bool) → equally_long s ≡ b → ran_of (join_of p q).plan s ≡ ran_of q (ran_of p s)
      by true e = even-channels s ((equal_exactly s).0 e)
      by false e =
          let n = (fails_exactly (equal_exactly s)).0 e in
          unequal_stays (join_of p q).plan s (joined-unequal s n) ∙ sym (ap (ran_of q) (first-stays s n) ∙ unequal_stays q s (second-unequal s n))

  same_outcome : (s : Channels) → outcome_of (join_of p q).plan s ≡ outcome_of q (ran_of p s)
  same_outcome s = by (equally_long s) refl
    where
      by : (b : Bool) → equally_long s ≡ b → outcome_of (join_of p q).plan s ≡ outcome_of q (ran_of p s)
      by true e = let k = (equal_exactly s).0 e in joined-ends s k ∙ sym (second-ends s k)
      by false e =
          let n = (fails_exactly (equal_exactly s)).0 e in
          joined-unequal s n ∙ sym (ap (outcome_of q) (first-stays s n) ∙ second-unequal s n)

  -- and what it answers is what the second answers, the count of bad samples with it
  pub reports-as-second : (s : Channels) → reported_of (join_of p q).plan s ≡ reported_of q (ran_of p s)
  reports-as-second s =
      ap (λ (o : Outcome). told o (ran_of (join_of p q).plan s)) (same_outcome s)
      ∙ ap (told (outcome_of q (ran_of p s))) (runs-one-after-other s)
