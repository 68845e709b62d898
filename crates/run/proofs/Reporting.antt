-- What a run reports: the count within the width that it answers, which is 0 where it is refused.
-- By the cases of the outcome; within width 0 there is no channel.
use Rattle.std.specs.Prelude.{Ok, Err}
use Prim.Native.Nat.{ℕ}
use mathlib.Core.Path.{◌≡◌, ap, refl, ◌∙◌}
use Rattle.notation.specs.declared.Answer.{Answer}
use Rattle.channels.specs.Channels.{Channels}
use Rattle.bad_samples.specs.Bad.{count_of}
use Rattle.list.specs.declared.Plan.{Plan}
use Rattle.run.specs.Refusals.{outcome_of, paper}
use Rattle.run.specs.Report.{bad_after, reported_of}
use Rattle.run.specs.Run.{ran_of}
use Rattle.run.specs.Refusals.{Outcome}
use Rattle.run.specs.declared.RunError.TheVariants.{Malformed, Unequal, Misfit, NotCarried}
use Rattle.run.specs.declared.Ran.{Ran}

pub within-width : (o : Outcome) (left : Channels) → count_of (paper o).width left ≡ bad_after o left
within-width (Ok w) left = refl
within-width (Err Malformed) left = refl
within-width (Err Unequal) left = refl
within-width (Err (Misfit i)) left = refl
within-width (Err (NotCarried i)) left = refl

abbrev ran : Outcome → ℕ → Ran
ran q k = record { outcome = q; bad = k }

-- what the three calls of `run` promise together
pub by_calls : (p : Plan) (s : Channels) {o : Outcome} {a : Answer} {left : Channels} {n : ℕ}
    → o ≡ outcome_of p s → a ≡ paper o → left ≡ ran_of p s → n ≡ count_of a.width left
    → ran o n ≡ reported_of p s
by_calls p s {o} {a} {left} {n} e f g h =
    ap (λ (k : ℕ). ran o k) (h ∙ ap (λ (b : Answer). count_of b.width left) f ∙ within-width o left ∙ ap (bad_after o) g)
    ∙ ap (λ (q : Outcome). ran q (bad_after q (ran_of p s))) e
