-- A refused opening and a close leave no open run; and without one every strip and close is refused by 11, until a run is opened.
-- The list of no open run is refused by 10, and no call but an opening changes it.
use Rattle.std.specs.Prelude.{Ok, Err}
use mathlib.Core.Path.{◌≡◌, refl}
use mathlib.Core.Bool.{Bool, true, false}
use mathlib.Core.List.{List}
use native.Mathlib.Omega.{arith}
use Rattle.notation.specs.Answers.{answer}
use Rattle.channels.specs.Channels.{Channels, equally_long}
use Rattle.list.specs.declared.Plan.{Plan}
use Rattle.run_check.specs.Judging as Judging
use Rattle.run_check.specs.Judging.{Judgement}
use Rattle.run_check.specs.declared.JudgeError.TheVariants.{Malformed, Misfit, NotCarried}
use Rattle.run.specs.Refusals as Run
use Rattle.run.specs.Refusals.{outcome_by}
use Rattle.run.proofs.Reaches.{refused-changes_nothing}
use Rattle.run_strips.specs.Machine.{after_by, answer_of, bad_by, close_of, closed, left_of, opened_by, paper, strip_by, strip_of, sum_by}
use Rattle.run_strips.specs.Calls.{AllAre, Call, NoOpening, after, close, closes, more, none, opens, strip, told_all}
use Rattle.run_strips.specs.declared.State.{State}
use Rattle.run_strips.specs.Machine.{Stripping}
use Rattle.run_strips.specs.declared.StripError.TheVariants.{NotOpen, Unequal}

pub refused-opening : (z : State) (p : Plan) → ¬ ((Judging.paper (Judging.judge_of p)).number ≡ 0) → after z (opens p) ≡ closed
refused-opening z p = by (Judging.judge_of p)
  where
    by : (j : Judgement) → ¬ ((Judging.paper j).number ≡ 0) → opened_by p j ≡ closed
    by (Ok w) n = absurd (n refl)
    by (Err Malformed) n = refl
    by (Err (Misfit i)) n = refl
    by (Err (NotCarried i)) n = refl

pub after-close : (z : State) → after z closes ≡ closed
after-close z = refl

pub refused_by-eleven : {ks : List Call} → NoOpening ks → AllAre (answer 11 0 0) (told_all closed ks)
refused_by-eleven none = none
refused_by-eleven (strip n) = more (refused_by-eleven n)
refused_by-eleven (close n) = more (refused_by-eleven n)

-- a refused strip changes no sample
pub refused-strip : (z : State) (s : Channels) → ¬ ((paper (strip_of z s).answer).number ≡ 0) → left_of z s ≡ s
refused-strip z s n = refused-changes_nothing z.plan s (λ h. n (by (Judging.judge_of z.plan) (equally_long s) h))
  where
    by : (j : Judgement) (same : Bool) → (Run.paper (outcome_by j same)).number ≡ 0 → (paper (strip_by j same)).number ≡ 0
    by (Ok w) true h = refl
    by (Ok w) false h = h
    by (Err Malformed) same h = absurd (omega arith)
    by (Err (Misfit i)) true h = absurd (omega arith)
    by (Err (Misfit i)) false h = absurd (omega arith)
    by (Err (NotCarried i)) true h = absurd (omega arith)
    by (Err (NotCarried i)) false h = absurd (omega arith)

-- "A refused .. strip or close reports 0" (02, W4), and the run stays open as it was
pub refused-reports : (z : State) (s : Channels) → ¬ ((paper (strip_of z s).answer).number ≡ 0) → ((strip_of z s).bad ≡ 0) × ((strip_of z s).state ≡ z)
refused-reports z s = by (answer_of z s)
  where
    by : (e : Stripping) → ¬ ((paper e).number ≡ 0) → (bad_by e (left_of z s) ≡ 0) × (after_by z e (left_of z s) ≡ z)
    by (Ok w) n = absurd (n refl)
    by (Err NotOpen) n = (refl, refl)
    by (Err Unequal) n = (refl, refl)

pub refused-close_reports : (z : State) → ¬ ((paper (close_of z).answer).number ≡ 0) → (close_of z).bad ≡ 0
refused-close_reports z = by (strip_by (Judging.judge_of z.plan) true)
  where
    by : (e : Stripping) → ¬ ((paper e).number ≡ 0) → sum_by e z.bad ≡ 0
    by (Ok w) n = absurd (n refl)
    by (Err NotOpen) n = refl
    by (Err Unequal) n = refl
