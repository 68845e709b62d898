-- "We open a run with a plan, give strips of three channels, and close it." (02, W1): what each call answers, reports and makes of the state, and
-- what a strip leaves in the channels. Definitions only.
use Rattle.std.specs.Prelude.{ℕ, ◌+◌, Bool, true, [], Ok, Err, Result}
use Rattle.notation.specs.Choice.{when◌then◌else◌}
use Rattle.notation.specs.Answers.{answer}
use Rattle.notation.specs.declared.Answer.{Answer}
use Rattle.channels.specs.Channels.{Channels, equally_long}
use Rattle.bad_samples.specs.Bad.{count_of, held}
use Rattle.list.specs.Lists.{no_list, appended}
use Rattle.list.specs.declared.Plan.{Plan}
use Rattle.run_check.specs.Judging.{judge_of}
use Rattle.run_check.specs.Judging.{Judgement}
use Rattle.run.specs.Run.{ran_of}
use Rattle.run_strips.specs.declared.State.{State}
use Rattle.run_strips.specs.declared.Opened.{Opened}
use Rattle.run_strips.specs.declared.Stripped.{Stripped}
use Rattle.run_strips.specs.declared.StripError.{StripError}
use Rattle.run_strips.specs.declared.StripError.TheVariants.{NotOpen, Unequal}

-- what a strip and a close answer: the width that the run ends at, or a refusal
abbrev pub Stripping : Type 0
Stripping = Result ℕ StripError

-- "Refusals: 4 for a strip; 11 for a strip or a close without an open run, .. answered like it": width 0
abbrev pub paper : Stripping → Answer
paper (Ok w) = answer 0 0 w
paper (Err NotOpen) = answer 11 0 0
paper (Err Unequal) = answer 4 0 0

-- no run is open
abbrev pub closed : State
closed = record { plan = no_list; bad = 0 }

-- "The list is checked at opening by 10, 5, 6; a refused opening leaves no open run, and opening while a run is open starts afresh."
abbrev pub opened_by : Plan → Judgement → State
opened_by p (Ok w) = record { plan = appended p []; bad = 0 }
opened_by p (Err e) = closed

abbrev pub open_of : State → Plan → Opened
open_of z p = record { answer = judge_of p; state = opened_by p (judge_of p) }

-- by what is judged of the state's list: "11 for a strip or a close without an open run, tested before 4"
abbrev pub strip_by : Judgement → Bool → Stripping
strip_by (Ok w) same = when same then Ok w else Err Unequal
strip_by (Err e) same = Err NotOpen

abbrev pub answer_of : State → Channels → Stripping
answer_of z s = strip_by (judge_of z.plan) (equally_long s)

-- the channels of a strip after it: the samples that a run of it alone gives, and of a refused one those that were
abbrev pub left_of : State → Channels → Channels
left_of z s = ran_of z.plan s

-- "A strip reports its own count" (02, W4), in the channels that it leaves; a refused one 0
abbrev pub bad_by : Stripping → Channels → ℕ
bad_by (Ok w) left = count_of w left
bad_by (Err e) left = 0

-- "A strip of unequal lengths is refused, changes nothing, and the run stays open as it was"; an accepted one adds its count, held
abbrev pub after_by : State → Stripping → Channels → State
after_by z (Ok w) left = record { plan = z.plan; bad = held (z.bad + count_of w left) }
after_by z (Err e) left = z

abbrev pub strip_of : State → Channels → Stripped
strip_of z s =
    let e = answer_of z s in
    record { answer = e; bad = bad_by e (left_of z s); state = after_by z e (left_of z s) }

-- "the close answers the width", and reports "the sum over the accepted strips" (02, W4); 0 without an open run
abbrev pub sum_by : Stripping → ℕ → ℕ
sum_by (Ok w) sum = sum
sum_by (Err e) sum = 0

abbrev pub close_of : State → Stripped
close_of z =
    let e = strip_by (judge_of z.plan) true in
    record { answer = e; bad = sum_by e z.bad; state = closed }
