-- "The run reports the count after its last op, and for an empty list the count in the starting channels. .. A refused run .. reports 0." (02, W4).
-- Definitions only.
use Rattle.std.specs.Prelude.{ℕ, Ok, Err}
use Rattle.channels.specs.Channels.{Channels}
use Rattle.bad_samples.specs.Bad.{count_of}
use Rattle.list.specs.declared.Plan.{Plan}
use Rattle.run.specs.Refusals.{outcome_of}
use Rattle.run.specs.Run.{ran_of}
use Rattle.run.specs.Refusals.{Outcome}
use Rattle.run.specs.declared.Ran.{Ran}

-- in the channels left, over the end width
abbrev pub bad_after : Outcome → Channels → ℕ
bad_after (Ok w) left = count_of w left
bad_after (Err e) left = 0

abbrev pub reported_of : Plan → Channels → Ran
reported_of p s = record { outcome = outcome_of p s; bad = bad_after (outcome_of p s) (ran_of p s) }
