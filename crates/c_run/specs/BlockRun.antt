-- A plan block read and its list run at once, on three lent channels: what is answered, told and left. Definitions only.
use Rattle.std.specs.Prelude.{ℕ, List}
use Rattle.notation.specs.declared.Answer.{Answer}
use Rattle.c_told.specs.Told.{after_reading, told_by}
use Rattle.channels.specs.Channels.{Channels}
use Rattle.block_read.specs.Block.{read_of}
use Rattle.block_read.specs.Block.{Reading}
use Rattle.run.specs.Refusals as Run
use Rattle.run.specs.Refusals.{outcome_of}
use Rattle.run.specs.Report.{reported_of}
use Rattle.run.specs.Run.{ran_of}
use Rattle.run.specs.Refusals.{Outcome}

-- the reader's refusal, and else the run's answer
abbrev pub answer_by : Reading → Outcome → Answer
answer_by reading outcome = after_reading reading (Run.paper outcome)

-- running the list of a plan block
abbrev pub answer_of : List ℕ → Channels → Answer
answer_of bytes s = answer_by (read_of bytes).answer (outcome_of (read_of bytes).plan s)

-- what is told
abbrev pub told_of : List ℕ → Channels → List ℕ
told_of bytes s = told_by (answer_of bytes s) (reported_of (read_of bytes).plan s).bad

-- the channels after: the list of a refused block is the empty one with width 0, which a run refuses
abbrev pub left_of : List ℕ → Channels → Channels
left_of bytes s = ran_of (read_of bytes).plan s
