-- "A run is always lent three channels and applies its ops in list order." (01, Widths). Definitions only.
use Rattle.std.specs.Prelude.{ℕ, List, [], ◌∷◌, Ok, Err}
use Rattle.channels.specs.Channels.{Channels}
use Rattle.op.specs.Widths.{gives_of}
use Rattle.op.specs.declared.Op.{Op}
use Rattle.run_op.specs.Apply.{after_op}
use Rattle.list.specs.Lists.{ops_of}
use Rattle.list.specs.declared.Plan.{Plan}
use Rattle.run.specs.Refusals.{outcome_of}
use Rattle.run.specs.Refusals.{Outcome}

-- the ops in list order, entered at width w
abbrev pub run_ops : ℕ → List Op → Channels → Channels
run_ops w [] s = s
run_ops w (o ∷ os) s = run_ops (gives_of o w) os (after_op o w s)

-- "no buffer changed" where a run is refused
abbrev pub if_done : Outcome → Channels → Channels → Channels
if_done (Ok w) ran s = ran
if_done (Err e) ran s = s

-- the channels after a run
abbrev pub ran_of : Plan → Channels → Channels
ran_of p s = if_done (outcome_of p s) (run_ops p.start (ops_of p) s) s
