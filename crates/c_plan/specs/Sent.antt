-- A list that is written into the caller's bytes as a plan block, unless something was refused before, and what is told of it. Definitions only.
use Rattle.std.specs.Prelude.{ℕ, List, [], ◌∷◌, eqb}
use Rattle.notation.specs.Choice.{when◌then◌else◌}
use Rattle.list.specs.declared.Plan.{Plan}
use Rattle.block_write.specs.Writing.{paper, length_of, writing_of, left_of}
use Rattle.block_write.specs.Writing.{Writing}
use Rattle.planner.specs.Planning as P
use Rattle.planner.specs.declared.Planned.{Planned}
use Rattle.c_plan.specs.declared.sent.Sent.{Sent}

-- "0s where refused"
abbrev pub refused : ℕ → Sent
refused number = record { number = number; length = 0; start = 0; end = 0 }

abbrev pub sent_by : Plan → Writing → Sent
sent_by p w =
    when eqb (paper w).number 0 then record { number = 0; length = length_of w; start = p.start; end = p.end }
    else refused (paper w).number

-- "The answer is the planner's number, and where that is 0 the writer's", and so of what else may refuse before
abbrev pub sent_after : ℕ → Plan → ℕ → ℕ → Sent
sent_after number p version room = when eqb number 0 then sent_by p (writing_of p version room) else refused number

-- "`out` behind the block stays, and a refusal leaves it untouched"
abbrev pub left_after : ℕ → Plan → ℕ → List ℕ → List ℕ
left_after number p version old = when eqb number 0 then left_of p version old else old

-- "number, length used, start width, end width"
abbrev pub widths_told : Sent → List ℕ
widths_told s = s.number ∷ s.length ∷ s.start ∷ s.end ∷ []

-- a plan: "the planner's number, and where that is 0 the writer's"
abbrev pub plan_sent : Planned → ℕ → ℕ → Sent
plan_sent p version room = sent_after (P.paper p.answer).number p.plan version room

abbrev pub plan_left : Planned → ℕ → List ℕ → List ℕ
plan_left p version old = left_after (P.paper p.answer).number p.plan version old
