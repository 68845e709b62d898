-- "Refusals: 10 for either list or a joint count above 32; then 5, at the position in the joined order, where the first list fails, else at the first
-- list's count where the first's end width is not the second's start width, else where the second list fails." (02, W12)
use Rattle.std.specs.Prelude.{ℕ, ◌+◌, Bool, ◌&&◌, ◌++◌, eqb, leb, Ok, Err}
use Rattle.notation.specs.Choice.{when◌then◌else◌}
use Rattle.list.specs.Check.{check_of}
use Rattle.list.specs.Lists.{lawful, no_list, ops_of, plan_of}
use Rattle.list.specs.declared.Plan.{Plan}
use Rattle.list.specs.Check.{Verdict}
use Rattle.list.specs.declared.CheckError.TheVariants.{Malformed, Misfit}
use Rattle.list_join.specs.declared.Joined.{Joined}

-- a verdict on ops that stand behind n others: its position counts these too
abbrev pub behind : ℕ → Verdict → Verdict
behind n (Ok w) = Ok w
behind n (Err Malformed) = Err Malformed
behind n (Err (Misfit i)) = Err (Misfit (n + i))

-- where the first list ends at width w
abbrev pub meeting : ℕ → Plan → Plan → Verdict
meeting w p q = when eqb w q.start then behind p.count (check_of q) else Err (Misfit p.count)

-- after what the check says of the first
abbrev pub after_first : Verdict → Plan → Plan → Verdict
after_first (Ok w) p q = meeting w p q
after_first (Err e) p q = Err e

-- "10 for either list or a joint count above 32" does not hold; a list is refused for a false end width too (W8)
abbrev pub joinable : Plan → Plan → Bool
joinable p q = lawful p && (lawful q && leb (p.count + q.count) 32)

-- "10 .. then 5"
abbrev pub verdict_of : Plan → Plan → Verdict
verdict_of p q = when joinable p q then after_first (check_of p) p q else Err Malformed

-- the first list's ops and then the second's, from the first's start width. "A refused join is the empty list with width 0."
abbrev pub joined_by : Verdict → Plan → Plan → Plan
joined_by (Ok w) p q = plan_of p.start (ops_of p ++ ops_of q)
joined_by (Err e) p q = no_list

abbrev pub join_of : Plan → Plan → Joined
join_of p q = record { answer = verdict_of p q; plan = joined_by (verdict_of p q) p q }
