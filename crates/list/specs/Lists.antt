-- "A list is a start width, a count and room for thirty-two ops; in returned lists the slots past the count hold Clip,
-- in handed ones they are not read, nor compared when lists are called the same." (01, Refusal numbers). "Every list now holds its end width,
-- worked out from its start width, count and ops alone, 0 where document 01's 10 or 5 refuses these". (02, W8)
use Rattle.std.specs.Prelude.{ℕ, ◌-◌, ◌≤◌, ◌<◌, ◌≡◌, Bool, ◌&&◌, ◌||◌, ◌⊎◌, List, [], ◌++◌, map, eqb, leb, replicate, take, length}
use Rattle.notation.specs.Choice.{when◌then◌else◌}
use Rattle.op.specs.declared.Op.{Op}
use Rattle.op.specs.declared.Op.TheVariants as O
use Rattle.list.specs.Ends.{end_from}
use Rattle.list.specs.declared.Slot.{Slot}
use Rattle.list.specs.declared.Plan.{Plan}

abbrev pub op_of : Slot → Op
op_of s = s.op

-- the ops of a list: those below its count
abbrev pub ops_of : Plan → List Op
ops_of p = map op_of (take p.count p.ops)

-- a start width and a count are those of a list where "start width not 1 or 3, or count above 32" does not hold: the test, and in words
-- when it holds and when not
abbrev pub well_formed : ℕ → ℕ → Bool
well_formed start count = (eqb start 1 || eqb start 3) && leb count 32

abbrev pub Formed : ℕ → ℕ → Type 0
Formed start count = ((start ≡ 1) ⊎ (start ≡ 3)) × (count ≤ 32)

abbrev pub Unformed : ℕ → ℕ → Type 0
Unformed start count = (¬ ((start ≡ 1) ⊎ (start ≡ 3))) ⊎ (32 < count)

-- the end width: 0 where 10 refuses the start width or the count, and where 5 refuses an op
abbrev pub end_of : ℕ → ℕ → List Op → ℕ
end_of start count os = when well_formed start count then end_from start os else 0

-- a list's end width is true where it is that; the test, and in words
unfoldable pub is_true : Plan → Bool
is_true p = eqb p.end (end_of p.start p.count (ops_of p))

abbrev pub True : Plan → Type 0
True p = p.end ≡ end_of p.start p.count (ops_of p)

-- Refusal 10 is given exactly when "start width not 1 or 3, or count above 32", and "also for a false end width in a handed list"
abbrev pub lawful : Plan → Bool
lawful p = well_formed p.start p.count && is_true p

abbrev pub Lawful : Plan → Type 0
Lawful p = Formed p.start p.count × True p

abbrev pub Unlawful : Plan → Type 0
Unlawful p = Unformed p.start p.count ⊎ (¬ True p)

abbrev pub slot : Op → Slot
slot o = record { op = o }

-- the list that we return for these ops: its end width true, Clip past the count
abbrev pub plan_of : ℕ → List Op → Plan
plan_of start os = record {
  start = start;
  count = length os;
  end = end_of start (length os) os;
  ops = map slot os ++ replicate (32 - length os) (slot O.Clip);
}

-- a list refused by 10: "empty list, width 0"
abbrev pub no_list : Plan
no_list = plan_of 0 []

-- the list of these ops, or none where 10 would refuse it
abbrev pub list_of : ℕ → List Op → Plan
list_of start os = when well_formed start (length os) then plan_of start os else no_list

-- a handed list and these ops behind its own
unfoldable pub appended : Plan → List Op → Plan
appended p os = when lawful p then list_of p.start (ops_of p ++ os) else no_list
