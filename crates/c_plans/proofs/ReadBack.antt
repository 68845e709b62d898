-- What was sent is read back as that list, and a plan as the planned list, so that a call on its block speaks of it; and a block written again is the same.
-- A list that was sent was written whole (Sending), and what is written is read back (`theorem_roundtrip`); a planned list is its ops, with Clip past them.
use Rattle.std.specs.Prelude.{Ok, Err, Some, None}
use Prim.Native.Nat.{ℕ, ◌≤◌}
use mathlib.Core.Path.{◌≡◌, ap, ◌∙◌}
use mathlib.Core.Bool.{Bool, true, false}
use mathlib.Core.List.{List, [], ◌++◌}
use lib.Dec.{eqb}
use lib.Ieee.{Float}
use lib.IntN.{ℤ}
use lib.ListN.{length, take, drop}
use Rattle.notation.specs.Answers.{answer}
use Rattle.notation.specs.Choice.{when◌then◌else◌}
use Rattle.notation.specs.declared.Answer.{Answer}
use Rattle.op.specs.declared.Op.{Op}
use Rattle.list.specs.Lists.{ops_of, plan_of}
use Rattle.list.specs.declared.Plan.{Plan}
use Rattle.list.proofs.Building.{ops-of}
use Rattle.list_merge.specs.Merge.{merge_ops}
use Rattle.encoding.specs.Encodings.{channels_of}
use Rattle.encoding.specs.Equivalence.{equivalent}
use Rattle.encoding.specs.declared.ColourEncoding.{ColourEncoding}
use Rattle.encoding.specs.declared.ColourEncoding.TheVariants as E
use Rattle.encoding.specs.declared.EnumColourEncoding.{EnumColourEncoding}
use Rattle.encoding.specs.declared.Settings.{Settings}
use Rattle.plan_stages.specs.Stages.{stage_ops}
use Rattle.planner.specs.Planning as P
use Rattle.planner.specs.Planning.{refusal, done, out_of_range, retired, unsupported, planned, planned_of}
use Rattle.planner.specs.declared.Planned.{Planned}
use Rattle.planner.specs.Planning.{Planning}
use Rattle.planner.specs.declared.PlanError.TheVariants.{Icc, OutOfRange, Retired, Unsupported}
use Rattle.block_read.specs.Block.{paper, read_of}
use Rattle.block_read.specs.declared.ReadError.TheVariants as R
use Rattle.block_write.specs.Writing.{left_of}
use Rattle.block_write.specs.Refusals.{RetiredList}
use Rattle.theorem_roundtrip.specs.Typed.{Typed, AreBytes}
use Rattle.theorem_roundtrip.proofs.ReadBack.{read_back}
use Rattle.theorem_roundtrip.proofs.Rewriting.{same_block}
use Rattle.encoding_numbers.specs.Sides.{side_of}
use Rattle.encoding_numbers.specs.Floats.{settings_of}
use Rattle.encoding_numbers.specs.Sides.{Side}
use Rattle.c_plan.specs.Planned.{beside, planned_by, planned_from}
use Rattle.c_plan.specs.Sent.{sent_after, left_after, plan_sent, plan_left}
use Rattle.c_plans.specs.Lists.{rewrite_left}
use Rattle.c_plan.proofs.Sending.{sent-whole}

-- a planned list is that of its ops
abbrev Whole : Planned → Type 0
Whole q = plan_of q.plan.start (ops_of q.plan) ≡ q.plan

whole_done : (start : ℕ) (os : List Op) → Whole (done start os)
whole_done start os = ap (plan_of start) (ops-of start os)

whole_refused : (answer : Planning) → Whole (refusal answer)
whole_refused answer = ap (plan_of 0) (ops-of 0 [])

choice : (b : Bool) (x y : Planned) → Whole x → Whole y → Whole (when b then x else y)
choice true x y h k = h
choice false x y h k = k

whole_enum : (s t : EnumColourEncoding) (settings : Settings) → Whole (planned s t settings)
whole_enum s t settings =
    choice (out_of_range s t) _ _ (whole_refused (Err OutOfRange))
    (choice (retired s t) _ _ (whole_refused (Err Retired))
    (choice (equivalent s t) _ _ (whole_done (channels_of s) [])
    (choice (unsupported s t) _ _ (whole_refused (Err Unsupported)) (whole_done (channels_of s) (merge_ops (stage_ops s t settings))))))

whole_plan : (s t : ColourEncoding) (settings : Settings) → Whole (planned_of s t settings)
whole_plan E.IccProfile t settings = whole_refused (Err Icc)
whole_plan (E.Enum s) E.IccProfile settings = whole_refused (Err Icc)
whole_plan (E.Enum s) (E.Enum t) settings = whole_enum s t settings

whole_beside : (e : ColourEncoding) → Whole (beside e)
whole_beside E.IccProfile = whole_refused (Err Icc)
whole_beside (E.Enum e) = whole_refused (Err OutOfRange)

whole_by : (s t : Side) (settings : Settings) → Whole (planned_by s t settings)
whole_by (Some s) (Some t) settings = whole_plan s t settings
whole_by (Some s) None settings = whole_beside s
whole_by None (Some t) settings = whole_beside t
whole_by None None settings = whole_refused (Err OutOfRange)

-- a list that was sent in version v, and bytes t behind what was written: so of planning, merging, writing again and joining
module _ (number : ℕ) (p : Plan) (v : ℕ) (old t : List ℕ) where
  abbrev length-sent : ℕ
  length-sent = (sent_after number p v (length old)).length

  pub sent-read-back : Typed p → (sent_after number p v (length old)).number ≡ 0
      → read_of (take length-sent (left_after number p v old) ++ t) ≡ record { answer = (Ok tt); version = v; plan = plan_of p.start (ops_of p); used = length-sent }
  sent-read-back y e =
      let s = sent-whole number p v old e in
      rw (s.1, s.2) (read_back p y v old s.0 t)

-- numbers between which a plan was written
module _ (source target : List ℤ) (floats : List Float) (detect pq v : ℕ) (old t : List ℕ) where
  abbrev q : Planned
  q = planned_from source target floats detect pq

  whole : Whole q
  unfolding planned_from
  whole = whole_by (side_of source) (side_of target) (settings_of floats detect pq)

  abbrev used : ℕ
  used = (plan_sent q v (length old)).length

  pub plan-read-back : Typed q.plan → (plan_sent q v (length old)).number ≡ 0
      → read_of (take used (plan_left q v old) ++ t) ≡ record { answer = (Ok tt); version = v; plan = q.plan; used = used }
  plan-read-back y e = sent-read-back (P.paper q.answer).number q.plan v old t y e ∙ ap (λ (p : Plan). record { answer = (Ok tt); version = v; plan = p; used = used }) whole

-- a block written again at its own version is the same block, byte for byte, where it has no curve 3 and there is room
pub rewrite_same : (s : List ℕ) → AreBytes s → paper (read_of s).answer ≡ answer 0 0 0 → ¬ RetiredList (read_of s).plan → (old : List ℕ) → (read_of s).used ≤ length old
    → rewrite_left (read_of s) (read_of s).version old ≡ take (read_of s).used s ++ drop (read_of s).used old
rewrite_same s b e n old room =
    ap (λ (a : Answer). when eqb a.number 0 then left_of (read_of s).plan (read_of s).version old else old) e ∙ same_block s b e n old room
