-- What planning answers. "Order: planning 1, 2, equivalence, 3." (01, Refusal numbers). "15 in planning, after 2 and before equivalence". (02, W10)
use Rattle.std.specs.Prelude.{ℕ, Bool, not, ◌&&◌, ◌||◌, List, [], Ok, Err, Result}
use Rattle.notation.specs.Choice.{when◌then◌else◌}
use Rattle.notation.specs.Answers.{answer}
use Rattle.notation.specs.declared.Answer.{Answer}
use Rattle.list.specs.Lists.{plan_of, no_list}
use Rattle.op.specs.Retired.{is_unknown}
use Rattle.op.specs.declared.Op.{Op}
use Rattle.list_merge.specs.Merge.{merge_ops}
use Rattle.encoding.specs.Encodings.{channels_of}
use Rattle.encoding.specs.Named.{same_space}
use Rattle.encoding.specs.Equivalence.{equivalent}
use Rattle.encoding.specs.Ranges.{in_range}
use Rattle.encoding.specs.declared.ColourSpace.TheVariants as S
use Rattle.encoding.specs.declared.EnumColourEncoding.{EnumColourEncoding}
use Rattle.encoding.specs.declared.ColourEncoding.{ColourEncoding}
use Rattle.encoding.specs.declared.ColourEncoding.TheVariants as E
use Rattle.encoding.specs.declared.Settings.{Settings}
use Rattle.plan_stages.specs.Stages.{stage_ops}
use Rattle.planner.specs.declared.PlanError.{PlanError}
use Rattle.planner.specs.declared.PlanError.TheVariants.{Icc, OutOfRange, Retired, Unsupported}
use Rattle.planner.specs.declared.Planned.{Planned}

-- what planning answers
abbrev pub Planning : Type 0
Planning = Result (Unit {0}) PlanError

-- 01's answer; planning names no position and no width
abbrev pub paper : Planning → Answer
paper (Ok tt) = answer 0 0 0
paper (Err Icc) = answer 1 0 0
paper (Err OutOfRange) = answer 2 0 0
paper (Err Retired) = answer 15 0 0
paper (Err Unsupported) = answer 3 0 0

-- a refusal's result is "empty list, width 0"
abbrev pub refusal : Planning → Planned
refusal answer = record { answer = answer; plan = no_list }

abbrev pub done : ℕ → List Op → Planned
done start ops = record { answer = (Ok tt); plan = plan_of start ops }

-- 2: "a coordinate or `g` outside its range, on either side"
abbrev pub out_of_range : EnumColourEncoding → EnumColourEncoding → Bool
out_of_range source target = not (in_range source) || not (in_range target)

-- 15: "an encoding whose transfer function is Unknown, on either side, even if the sides are equivalent. Only in an Xyb encoding is the curve not looked at"
abbrev pub has_unknown : EnumColourEncoding → Bool
has_unknown e = not (same_space e.colour_space S.Xyb) && is_unknown e.tf

abbrev pub retired : EnumColourEncoding → EnumColourEncoding → Bool
retired source target = has_unknown source || has_unknown target

-- 3: "the source is Unknown or the target is Xyb or Unknown"
abbrev pub unsupported : EnumColourEncoding → EnumColourEncoding → Bool
unsupported source target =
    same_space source.colour_space S.Unknown
    || (same_space target.colour_space S.Xyb || same_space target.colour_space S.Unknown)

-- "Equivalent sides give an empty list, start width 1 for a Grey source, else 3. [..] A plan is merged last."
abbrev pub planned : EnumColourEncoding → EnumColourEncoding → Settings → Planned
planned source target settings =
    when out_of_range source target then refusal (Err OutOfRange)
    else when retired source target then refusal (Err Retired)
    else when equivalent source target then done (channels_of source) []
    else when unsupported source target then refusal (Err Unsupported)
    else done (channels_of source) (merge_ops (stage_ops source target settings))

abbrev pub planned_of : ColourEncoding → ColourEncoding → Settings → Planned
planned_of E.IccProfile target settings = refusal (Err Icc)
planned_of (E.Enum source) E.IccProfile settings = refusal (Err Icc)
planned_of (E.Enum source) (E.Enum target) settings = planned source target settings
