-- What 01's table and W10 say of planning, in words and apart from the tests. (01, Refusal numbers; 02, W10)
use Rattle.std.specs.Prelude.{◌≡◌, List, [], ◌∷◌, ◌⊎◌, Ok, Err}
use Rattle.notation.specs.Order.{FirstOf}
use Rattle.op.specs.declared.Curve.TheVariants as C
use Rattle.encoding.specs.Equivalence.{Equivalent}
use Rattle.encoding.specs.Ranges.{Outside}
use Rattle.encoding.specs.declared.ColourSpace.TheVariants as S
use Rattle.encoding.specs.declared.EnumColourEncoding.{EnumColourEncoding}
use Rattle.encoding.specs.declared.ColourEncoding.{ColourEncoding}
use Rattle.encoding.specs.declared.ColourEncoding.TheVariants as E
use Rattle.planner.specs.Planning.{Planning}
use Rattle.planner.specs.declared.PlanError.TheVariants.{Icc, OutOfRange, Retired, Unsupported}

-- 1: "either side is ICC"
abbrev pub IsIcc : ColourEncoding → ColourEncoding → Type 0
IsIcc source target = (source ≡ E.IccProfile) ⊎ (target ≡ E.IccProfile)

-- 2: "a coordinate or `g` outside its range, on either side, used or not"
abbrev pub Strays : ColourEncoding → Type 0
Strays E.IccProfile = ⊥
Strays (E.Enum e) = Outside e

abbrev pub IsOutside : ColourEncoding → ColourEncoding → Type 0
IsOutside source target = Strays source ⊎ Strays target

-- 15: "an encoding whose transfer function is Unknown, on either side, even if the sides are equivalent. Only in an Xyb encoding is the curve not looked at"
abbrev pub Unlabelled : EnumColourEncoding → Type 0
Unlabelled e = (¬ (e.colour_space ≡ S.Xyb)) × (e.tf ≡ C.Unknown)

abbrev pub Retires : ColourEncoding → Type 0
Retires E.IccProfile = ⊥
Retires (E.Enum e) = Unlabelled e

abbrev pub IsRetired : ColourEncoding → ColourEncoding → Type 0
IsRetired source target = Retires source ⊎ Retires target

-- 3: "not equivalent, and the source is Unknown or the target is Xyb or Unknown"
abbrev pub Lacks : EnumColourEncoding → EnumColourEncoding → Type 0
Lacks s t = (s.colour_space ≡ S.Unknown) ⊎ ((t.colour_space ≡ S.Xyb) ⊎ (t.colour_space ≡ S.Unknown))

abbrev pub IsUnsupported : ColourEncoding → ColourEncoding → Type 0
IsUnsupported E.IccProfile target = ⊥
IsUnsupported (E.Enum s) E.IccProfile = ⊥
IsUnsupported (E.Enum s) (E.Enum t) = (¬ Equivalent s t) × Lacks s t

-- "Order: planning 1, 2, equivalence, 3", and 15 "after 2 and before equivalence": what each answer is given for, and their order; 0 where none of
-- these is given
abbrev pub Cause : ColourEncoding → ColourEncoding → Planning → Type 0
Cause source target (Err Icc) = IsIcc source target
Cause source target (Err OutOfRange) = IsOutside source target
Cause source target (Err Retired) = IsRetired source target
Cause source target (Err Unsupported) = IsUnsupported source target
Cause source target (Ok tt) = Unit {0}

abbrev pub order : List Planning
order = (Err Icc) ∷ (Err OutOfRange) ∷ (Err Retired) ∷ (Err Unsupported) ∷ []

abbrev pub Given : ColourEncoding → ColourEncoding → Planning → Type 0
Given source target answer = FirstOf (Cause source target) (Ok tt) order answer
