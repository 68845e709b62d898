-- Planning between what numbers mean: "Numbers that are none of the table's: refused by 2, as what lies outside its range, after 1". Definitions only.
use Rattle.std.specs.Prelude.{ℕ, List, Float, ℤ, Err, Some, None}
use Rattle.encoding.specs.declared.ColourEncoding.{ColourEncoding}
use Rattle.encoding.specs.declared.ColourEncoding.TheVariants as E
use Rattle.encoding.specs.declared.Settings.{Settings}
use Rattle.planner.specs.Planning.{refusal, planned_of}
use Rattle.planner.specs.declared.Planned.{Planned}
use Rattle.planner.specs.declared.PlanError.TheVariants.{Icc, OutOfRange}
use Rattle.encoding_numbers.specs.Sides.{side_of}
use Rattle.encoding_numbers.specs.Floats.{settings_of}
use Rattle.encoding_numbers.specs.Sides.{Side}

-- where the numbers of one side mean nothing, and the other side is this: "refused by 2 .., after 1"
abbrev pub beside : ColourEncoding → Planned
beside E.IccProfile = refusal (Err Icc)
beside (E.Enum e) = refusal (Err OutOfRange)

abbrev pub planned_by : Side → Side → Settings → Planned
planned_by (Some source) (Some target) settings = planned_of source target settings
planned_by (Some source) None settings = beside source
planned_by None (Some target) settings = beside target
planned_by None None settings = refusal (Err OutOfRange)

-- of the numbers themselves
unfoldable pub planned_from : List ℤ → List ℤ → List Float → ℕ → ℕ → Planned
planned_from source target floats detect pq = planned_by (side_of source) (side_of target) (settings_of floats detect pq)
