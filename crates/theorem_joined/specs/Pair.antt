-- Two lists whose join merges to another float where the second was merged before. Definitions only.
use Rattle.std.specs.Prelude.{[], ◌∷◌, Float}
use Rattle.notation.specs.F32.{bits, zero, one}
use Rattle.op.specs.declared.Op.{Op}
use Rattle.op.specs.declared.Op.TheVariants as O
use Rattle.list.specs.Lists.{plan_of}
use Rattle.list.specs.declared.Plan.{Plan}

-- the first channel by a number, the others as they are
abbrev pub scaled : Float → Op
scaled x = O.Matrix (record { m0 = x; m1 = zero; m2 = zero; m3 = zero; m4 = one; m5 = zero; m6 = zero; m7 = zero; m8 = one })

-- by 0.1
abbrev pub first : Plan
first = plan_of 3 (scaled (bits 0x3dcc_cccd) ∷ [])

-- by 0.3, and then by 0.7
abbrev pub second : Plan
second = plan_of 3 (scaled (bits 0x3e99_999a) ∷ scaled (bits 0x3f33_3333) ∷ [])
