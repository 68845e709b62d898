-- What the type of a list's slots says of it: there are thirty_two.
-- Whoever holds a value of a declared type knows this of its fields.
use mathlib.Core.Path.{◌≡◌}
use mathlib.Core.List.{List}
use mir.Val.{Val}
use Prim.Native.Nat.{◌≤◌}
use lib.ListN.{length, take}
use lib.Seq.{length-take-le}
use denote.Laws.{Is}
use denote.Struct.Declared as StructOf
use denote.Struct.Laws as Struct
use Rattle.list.specs.declared.Plan.{Plan}
use Rattle.list.specs.contracts.Plan as TPlan
use Rattle.list.proofs.Plan.TheLaws as LPlan

pub thirty_two : (p : Plan) {vs : List Val} → Is (StructOf.row TPlan.the_type) p vs → length p.ops ≡ 32
thirty_two p h =
    let q = (Struct.owed TPlan.the_type LPlan.the_laws p _ h).1.1.1.0 in
    q.1.0.1

-- so a count of at most 32 is that of the slots below it
pub as_many : (p : Plan) {vs : List Val} → Is (StructOf.row TPlan.the_type) p vs → p.count ≤ 32 → length (take p.count p.ops) ≡ p.count
as_many p h k = length-take-le p.count p.ops (rw (thirty_two p h) k)
