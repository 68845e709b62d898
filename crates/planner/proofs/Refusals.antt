-- Each number is given exactly when 01's table and W10 say, in the order 1, 2, 15, equivalence, 3; and a refused plan is the empty list with width 0.
-- One answer is given, the first in the order whose cause holds (Sorting).
use Rattle.std.specs.Prelude.{Ok, Err}
use mathlib.Core.Path.{◌≡◌}
use mathlib.Core.Logic.{◌↔◌}
use native.Mathlib.Omega.{arith}
use Rattle.notation.specs.Answers.{answer}
use Rattle.notation.specs.Order.{none, this, later}
use Rattle.notation.proofs.Order.{caused, passed}
use Rattle.list.specs.Lists.{no_list}
use Rattle.encoding.specs.declared.ColourEncoding.{ColourEncoding}
use Rattle.encoding.specs.declared.Settings.{Settings}
use Rattle.planner.specs.Planning.{paper, planned_of}
use Rattle.planner.specs.Refusals.{IsIcc, IsOutside, IsRetired, IsUnsupported}
use Rattle.planner.specs.Planning.{Planning}
use Rattle.planner.specs.declared.PlanError.TheVariants.{Icc, OutOfRange, Retired, Unsupported}
use Rattle.planner.proofs.Sorting.{told, exactly}

other : (p q : Planning) → ¬ ((paper p).number ≡ (paper q).number) → ¬ (p ≡ q)
other p q n e = n (rw e)

module _ (source target : ColourEncoding) (settings : Settings) where
  -- 1 exactly when either side is ICC
  pub one-exactly : (paper (planned_of source target settings).answer ≡ answer 1 0 0) ↔ IsIcc source target
  one-exactly = (λ e. caused ((exactly source target settings (Err Icc)).0 e) (other (Ok tt) (Err Icc) (omega arith)), λ i. (exactly source target settings (Err Icc)).1 (this i))

  -- 2 exactly when no side is ICC, and a coordinate or `g` of either is outside its range
  pub two-exactly : (paper (planned_of source target settings).answer ≡ answer 2 0 0) ↔ ((¬ IsIcc source target) × IsOutside source target)
  two-exactly = (
    λ e. let g = (exactly source target settings (Err OutOfRange)).0 e in ((passed g (other (Err Icc) (Err OutOfRange) (omega arith))).0, caused g (other (Ok tt) (Err OutOfRange) (omega arith))),
    λ h. (exactly source target settings (Err OutOfRange)).1 (later h.0 (this h.1)),
  )

  -- 15 exactly when neither 1 nor 2 is given, and a side that is not Xyb has the Unknown curve
  pub fifteen-exactly : (paper (planned_of source target settings).answer ≡ answer 15 0 0) ↔ ((¬ IsIcc source target) × (¬ IsOutside source target) × IsRetired source target)
  fifteen-exactly = (
    λ e. let g = (exactly source target settings (Err Retired)).0 e in
        let h = passed g (other (Err Icc) (Err Retired) (omega arith)) in
        (h.0, (passed h.1 (other (Err OutOfRange) (Err Retired) (omega arith))).0, caused g (other (Ok tt) (Err Retired) (omega arith))),
    λ h. (exactly source target settings (Err Retired)).1 (later h.0 (later h.1 (this h.2))),
  )

  -- 3 exactly when neither 1, 2 nor 15 is given, the sides are not equivalent, and the source is Unknown or the target is Xyb or Unknown
  pub three-exactly : (paper (planned_of source target settings).answer ≡ answer 3 0 0)
      ↔ ((¬ IsIcc source target) × (¬ IsOutside source target) × (¬ IsRetired source target) × IsUnsupported source target)
  three-exactly = (
    λ e. let g = (exactly source target settings (Err Unsupported)).0 e in
        let h = passed g (other (Err Icc) (Err Unsupported) (omega arith)) in
        let k = passed h.1 (other (Err OutOfRange) (Err Unsupported) (omega arith)) in
        (h.0, k.0, (passed k.1 (other (Err Retired) (Err Unsupported) (omega arith))).0, caused g (other (Ok tt) (Err Unsupported) (omega arith))),
    λ h. (exactly source target settings (Err Unsupported)).1 (later h.0 (later h.1 (later h.2 (this h.3)))),
  )

  -- 0 otherwise
  pub zero-exactly : (paper (planned_of source target settings).answer ≡ answer 0 0 0)
      ↔ ((¬ IsIcc source target) × (¬ IsOutside source target) × (¬ IsRetired source target) × (¬ IsUnsupported source target))
  zero-exactly = (
    λ e. let h = passed ((exactly source target settings (Ok tt)).0 e) (other (Err Icc) (Ok tt) (omega arith)) in
        let k = passed h.1 (other (Err OutOfRange) (Ok tt) (omega arith)) in
        let m = passed k.1 (other (Err Retired) (Ok tt) (omega arith)) in
        (h.0, k.0, m.0, (passed m.1 (other (Err Unsupported) (Ok tt) (omega arith))).0),
    λ h. (exactly source target settings (Ok tt)).1 (later h.0 (later h.1 (later h.2 (later h.3 none)))),
  )

  -- "empty list, width 0"
  pub refused-empty : ¬ (paper (planned_of source target settings).answer ≡ answer 0 0 0) → (planned_of source target settings).plan ≡ no_list
  refused-empty = (told source target settings).empty
