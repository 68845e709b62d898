-- Two lists are called the same exactly where their start widths, counts, end widths and ops are equal, and so for two curves.
-- Each test decides equality (Deciding).
use Prim.Native.Nat.{ℕ}
use mathlib.Core.Path.{◌≡◌, sym, ◌∙◌}
use mathlib.Core.Bool.{true, ◌&&◌, and-eq-true_iff}
use mathlib.Core.Logic.{◌↔◌}
use mathlib.Core.List.{List}
use lib.Dec.{eqb}
use borrow.Author.Tests.{eq-eqb, eqb-true}
use Rattle.list.specs.Lists.{ops_of, end_of, True}
use Rattle.list_same.specs.Same.{same_curve, same_all, same_op, same_list}
use Rattle.op.specs.declared.Curve.{Curve}
use Rattle.op.specs.declared.Op.{Op}
use Rattle.list.specs.declared.Plan.{Plan}
use Rattle.notation.proofs.Deciding.{exactly, both}
use Rattle.list_same.proofs.Deciding.{alls, curves, ops}

pub same_list-exactly : (a b : Plan) → (same_list a b ≡ true) ↔ ((a.start ≡ b.start) × (a.count ≡ b.count) × (a.end ≡ b.end) × (ops_of a ≡ ops_of b))
same_list-exactly a b = (
  read,
  λ e. both (both (both (eq-eqb a.start b.start e.0) (eq-eqb a.count b.count e.1)) (eq-eqb a.end b.end e.2)) ((exactly (alls ops) (ops_of a) (ops_of b)).1 e.3),
)
  where
    read : same_list a b ≡ true → (a.start ≡ b.start) × (a.count ≡ b.count) × (a.end ≡ b.end) × (ops_of a ≡ ops_of b)
    read e =
        let p = (and-eq-true_iff (eqb a.start b.start && eqb a.count b.count && eqb a.end b.end) (same_all same_op (ops_of a) (ops_of b))).0 e in
        let q = (and-eq-true_iff (eqb a.start b.start && eqb a.count b.count) (eqb a.end b.end)).0 p.0 in
        let r = (and-eq-true_iff (eqb a.start b.start) (eqb a.count b.count)).0 q.0 in
        (eqb-true a.start b.start r.0, eqb-true a.count b.count r.1, eqb-true a.end b.end q.1, (exactly (alls ops) (ops_of a) (ops_of b)).0 p.1)

-- where the end widths are true, they follow from the rest
pub true_lists_same : (a b : Plan) → True a → True b → (same_list a b ≡ true) ↔ ((a.start ≡ b.start) × (a.count ≡ b.count) × (ops_of a ≡ ops_of b))
true_lists_same a b s t = (
  λ e. let h = (same_list-exactly a b).0 e in (h.0, h.1, h.3),
  λ h. (same_list-exactly a b).1 (h.0, h.1, s ∙ same_end h.0 h.1 h.2 ∙ sym t, h.2),
)
  where
    same_end : {m m' n n' : ℕ} {os os' : List Op} → m ≡ m' → n ≡ n' → os ≡ os' → end_of m n os ≡ end_of m' n' os'
    same_end e f g = rw (e, f, g)

pub same_curve-exactly : (a b : Curve) → (same_curve a b ≡ true) ↔ (a ≡ b)
same_curve-exactly = exactly curves
