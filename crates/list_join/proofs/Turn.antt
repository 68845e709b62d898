-- One turn of the loop that appends ops, from what the push in it answers; its beginning and its end.
-- Appending in parts is appending the whole.
use Prim.Native.Nat.{ℕ, suc, ◌+◌, ◌<◌}
use mathlib.Core.Path.{◌≡◌, ap, sym, ◌∙◌}
use mathlib.Core.List.{List, [], ◌∷◌, map, map-append}
use native.Mathlib.Omega.{arith}
use lib.ListN.{length, take, get_or}
use lib.Seq.{take-suc}
use Rattle.op.specs.declared.Op.{Op}
use Rattle.list.specs.Lists.{op_of, appended}
use Rattle.list.specs.declared.Plan.{Plan}
use Rattle.list.specs.declared.Slot.{Slot}
use Rattle.list.proofs.Building.{appended-append}

-- a list as we return it stays so
pub begun : (p : Plan) {out : Plan} → out ≡ appended p [] → out ≡ appended out []
begun p e = rw e (sym (appended-append p [] []))

pub next : (p : Plan) (ss : List Slot) (i : ℕ) (d : Slot) → i < length ss → {out pushed : Plan}
    → out ≡ appended p (map op_of (take i ss)) → pushed ≡ appended out (op_of (get_or ss i d) ∷ []) → pushed ≡ appended p (map op_of (take (i + 1) ss))
next p ss i d h {out} e f =
    let o = op_of (get_or ss i d) in
    let one : i + 1 ≡ suc i = omega arith in
    let longer = ap (map op_of) (ap (λ (k : ℕ). take k ss) one ∙ take-suc ss i d h) ∙ map-append op_of (take i ss) (get_or ss i d ∷ []) in
    f ∙ ap (λ (q : Plan). appended q (o ∷ [])) e ∙ appended-append p (map op_of (take i ss)) (o ∷ []) ∙ ap (appended p) (sym longer)

pub ended : (p : Plan) {out₀ : Plan} → out₀ ≡ appended p [] → (os : List Op) → appended out₀ os ≡ appended p os
ended p e os = rw e (appended-append p [] os)
