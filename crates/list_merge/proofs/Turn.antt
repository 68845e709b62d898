-- One turn of the merging loop, from what the calls in it answer; and its end.
-- What is held and what remains merge to what the turn puts out and what it leaves.
use Rattle.std.specs.Prelude.{Some, None}
use Prim.Native.Nat.{ℕ, ◌+◌, ◌≤◌, ◌<◌}
use mathlib.Core.Path.{◌≡◌, refl, sym, ◌∙◌}
use mathlib.Core.List.{List, [], ◌∷◌, ◌++◌, map}
use mathlib.Core.Option.{none}
use native.Mathlib.Omega.{arith}
use lib.ListN.{length, length-map, drop, get_or}
use Rattle.list.specs.Lists.{op_of, plan_of, Formed, appended}
use Rattle.op.specs.declared.Op.{Op}
use Rattle.op.specs.declared.Op.TheVariants as O
use Rattle.list.specs.declared.Slot.{Slot}
use Rattle.list.specs.declared.Plan.{Plan}
use Rattle.list.proofs.Walk.{next-op, no_more}
use Rattle.list.proofs.Building.{appended-append, appends}
use Rattle.ciexyz.specs.declared.Mat3.{Mat3}
use Rattle.list_merge.specs.Groups.{matrix_of}
use Rattle.list_merge.specs.Merge.{merge_ops}
use Rattle.list_merge.specs.Steps.{joined_by, held}
use Rattle.list_merge.specs.Steps.{Run}
use Rattle.list_merge.proofs.Front.{Kind, a_matrix, no_matrix, kind, absorbed, kept, kept-after, no_longer}

stays : {o : Op} → Kind o → ((m : Mat3) → o ≡ O.Matrix m → ⊥) → matrix_of o ≡ none
stays (a_matrix m) k = absurd (k m refl)
stays (no_matrix e) k = e

join : (r : Run) (m : Mat3) (os : List Op) → merge_ops (held (joined_by r m) ++ os) ≡ merge_ops (held r ++ (O.Matrix m ∷ os))
join None m os = refl
join (Some p) m os = sym (absorbed p m os)

end_run : (r : Run) (o : Op) → matrix_of o ≡ none → (os : List Op) → merge_ops (held r ++ (o ∷ os)) ≡ held r ++ (o ∷ merge_ops os)
end_run None o e os = kept o e os
end_run (Some p) o e os = kept-after o e os p

last_run : (r : Run) → merge_ops (held r ++ []) ≡ held r
last_run None = refl
last_run (Some p) = refl

module _ (ss : List Slot) (i : ℕ) (out : Plan) (r : Run) where
  module _ (d : Slot) (h : i < length ss) {r' : Run} {out' : Plan} where
    pub matrix-turn : {m : Mat3} {q : Run} → op_of (get_or ss i d) ≡ O.Matrix m → q ≡ joined_by r m → out' ≡ out → r' ≡ q
        → appended out' (merge_ops (held r' ++ drop (i + 1) (map op_of ss))) ≡ appended out (merge_ops (held r ++ drop i (map op_of ss)))
    matrix-turn {m} a b s t = rw (next-op ss i d h, a, s, t, b, join r m (drop (i + 1) (map op_of ss)))

    pub other-turn : {mid p : Plan} → ((m : Mat3) → op_of (get_or ss i d) ≡ O.Matrix m → ⊥) → mid ≡ appended out (held r) → p ≡ appended mid (op_of (get_or ss i d) ∷ []) → out' ≡ p → r' ≡ None
        → appended out' (merge_ops (held r' ++ drop (i + 1) (map op_of ss))) ≡ appended out (merge_ops (held r ++ drop i (map op_of ss)))
    other-turn v a b s t =
        let o = op_of (get_or ss i d) in
        let os = drop (i + 1) (map op_of ss) in
        rw (next-op ss i d h, end_run r o (stays (kind o) v) os, s, t, b, a) (appended-append (appended out (held r)) (o ∷ []) (merge_ops os) ∙ appended-append out (held r) (o ∷ merge_ops os))

  pub ends : length ss ≤ i → appended out (held r) ≡ appended out (merge_ops (held r ++ drop i (map op_of ss)))
  ends h = rw (no_more ss i h, last_run r)

-- a lawful list has room for the merged one
pub room : (s : ℕ) (ss : List Slot) → Formed s (length ss) → appended (plan_of s []) (merge_ops (map op_of ss)) ≡ plan_of s (merge_ops (map op_of ss))
room s ss f =
    let h = f.1 in
    appends s [] (merge_ops (map op_of ss)) (f.0, omega (arith, length-map ss op_of, no_longer (map op_of ss)))
