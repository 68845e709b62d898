-- Of three lists, each with room for thirty-two ops as code holds them, the one side of associativity is not refused where the other is not.
-- The widths meet in the same two places, and the three counts make up the same sum.
use Prim.Native.Nat.{ℕ, ◌+◌}
use mathlib.Core.Path.{◌≡◌, ap, sym, subst, ◌∙◌}
use mathlib.Core.Logic.{◌↔◌}
use native.Mathlib.Omega.{arith}
use lib.ListN.{length, length-append}
use Rattle.notation.specs.Answers.{answer}
use Rattle.notation.specs.declared.Answer.{Answer}
use Rattle.list.specs.Answer.{paper}
use Rattle.list.specs.Fits.{Fits}
use Rattle.list.specs.Lists.{ops_of, Lawful}
use Rattle.list.specs.declared.Plan.{Plan}
use Rattle.list.proofs.Building.{counted}
use Rattle.list.proofs.Exactly.{passes-exactly}
use Rattle.list.proofs.Judging.{is-passing}
use Rattle.list_join.specs.Join.{join_of}
use Rattle.list_join.specs.Refusals.{Joinable}
use Rattle.list_join.proofs.Associating.{not_refused}
use Rattle.list_join.proofs.Exactly.{zero-exactly}
use Rattle.list_join.proofs.Passing.{is-joined, ends-as-second, join-passes}

-- a join not refused, as a list by itself
module _ (p q : Plan) (w : ℕ) (passed : paper (join_of p q).answer ≡ answer 0 0 w) where
  starts : (join_of p q).plan.start ≡ p.start
  starts = ap (λ (j : Plan). j.start) (is-joined p q w passed)

  counts : (join_of p q).plan.count ≡ length (ops_of p) + length (ops_of q)
  counts = ap (λ (j : Plan). j.count) (is-joined p q w passed) ∙ length-append (ops_of p) (ops_of q)

  leads : Lawful (join_of p q).plan × Fits (join_of p q).plan.start (ops_of (join_of p q).plan) w
  leads =
      let h = (passes-exactly (join_of p q).plan q.end).0 (join-passes p q w passed) in
      (h.0, subst (Fits (join_of p q).plan.start (ops_of (join_of p q).plan)) (sym (ends-as-second p q w passed)) h.1)

  -- it leads to no other width
  only : {v : ℕ} → Fits (join_of p q).plan.start (ops_of (join_of p q).plan) v → w ≡ v
  only f = ap (λ (a : Answer). a.width) (sym (is-passing (join_of p q).plan leads.0 leads.1) ∙ is-passing (join_of p q).plan leads.0 f)

module _ (p q r : Plan) (a : length p.ops ≡ 32) (b : length q.ops ≡ 32) (c : length r.ops ≡ 32) where
  right : (w : ℕ) → paper (join_of (join_of p q).plan r).answer ≡ answer 0 0 w → paper (join_of p (join_of q r).plan).answer ≡ answer 0 0 w
  right w left =
      let g = (zero-exactly (join_of p q).plan r w).0 left in
      let i = not_refused p q g.0.0 in
      let h = (zero-exactly p q i.0).0 i.1 in
      let n = counts p q i.0 i.1 in
      let k = g.0.2 in
      let len-p = counted p a h.0.0.0.1 in
      let len-q = counted q b h.0.1.0.1 in
      let len-r = counted r c g.0.1.0.1 in
      let j : Joinable q r = (h.0.1, g.0.1, omega arith) in
      let e = (zero-exactly q r w).1 (j, subst (Fits q.start (ops_of q)) (only p q i.0 i.1 g.1) h.2, g.2) in
      let m = counts q r w e in
      let f = leads q r w e in
      (zero-exactly p (join_of q r).plan w).1 ((h.0.0, f.0, omega arith), subst (Fits p.start (ops_of p)) (sym (starts q r w e)) h.1, f.1)

  left : (w : ℕ) → paper (join_of p (join_of q r).plan).answer ≡ answer 0 0 w → paper (join_of (join_of p q).plan r).answer ≡ answer 0 0 w
  left w right =
      let g = (zero-exactly p (join_of q r).plan w).0 right in
      let i = not_refused q r g.0.1 in
      let h = (zero-exactly q r i.0).0 i.1 in
      let n = counts q r i.0 i.1 in
      let k = g.0.2 in
      let len-p = counted p a g.0.0.0.1 in
      let len-q = counted q b h.0.0.0.1 in
      let len-r = counted r c h.0.1.0.1 in
      let j : Joinable p q = (g.0.0, h.0.0, omega arith) in
      let e = (zero-exactly p q r.start).1 (j, subst (Fits p.start (ops_of p)) (starts q r i.0 i.1) g.1, h.1) in
      let m = counts p q r.start e in
      let f = leads p q r.start e in
      (zero-exactly (join_of p q).plan r w).1 ((f.0, h.0.1, omega arith), f.1, subst (Fits r.start (ops_of r)) (only q r i.0 i.1 g.2) h.2)

  pub either_side : (w : ℕ) → (paper (join_of (join_of p q).plan r).answer ≡ answer 0 0 w) ↔ (paper (join_of p (join_of q r).plan).answer ≡ answer 0 0 w)
  either_side w = (right w, left w)
