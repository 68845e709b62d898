-- Merging keeps the verdict and the end width, as the check tells it and as the list holds it. "The verdict is pass or not; the position in a 5 may move." (01, Planning)
-- The rows of the table lead through both lists to one width, or through neither (Fitting).
use Prim.Native.Nat.{ℕ}
use mathlib.Core.Path.{◌≡◌, refl, ap, sym, ◌∙◌}
use mathlib.Core.Bool.{Bool, true, false}
use native.Mathlib.Omega.{arith}
use Rattle.list.specs.Lists.{ops_of, plan_of, True, lawful, Lawful}
use Rattle.list.specs.declared.Plan.{Plan}
use Rattle.list.proofs.Building.{ops-of, plan-true}
use Rattle.list.proofs.Ending.{told}
use Rattle.list.proofs.Formed.{lawful-exactly, unlawful-exactly, never_both}
use Rattle.notation.specs.Answers.{answer, Alike}
use Rattle.notation.specs.declared.Answer.{Answer}
use Rattle.list.specs.Answer.{paper}
use Rattle.list.specs.Check.{check_of}
use Rattle.list.specs.Fits.{Fits, FailsAt}
use Rattle.list.proofs.Judging.{Judged, malformed, passing, failing, judged, is-malformed, is-passing, is-failing, apart}
use Rattle.list_merge.specs.Merge.{merge_ops, merge_of}
use Rattle.list_merge.proofs.Fitting.{fits-merged}
use Rattle.list_merge.proofs.Front.{still_lawful}

-- the check answers the merged list as it answered the list, but for the position
pub merge_keeps : (p : Plan) → Alike (paper (check_of (merge_of p).plan)) (paper (check_of p))
merge_keeps p = by (judged p)
  where
    alike : {n i j w : ℕ} → paper (check_of (merge_of p).plan) ≡ answer n i w → paper (check_of p) ≡ answer n j w → Alike (paper (check_of (merge_of p).plan)) (paper (check_of p))
    alike e f = (rw (e, f), rw (e, f))

    q : Plan
    q = plan_of p.start (merge_ops (ops_of p))

    of-q : {a : Answer} → Lawful p → paper (check_of q) ≡ a → paper (check_of (merge_of p).plan) ≡ a
    of-q l e = rw ((lawful-exactly p).1 l) e

    fitting : {v : ℕ} → Fits p.start (ops_of p) v → Fits q.start (ops_of q) v
    fitting f = rw (ops-of p.start (merge_ops (ops_of p))) ((fits-merged (ops_of p)).0 f)

    fitted : {v : ℕ} → Fits q.start (ops_of q) v → Fits p.start (ops_of p) v
    fitted f = (fits-merged (ops_of p)).1 (rw (ops-of p.start (merge_ops (ops_of p))) at f)

    failed : {i : ℕ} → Lawful p → FailsAt p.start (ops_of p) i → Judged q → Alike (paper (check_of (merge_of p).plan)) (paper (check_of p))
    failed l f (malformed u) = absurd (never_both q (still_lawful p l) u)
    failed l f (passing k g) = apart (is-passing p l (fitted g)) (is-failing p l f) (omega arith)
    failed l f (failing k g) = alike (of-q l (is-failing q k g)) (is-failing p l f)

    by : Judged p → Alike (paper (check_of (merge_of p).plan)) (paper (check_of p))
    by (malformed u) = alike {i = 0} (rw ((unlawful-exactly p).1 u)) (is-malformed p u)
    by (passing l f) = alike (of-q l (is-passing q (still_lawful p l) (fitting f))) (is-passing p l f)
    by (failing l f) = failed l f (judged q)

-- a merged list holds the end width that the list held, and a true one
pub end_kept : (p : Plan) → Lawful p → (merge_of p).plan.end ≡ p.end
end_kept p l =
    let q = plan_of p.start (merge_ops (ops_of p)) in
    let e = (lawful-exactly p).1 l in
    let f = (lawful-exactly q).1 (still_lawful p l) in
    let merged : (merge_of p).plan ≡ q = rw e in
    let told-q : (paper (check_of q)).width ≡ q.end = told q ∙ rw f in
    let told-p : (paper (check_of p)).width ≡ p.end = told p ∙ rw e in
    ap (λ (m : Plan). m.end) merged ∙ sym told-q ∙ sym (ap (λ (m : Plan). (paper (check_of m)).width) merged) ∙ (merge_keeps p).1 ∙ told-p

pub merged-true : (p : Plan) → True (merge_of p).plan
merged-true p = by (lawful p) refl
  where
    by : (b : Bool) → lawful p ≡ b → True (merge_of p).plan
    by true e = rw e (plan-true p.start (merge_ops (ops_of p)))
    by false e = rw e
