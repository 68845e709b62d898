-- Joining is associative where neither side is refused, and the empty list of the right width is its unit on either side.
-- A side that is not refused has three lists behind one another; a refused inner join is no list, and the outer one is refused too.
use Rattle.std.specs.Prelude.{Ok, Err}
use Prim.Native.Nat.{ℕ}
use mathlib.Core.Path.{◌≡◌, refl, ap, sym, subst, ◌∙◌}
use mathlib.Core.List.{List, [], ◌++◌, append_assoc, append-nil}
use mathlib.Core.Logic.{◌⊎◌, inl, inr, ⊎_elim}
use native.Mathlib.Omega.{arith}
use Rattle.notation.specs.Answers.{answer}
use Rattle.op.specs.Table.{Step, xyb, matrix, ootf, tone_map, gamut_map, hlg, from_luma, to_luma, tone_map_luma, clip, curve}
use Rattle.op.specs.declared.Op.{Op}
use Rattle.list.specs.Answer.{paper}
use Rattle.list.specs.Check.{check_of}
use Rattle.list.specs.Fits.{Fits, none, more}
use Rattle.list.specs.Lists.{ops_of, plan_of, no_list, Lawful}
use Rattle.list.specs.declared.Plan.{Plan}
use Rattle.list.specs.Check.{Verdict}
use Rattle.list.specs.declared.CheckError.TheVariants.{Malformed, Misfit}
use Rattle.list.proofs.Building.{plan-true}
use Rattle.list.proofs.EndWidth.{passes-with-end}
use Rattle.list.proofs.Exactly.{passes-exactly}
use Rattle.list_join.specs.Join.{joined_by, join_of, verdict_of}
use Rattle.list_join.specs.Refusals.{Joinable}
use Rattle.list_join.specs.declared.Joined.{Joined}
use Rattle.list_join.proofs.Answered.{is-given}
use Rattle.list_join.proofs.Exactly.{zero-exactly}
use Rattle.list_join.proofs.Passing.{is-joined, ops-joined, ends-as-second, holds-the-end}

abbrev joined : Verdict → Plan → Joined
joined v p = record { answer = v; plan = p }

-- no list is refused by 10
none_refused : ¬ Lawful no_list
none_refused l = ⊎_elim (λ e. omega arith) (λ e. omega arith) l.0.0

-- a join that is a list was not refused
pub not_refused : (p q : Plan) → Lawful (join_of p q).plan → (w : ℕ) × (paper (join_of p q).answer ≡ answer 0 0 w)
not_refused p q = by (verdict_of p q)
  where
    by : (v : Verdict) → Lawful (joined_by v p q) → (w : ℕ) × (paper v ≡ answer 0 0 w)
    by (Ok w) l = (w, refl)
    by (Err Malformed) l = absurd (none_refused l)
    by (Err (Misfit i)) l = absurd (none_refused l)

-- a join that is not refused, whole
whole : (p q : Plan) (w : ℕ) → paper (join_of p q).answer ≡ answer 0 0 w → join_of p q ≡ joined (Ok q.end) (plan_of p.start (ops_of p ++ ops_of q))
whole p q w e =
    let a = is-given p q (Ok w) ((zero-exactly p q w).0 e) ∙ ap Ok (ends-as-second p q w e) in
    ap (λ (v : Verdict). joined v (joined_by v p q)) a

pub associates : (p q r : Plan) (v w : ℕ) → paper (join_of (join_of p q).plan r).answer ≡ answer 0 0 v → paper (join_of p (join_of q r).plan).answer ≡ answer 0 0 w
    → join_of (join_of p q).plan r ≡ join_of p (join_of q r).plan
associates p q r v w left right =
    let first = not_refused p q ((zero-exactly (join_of p q).plan r v).0 left).0.0 in
    let last = not_refused q r ((zero-exactly p (join_of q r).plan w).0 right).0.1 in
    let starts = ap (λ (j : Plan). j.start) (is-joined p q first.0 first.1) in
    whole (join_of p q).plan r v left
    ∙ ap (λ (s : ℕ). joined (Ok r.end) (plan_of s (ops_of (join_of p q).plan ++ ops_of r))) starts
    ∙ ap (λ (os : List Op). joined (Ok r.end) (plan_of p.start (os ++ ops_of r))) (ops-joined p q first.0 first.1)
    ∙ ap (λ (os : List Op). joined (Ok r.end) (plan_of p.start os)) (append_assoc (ops_of p) (ops_of q) (ops_of r))
    ∙ sym (whole p (join_of q r).plan w right
    ∙ ap (λ (os : List Op). joined (Ok (join_of q r).plan.end) (plan_of p.start (ops_of p ++ os))) (ops-joined q r last.0 last.1)
    ∙ ap (λ (e : ℕ). joined (Ok e) (plan_of p.start (ops_of p ++ (ops_of q ++ ops_of r)))) (holds-the-end q r last.0 last.1))

-- ---- the empty list

abbrev OneOrThree : ℕ → Type 0
OneOrThree w = (w ≡ 1) ⊎ (w ≡ 3)

-- a list that starts at one or three channels ends so
step-ends : {o : Op} {w v : ℕ} → Step o w v → OneOrThree w → OneOrThree v
step-ends xyb h = h
step-ends matrix h = h
step-ends ootf h = h
step-ends tone_map h = h
step-ends gamut_map h = h
step-ends hlg h = h
step-ends from_luma h = inr refl
step-ends to_luma h = inl refl
step-ends tone_map_luma h = h
step-ends clip h = h
step-ends (curve other) h = h

ends : {w v : ℕ} {os : List Op} → Fits w os v → OneOrThree w → OneOrThree v
ends none h = h
ends (more s f) h = ends f (step-ends s h)

empty-lawful : (s : ℕ) → OneOrThree s → Lawful (plan_of s [])
empty-lawful s h = ((h, omega arith), plan-true s [])

module _ (p : Plan) (w : ℕ) (passes : paper (check_of p) ≡ answer 0 0 w) where
  -- the empty list that starts where a list does, before it: the list, as we return it
  pub empty-first : join_of (plan_of p.start []) p ≡ joined (Ok w) (plan_of p.start (ops_of p))
  empty-first =
      let l = (passes-exactly p w).0 passes in
      let n = l.0.0.1 in
      let j : Joinable (plan_of p.start []) p = (empty-lawful p.start l.0.0.0, l.0, omega arith) in
      ap (λ (v : Verdict). joined v (joined_by v (plan_of p.start []) p)) (is-given (plan_of p.start []) p (Ok w) (j, none, l.1))

  -- the empty list of its end width, behind it
  pub empty-second : join_of p (plan_of p.end []) ≡ joined (Ok w) (plan_of p.start (ops_of p))
  empty-second =
      let l = (passes-exactly p w).0 passes in
      let n = l.0.0.1 in
      let e : w ≡ p.end = ((passes-with-end p w).0 passes).2 in
      let f : Fits p.start (ops_of p) p.end = subst (Fits p.start (ops_of p)) e l.1 in
      let j : Joinable p (plan_of p.end []) = (l.0, empty-lawful p.end (ends f l.0.0.0), omega arith) in
      ap (λ (v : Verdict). joined v (joined_by v p (plan_of p.end []))) (is-given p (plan_of p.end []) (Ok p.end) (j, f, none))
      ∙ ap (λ (u : ℕ). joined (Ok u) (plan_of p.start (ops_of p ++ []))) (sym e)
      ∙ ap (λ (os : List Op). joined (Ok w) (plan_of p.start os)) (append-nil (ops_of p))
