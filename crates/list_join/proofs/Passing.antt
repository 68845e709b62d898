-- "A join not refused passes the check with the second list's end width", and its end width is true. (02, W12)
-- The ops of the first lead to the second's start width, and those of the second from there to its end width.
use Rattle.std.specs.Prelude.{Ok, Err}
use Prim.Native.Nat.{ℕ}
use mathlib.Core.Path.{◌≡◌, refl, ap, sym, subst, ◌∙◌}
use mathlib.Core.List.{List, ◌++◌}
use native.Mathlib.Omega.{arith}
use lib.ListN.{length, length-append}
use Rattle.notation.specs.Answers.{answer}
use Rattle.op.specs.declared.Op.{Op}
use Rattle.list.specs.Answer.{paper}
use Rattle.list.specs.Check.{check_of}
use Rattle.list.specs.Fits.{Fits, none, more}
use Rattle.list.specs.Lists.{ops_of, plan_of, appended, Formed, Lawful, True}
use Rattle.list.specs.declared.Plan.{Plan}
use Rattle.list.specs.Check.{Verdict}
use Rattle.list.specs.declared.CheckError.TheVariants.{Malformed, Misfit}
use Rattle.list.proofs.Building.{few, ops-of, plan-true}
use Rattle.list.proofs.EndWidth.{passes-with-end}
use Rattle.list.proofs.Formed.{formed-exactly, lawful-exactly}
use Rattle.list.proofs.Judging.{is-passing}
use Rattle.list_join.specs.Join.{joined_by, join_of, verdict_of}
use Rattle.list_join.specs.Refusals.{Joinable}
use Rattle.list_join.proofs.Answered.{is-given}
use Rattle.list_join.proofs.Exactly.{zero-exactly}

pub fits_on : {w v u : ℕ} {xs ys : List Op} → Fits w xs v → Fits v ys u → Fits w (xs ++ ys) u
fits_on none g = g
fits_on (more s f) g = more s (fits_on f g)

module _ (p q : Plan) where
  -- two lists that 10 does not refuse make one
  pub one_list : Joinable p q → Formed p.start (length (ops_of p ++ ops_of q))
  one_list j =
      let l = j.0 in
      let n = j.2 in
      let a = few p ((lawful-exactly p).1 l) in
      let b = few q ((lawful-exactly q).1 j.1) in
      (l.0.0, omega (arith, length-append (ops_of p) (ops_of q)))

  pub appends : Joinable p q → appended p (ops_of q) ≡ plan_of p.start (ops_of p ++ ops_of q)
  unfolding appended
  appends j = rw ((lawful-exactly p).1 j.0, (formed-exactly p.start (length (ops_of p ++ ops_of q))).1 (one_list j))

  module _ (w : ℕ) (passed : paper (join_of p q).answer ≡ answer 0 0 w) where
    pub is-joined : (join_of p q).plan ≡ plan_of p.start (ops_of p ++ ops_of q)
    is-joined = rw (is-given p q (Ok w) ((zero-exactly p q w).0 passed))

    pub ops-joined : ops_of (join_of p q).plan ≡ ops_of p ++ ops_of q
    ops-joined = ap ops_of is-joined ∙ ops-of p.start (ops_of p ++ ops_of q)

    -- the answer's width is the second list's end width
    pub ends-as-second : w ≡ q.end
    ends-as-second = let g = (zero-exactly p q w).0 passed in ((passes-with-end q w).0 (is-passing q g.0.1 g.2)).2

    -- the join passes the check with it
    pub join-passes : paper (check_of (join_of p q).plan) ≡ answer 0 0 q.end
    join-passes =
        let g = (zero-exactly p q w).0 passed in
        let r = plan_of p.start (ops_of p ++ ops_of q) in
        let l : Lawful r = (one_list g.0, plan-true p.start (ops_of p ++ ops_of q)) in
        let f : Fits r.start (ops_of r) w = subst (λ (os : List Op). Fits p.start os w) (sym (ops-of p.start (ops_of p ++ ops_of q))) (fits_on g.1 g.2) in
        ap (λ (j : Plan). paper (check_of j)) is-joined ∙ is-passing r l f ∙ ap (answer 0 0) ends-as-second

    -- and holds it
    pub holds-the-end : (join_of p q).plan.end ≡ q.end
    holds-the-end = sym ((passes-with-end (join_of p q).plan q.end).0 join-passes).2

  -- the end width of a join is true, refused or not
  pub join-true : True (join_of p q).plan
  join-true = by (verdict_of p q)
    where
      by : (v : Verdict) → True (joined_by v p q)
      by (Ok w) = plan-true p.start (ops_of p ++ ops_of q)
      by (Err Malformed) = refl
      by (Err (Misfit i)) = refl
