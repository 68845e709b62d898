-- "Merging the joined list gives the same ops whether or not the first list was merged before", where "the unmerged lists together have at most 32 ops". (02, W12)
-- A merged list leads where the list led, and is no longer; that its ops then merge to the same ones is merging's own law.
use Rattle.std.specs.Prelude.{Ok, Err}
use Prim.Native.Nat.{ℕ, ◌+◌, ◌≤◌}
use mathlib.Core.Path.{◌≡◌, refl, ap, sym, subst, ◌∙◌}
use mathlib.Core.List.{List, ◌++◌}
use mathlib.Core.Logic.{⊎_elim, inl, inr}
use native.Mathlib.Omega.{arith}
use lib.ListN.{length}
use Rattle.notation.specs.Answers.{Alike}
use Rattle.op.specs.declared.Op.{Op}
use Rattle.list.specs.Answer.{paper}
use Rattle.list.specs.Fits.{Fits}
use Rattle.list.specs.Lists.{ops_of, plan_of, no_list, Formed, Unlawful}
use Rattle.list.specs.declared.Plan.{Plan}
use Rattle.list.specs.Check.{Verdict}
use Rattle.list.specs.declared.CheckError.TheVariants.{Malformed, Misfit}
use Rattle.list.proofs.Building.{ops-of, plan-true}
use Rattle.list.proofs.Formed.{lawful-exactly, unlawful-exactly, never_both}
use Rattle.list_merge.specs.Merge.{merge_ops, merge_of}
use Rattle.list_merge.specs.declared.Merged.{Merged}
use Rattle.list_merge.specs.declared.MergeError.TheVariants as M
use Rattle.list_merge.proofs.Fitting.{fits-merged}
use Rattle.list_merge.proofs.Front.{short, still_lawful}
use Rattle.list_merge.proofs.Settled.{first_part}
use Rattle.list_join.specs.Join.{joined_by, join_of, verdict_of}
use Rattle.list_join.specs.Refusals.{Unjoinable, Joinable, Given}
use Rattle.list_join.proofs.Answered.{is-given, some_words}
use Rattle.list_join.proofs.Passing.{one_list}

abbrev done : ℕ → List Op → Merged
done s os = record { answer = (Ok tt); plan = plan_of s os }

-- merging the list of some ops
merge_of_lem : (s : ℕ) (os : List Op) → Formed s (length os) → merge_of (plan_of s os) ≡ done s (merge_ops os)
merge_of_lem s os f = rw ((lawful-exactly (plan_of s os)).1 (f, plan-true s os), ops-of s os)

no_list_lem : Unlawful no_list
no_list_lem = inl (inl (⊎_elim (λ e. omega arith) (λ e. omega arith)))

never : (m q : Plan) → Joinable m q → ¬ Unjoinable m q
never m q j =
    let h = j.2 in
    ⊎_elim (never_both m j.0) (⊎_elim (never_both q j.1) (λ n. omega arith))

-- the join with m for the first list answers as the join of p, but for the position, and merges to the same list
abbrev Alike-with : Plan → Plan → Plan → Type 0
Alike-with p q m =
    (merge_of (join_of m q).plan ≡ merge_of (join_of p q).plan) × Alike (paper (join_of m q).answer) (paper (join_of p q).answer)

module _ (p q : Plan) where
  by-verdicts : (m : Plan) (a b : Verdict) → verdict_of m q ≡ a → verdict_of p q ≡ b → merge_of (joined_by a m q) ≡ merge_of (joined_by b p q) → Alike (paper a) (paper b) → Alike-with p q m
  by-verdicts m a b e f h k = rw (e, f) (h, k)

  -- a first list that 10 refuses is merged to none
  first-unlawful : Unlawful p → Alike-with p q (merge_of p).plan
  first-unlawful u =
      let merged : (merge_of p).plan ≡ no_list = rw ((unlawful-exactly p).1 u) in
      subst (Alike-with p q) (sym merged) (by-verdicts no_list (Err Malformed) (Err Malformed) (is-given no_list q (Err Malformed) (inl no_list_lem)) (is-given p q (Err Malformed) (inl u)) refl (refl, refl))

  second-unlawful : Unlawful q → Alike-with p q (merge_of p).plan
  second-unlawful u =
      by-verdicts (merge_of p).plan (Err Malformed) (Err Malformed) (is-given (merge_of p).plan q (Err Malformed) (inr (inl u))) (is-given p q (Err Malformed) (inr (inl u))) refl (refl, refl)

  -- two lists that 10 does not refuse
  module _ (j : Joinable p q) where
    abbrev m : Plan
    m = plan_of p.start (merge_ops (ops_of p))

    merged : (merge_of p).plan ≡ m
    merged = rw ((lawful-exactly p).1 j.0)

    still-joinable : Joinable m q
    still-joinable = let h = j.2 in (still_lawful p j.0, j.1, omega (arith, short p))

    there : {v : ℕ} → Fits p.start (ops_of p) v → Fits m.start (ops_of m) v
    there f = rw (ops-of p.start (merge_ops (ops_of p))) ((fits-merged (ops_of p)).0 f)

    back : {v : ℕ} → Fits m.start (ops_of m) v → Fits p.start (ops_of p) v
    back f = (fits-merged (ops_of p)).1 (rw (ops-of p.start (merge_ops (ops_of p))) at f)

    -- both joins pass
    same-merged : merge_of (plan_of m.start (ops_of m ++ ops_of q)) ≡ merge_of (plan_of p.start (ops_of p ++ ops_of q))
    same-merged =
        merge_of_lem p.start (ops_of m ++ ops_of q) (one_list m q still-joinable)
        ∙ ap (λ (os : List Op). done p.start (merge_ops (os ++ ops_of q))) (ops-of p.start (merge_ops (ops_of p)))
        ∙ ap (done p.start) (first_part (ops_of p) (ops_of q))
        ∙ sym (merge_of_lem p.start (ops_of p ++ ops_of q) (one_list p q j))

    both-pass : (w : ℕ) → Given p q (Ok w) → Alike-with p q m
    both-pass w g =
        by-verdicts m (Ok w) (Ok w) (is-given m q (Ok w) (still-joinable, there g.1, g.2)) (is-given p q (Ok w) g) same-merged (refl, refl)

    -- the join fails, and so does that of the merged list
    both-fail : (k : ℕ) → Given p q (Err (Misfit k)) → (v : Verdict) → Given m q v → Alike-with p q m
    both-fail k g (Err Malformed) u = absurd (never m q still-joinable u)
    both-fail k g (Err (Misfit i)) h = by-verdicts m (Err (Misfit i)) (Err (Misfit k)) (is-given m q (Err (Misfit i)) h) (is-given p q (Err (Misfit k)) g) refl (refl, refl)
    both-fail k g (Ok w) h =
        let e = sym (is-given p q (Err (Misfit k)) g) ∙ is-given p q (Ok w) (j, back h.1, h.2) in
        let z : ◌≡◌ {A = ℕ} 5 0 = ap (λ (v : Verdict). (paper v).number) e in
        absurd (omega arith)

  alike : p.count + q.count ≤ 32 → (v : Verdict) → Given p q v → Alike-with p q (merge_of p).plan
  alike room (Err Malformed) u = ⊎_elim first-unlawful (⊎_elim second-unlawful (λ n. absurd (omega arith))) u
  alike room (Err (Misfit k)) g = let j = g.0 in subst (Alike-with p q) (sym (merged j)) (both-fail j k g (some_words (m j) q).0 (some_words (m j) q).1)
  alike room (Ok w) g = let j = g.0 in subst (Alike-with p q) (sym (merged j)) (both-pass j w g)

  -- merging the join gives the same list whether or not the first list was merged before, refused or not
  pub merged-before : p.count + q.count ≤ 32 → merge_of (join_of (merge_of p).plan q).plan ≡ merge_of (join_of p q).plan
  merged-before room = (alike room (some_words p q).0 (some_words p q).1).0

  -- and joining is answered the same, but for the position
  pub answered-alike : p.count + q.count ≤ 32 → Alike (paper (join_of (merge_of p).plan q).answer) (paper (join_of p q).answer)
  answered-alike room = (alike room (some_words p q).0 (some_words p q).1).1
