-- What each verdict says of the two lists, in words: one of these holds of every two lists, and is then the one that is given.
-- By the test for 10, by the check's cases of the first list, by whether the widths meet, and by those of the second.
use Rattle.std.specs.Prelude.{Ok, Err}
use Prim.Native.Nat.{ℕ, ◌+◌}
use mathlib.Core.Path.{◌≡◌, refl, subst, ◌∙◌}
use mathlib.Core.Bool.{Bool, true, false}
use mathlib.Core.Logic.{◌↔◌, ◌⊎◌, ⊎_elim}
use native.Mathlib.Omega.{arith}
use lib.Dec.{eqb}
use borrow.Author.Tests.{eqb-true, eqb-false, eq-eqb, ne_eqb, leb-true, leb-false, le-leb, lt-leb}
use Rattle.notation.specs.Choice.{when◌then◌else◌}
use Rattle.notation.specs.declared.Answer.{Answer}
use Rattle.notation.proofs.Tests.{both-exactly, one-fails}
use Rattle.list.specs.Answer.{paper}
use Rattle.list.specs.Check.{check_of}
use Rattle.list.specs.Fits.{Fits, FailsAt}
use Rattle.list.specs.Lists.{ops_of, Lawful}
use Rattle.list.specs.declared.Plan.{Plan}
use Rattle.list.specs.Check.{Verdict}
use Rattle.list.specs.declared.CheckError.TheVariants.{Malformed, Misfit}
use Rattle.list.proofs.Fitting.{fits-passes, fails_misfit, fits-or_fails}
use Rattle.list.proofs.Formed.{lawful-exactly, unlawful-exactly}
use Rattle.list_join.specs.Join.{after_first, joinable, verdict_of}
use Rattle.list_join.specs.Refusals.{Unjoinable, Joinable, Breaks, first_fails, widths_differ, second_fails, Given}

-- what the check says of a list whose ops fit, and of one that fails
module _ (p : Plan) (l : Lawful p) where
  check-passes : {v : ℕ} → Fits p.start (ops_of p) v → check_of p ≡ Ok v
  check-passes f = rw ((lawful-exactly p).1 l, fits-passes 0 f)

  check-fails : {i : ℕ} → FailsAt p.start (ops_of p) i → check_of p ≡ Err (Misfit i)
  check-fails {i} f =
      let e : 0 + i ≡ i = omega arith in
      rw ((lawful-exactly p).1 l, fails_misfit 0 f, e)

module _ (p q : Plan) where
  pub joinable-exactly : (joinable p q ≡ true) ↔ Joinable p q
  joinable-exactly =
      let e = both-exactly (lawful-exactly p) (both-exactly (lawful-exactly q) (leb-true (p.count + q.count) 32, le-leb (p.count + q.count) 32)) in
      (λ b. let h = e.0 b in (h.0, h.1.0, h.1.1), λ j. e.1 (j.0, (j.1, j.2)))

  unjoinable-exactly : (joinable p q ≡ false) ↔ Unjoinable p q
  unjoinable-exactly =
      one-fails (unlawful-exactly p) (one-fails (unlawful-exactly q) (leb-false (p.count + q.count) 32, lt-leb (p.count + q.count) 32))

  after : Joinable p q → {v : Verdict} → check_of p ≡ v → verdict_of p q ≡ after_first v p q
  after j e = rw (joinable-exactly.1 j, e)

  breaks : {k : ℕ} → Joinable p q → Breaks p q k → verdict_of p q ≡ Err (Misfit k)
  breaks j (first_fails f) = after j (check-fails p j.0 f)
  breaks j (widths_differ {w} f n) = after j (check-passes p j.0 f) ∙ rw (ne_eqb w q.start n)
  breaks j (second_fails f g) =
      after j (check-passes p j.0 f) ∙ rw (eq-eqb q.start q.start refl, check-fails q j.1 g)

  pub is-given : (v : Verdict) → Given p q v → verdict_of p q ≡ v
  is-given (Err Malformed) u = rw (unjoinable-exactly.1 u)
  is-given (Err (Misfit k)) g = breaks g.0 g.1
  is-given (Ok w) g =
      let j = g.0 in
      after j (check-passes p j.0 g.1) ∙ rw (eq-eqb q.start q.start refl, check-passes q j.1 g.2)

  pub some_words : (v : Verdict) × Given p q v
  some_words = by (joinable p q) refl
    where
      second : Joinable p q → Fits p.start (ops_of p) q.start → ((w : ℕ) × Fits q.start (ops_of q) w) ⊎ ((i : ℕ) × FailsAt q.start (ops_of q) i)
          → (v : Verdict) × Given p q v
      second j f = ⊎_elim (λ g. (Ok g.0, (j, f, g.1))) (λ g. (Err (Misfit (p.count + g.0)), (j, second_fails f g.1)))

      meet : Joinable p q → {w : ℕ} → Fits p.start (ops_of p) w → (b : Bool) → eqb w q.start ≡ b → (v : Verdict) × Given p q v
      meet j {w} f true e = second j (subst (Fits p.start (ops_of p)) (eqb-true w q.start e) f) (fits-or_fails q.start (ops_of q))
      meet j {w} f false e = (Err (Misfit p.count), (j, widths_differ f (eqb-false w q.start e)))

      first : Joinable p q → ((w : ℕ) × Fits p.start (ops_of p) w) ⊎ ((i : ℕ) × FailsAt p.start (ops_of p) i) → (v : Verdict) × Given p q v
      first j = ⊎_elim (λ f. meet j f.1 (eqb f.0 q.start) refl) (λ f. (Err (Misfit f.0), (j, first_fails f.1)))

      by : (b : Bool) → joinable p q ≡ b → (v : Verdict) × Given p q v
      by true e = first (joinable-exactly.0 e) (fits-or_fails p.start (ops_of p))
      by false e = (Err Malformed, unjoinable-exactly.0 e)

-- a verdict is read back from 01's answer for it
abbrev pub back : Answer → Verdict
back a =
    when eqb a.number 10 then Err Malformed
    else when eqb a.number 5 then Err (Misfit a.position)
    else Ok a.width

pub reads-back : (v : Verdict) → back (paper v) ≡ v
reads-back (Ok w) = refl
reads-back (Err Malformed) = refl
reads-back (Err (Misfit i)) = refl
