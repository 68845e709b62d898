-- A list is malformed, or its ops fit, or one of them fails; and what the check says of each.
-- By the test of its start width and count, then by its ops.
use Prim.Native.Nat.{ℕ, ◌+◌}
use mathlib.Core.Path.{◌≡◌, refl, ap, sym, ◌∙◌}
use mathlib.Core.Bool.{Bool, true, false}
use mathlib.Core.Logic.{⊎_elim}
use native.Mathlib.Omega.{arith}
use Rattle.list.specs.Lists.{ops_of, Lawful, Unlawful, lawful}
use Rattle.list.specs.declared.Plan.{Plan}
use Rattle.list.proofs.Formed.{lawful-exactly, unlawful-exactly}
use Rattle.notation.specs.Answers.{answer}
use Rattle.notation.specs.declared.Answer.{Answer}
use Rattle.list.specs.Answer.{paper}
use Rattle.list.specs.Check.{check_of}
use Rattle.list.specs.Fits.{Fits, FailsAt}
use Rattle.list.proofs.Fitting.{fits-passes, fails_misfit, fits-or_fails}

module _ (p : Plan) where
  pub data Judged : Type 0 where
    malformed : Unlawful p → Judged
    passing : {v : ℕ} → Lawful p → Fits p.start (ops_of p) v → Judged
    failing : {i : ℕ} → Lawful p → FailsAt p.start (ops_of p) i → Judged

  pub judged : Judged
  judged = by (lawful p) refl
    where
      by : (b : Bool) → lawful p ≡ b → Judged
      by true e =
          let l = (lawful-exactly p).0 e in
          ⊎_elim (λ f. passing l f.1) (λ f. failing l f.1) (fits-or_fails p.start (ops_of p))
      by false e = malformed ((unlawful-exactly p).0 e)

  pub is-malformed : Unlawful p → paper (check_of p) ≡ answer 10 0 0
  is-malformed u = rw ((unlawful-exactly p).1 u)

  pub is-passing : {v : ℕ} → Lawful p → Fits p.start (ops_of p) v → paper (check_of p) ≡ answer 0 0 v
  is-passing l f = rw ((lawful-exactly p).1 l, fits-passes 0 f)

  pub is-failing : {i : ℕ} → Lawful p → FailsAt p.start (ops_of p) i → paper (check_of p) ≡ answer 5 i 0
  is-failing {i} l f =
      let e : 0 + i ≡ i = omega arith in
      rw ((lawful-exactly p).1 l, fails_misfit 0 f, e)

-- an answer has one number
pub apart : {a : Answer} {n i v m j w : ℕ} {A : Type 0} → a ≡ answer n i v → a ≡ answer m j w → ¬ (n ≡ m) → A
apart e f d = absurd (d (ap (λ (a : Answer). a.number) (sym e ∙ f)))
