-- The check passes with width w exactly where the start width and the count are those of a list, its end width is true, and w, not 0, is that end width.
-- Ops that fit lead to a width of 1 to 3, and ops of which one fails to 0.
use Prim.Native.Nat.{ℕ}
use mathlib.Core.Path.{◌≡◌, ap, sym, ◌∙◌}
use mathlib.Core.Logic.{◌⊎◌, ◌↔◌, ⊎_elim}
use native.Mathlib.Omega.{arith}
use Rattle.notation.specs.Answers.{answer}
use Rattle.list.specs.Answer.{paper}
use Rattle.list.specs.Check.{check_of}
use Rattle.list.specs.Ends.{end_from}
use Rattle.list.specs.Fits.{Fits, FailsAt}
use Rattle.list.specs.Lists.{ops_of, Formed, True, Lawful}
use Rattle.list.specs.declared.Plan.{Plan}
use Rattle.list.specs.Check.{Verdict}
use Rattle.list.proofs.Bounds.{end-within}
use Rattle.list.proofs.Ending.{told-from}
use Rattle.list.proofs.Exactly.{passes-exactly}
use Rattle.list.proofs.Fitting.{fits-passes, fails_misfit, fits-or_fails}
use Rattle.list.proofs.Formed.{formed-exactly}
use Rattle.list.proofs.Judging.{is-passing}

module _ (p : Plan) where
  -- the end width of a list that 10 does not refuse
  is-end : Lawful p → p.end ≡ end_from p.start (ops_of p)
  is-end l = l.1 ∙ rw ((formed-exactly p.start p.count).1 l.0)

  fits-ends : {v : ℕ} → Fits p.start (ops_of p) v → end_from p.start (ops_of p) ≡ v
  fits-ends f = sym (told-from (ops_of p) p.start 0) ∙ ap (λ (v : Verdict). (paper v).width) (fits-passes 0 f)

  fails-ends : {i : ℕ} → FailsAt p.start (ops_of p) i → end_from p.start (ops_of p) ≡ 0
  fails-ends f = sym (told-from (ops_of p) p.start 0) ∙ ap (λ (v : Verdict). (paper v).width) (fails_misfit 0 f)

  pub passes-with-end : (w : ℕ) → (paper (check_of p) ≡ answer 0 0 w) ↔ (Formed p.start p.count × True p × (w ≡ p.end) × (¬ (w ≡ 0)))
  passes-with-end w = (there, λ h. back (h.0, h.1) h.2 h.3 (fits-or_fails p.start (ops_of p)))
    where
      there : paper (check_of p) ≡ answer 0 0 w → Formed p.start p.count × True p × (w ≡ p.end) × (¬ (w ≡ 0))
      there e =
          let h = (passes-exactly p w).0 e in
          let k = end-within p h.0 h.1 in
          (h.0.0, h.0.1, sym (is-end h.0 ∙ fits-ends h.1), λ z. omega arith)

      back : Lawful p → w ≡ p.end → ¬ (w ≡ 0) → ((v : ℕ) × Fits p.start (ops_of p) v) ⊎ ((i : ℕ) × FailsAt p.start (ops_of p) i)
          → paper (check_of p) ≡ answer 0 0 w
      back l e n = ⊎_elim
          (λ f. is-passing p l f.1 ∙ ap (answer 0 0) (sym (e ∙ is-end l ∙ fits-ends f.1)))
          (λ f. absurd (n (e ∙ is-end l ∙ fails-ends f.1)))
