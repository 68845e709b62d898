-- When a list passes the width check, when it is refused, by which number, and with which width and position.
-- Every list is malformed, fits or fails (Judging), and the check answers each of the three in its own way.
use Prim.Native.Nat.{ℕ}
use mathlib.Core.Path.{◌≡◌, ap, sym, subst, ◌∙◌}
use mathlib.Core.Logic.{◌↔◌}
use native.Mathlib.Omega.{arith}
use Rattle.list.specs.Lists.{ops_of, Lawful, Unlawful}
use Rattle.list.specs.declared.Plan.{Plan}
use Rattle.list.proofs.Formed.{never_both}
use Rattle.notation.specs.Answers.{answer}
use Rattle.notation.specs.declared.Answer.{Answer}
use Rattle.list.specs.Answer.{paper}
use Rattle.list.specs.Check.{check_of}
use Rattle.list.specs.Fits.{Fits, FailsAt}
use Rattle.list.proofs.Judging.{Judged, malformed, passing, failing, judged, is-malformed, is-passing, is-failing, apart}

module _ (p : Plan) where
  -- "A list with start width 1 or 3 and at most 32 ops passes the width check exactly when no op, at its turn,
  -- needs a width other than the one it finds." (demand 3)
  pub passes-where-no-op-fails : Lawful p → ((v : ℕ) × (paper (check_of p) ≡ answer 0 0 v)) ↔ ((i : ℕ) → ¬ FailsAt p.start (ops_of p) i)
  passes-where-no-op-fails l = (λ e i f. apart e.1 (is-failing p l f) (omega arith), back (judged p))
    where
      back : Judged p → ((i : ℕ) → ¬ FailsAt p.start (ops_of p) i) → (v : ℕ) × (paper (check_of p) ≡ answer 0 0 v)
      back (malformed u) n = absurd (never_both p l u)
      back (passing {v} l f) n = (v, is-passing p l f)
      back (failing {i} l f) n = absurd (n i f)

  -- 10 exactly when the start width is not 1 or 3, or the count is above 32
  pub ten-exactly : (paper (check_of p) ≡ answer 10 0 0) ↔ Unlawful p
  ten-exactly = (back (judged p), is-malformed p)
    where
      back : Judged p → paper (check_of p) ≡ answer 10 0 0 → Unlawful p
      back (malformed u) e = u
      back (passing l f) e = apart e (is-passing p l f) (omega arith)
      back (failing l f) e = apart e (is-failing p l f) (omega arith)

  -- 0, with width v, exactly when the start width is 1 or 3, the count is at most 32,
  -- and the rows of the table lead from the start width through all the ops to v
  pub passes-exactly : (v : ℕ) → (paper (check_of p) ≡ answer 0 0 v) ↔ (Lawful p × Fits p.start (ops_of p) v)
  passes-exactly v = (back (judged p), λ h. is-passing p h.0 h.1)
    where
      back : Judged p → paper (check_of p) ≡ answer 0 0 v → Lawful p × Fits p.start (ops_of p) v
      back (malformed u) e = apart e (is-malformed p u) (omega arith)
      back (passing l f) e = (l, subst (Fits p.start (ops_of p)) (ap (λ (a : Answer). a.width) (sym (is-passing p l f) ∙ e)) f)
      back (failing l f) e = apart e (is-failing p l f) (omega arith)

  -- 5, at position i, exactly when the start width is 1 or 3, the count is at most 32, the ops before position i fit,
  -- and the op at i needs a width other than the one that it finds
  pub five-exactly : (i : ℕ) → (paper (check_of p) ≡ answer 5 i 0) ↔ (Lawful p × FailsAt p.start (ops_of p) i)
  five-exactly i = (back (judged p), λ h. is-failing p h.0 h.1)
    where
      back : Judged p → paper (check_of p) ≡ answer 5 i 0 → Lawful p × FailsAt p.start (ops_of p) i
      back (malformed u) e = apart e (is-malformed p u) (omega arith)
      back (passing l f) e = apart e (is-passing p l f) (omega arith)
      back (failing l f) e = (l, subst (FailsAt p.start (ops_of p)) (ap (λ (a : Answer). a.position) (sym (is-failing p l f) ∙ e)) f)
