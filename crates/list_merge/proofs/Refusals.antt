-- Merging refuses by 10 exactly the lists that 10 names, with the empty list of width 0, and answers the others by 0.
-- The test of the list decides.
use mathlib.Core.Path.{◌≡◌, refl, ap, sym, ◌∙◌}
use mathlib.Core.Bool.{Bool, true, false}
use mathlib.Core.Logic.{◌↔◌}
use native.Mathlib.Omega.{arith}
use Prim.Native.Nat.{ℕ}
use Rattle.notation.specs.Choice.{when◌then◌else◌}
use Rattle.notation.specs.Answers.{answer}
use Rattle.notation.specs.declared.Answer.{Answer}
use Rattle.list.specs.Lists.{no_list, lawful, Lawful, Unlawful}
use Rattle.list.specs.declared.Plan.{Plan}
use Rattle.list.proofs.Formed.{lawful-exactly, unlawful-exactly}
use Rattle.list_merge.specs.Merge.{paper, merge_of}

module _ (p : Plan) where
  answered : (b : Bool) → lawful p ≡ b → paper (merge_of p).answer ≡ (when b then answer 0 0 0 else answer 10 0 0)
  answered true e = rw e
  answered false e = rw e

  ten-or-zero : (b : Bool) → answer 10 0 0 ≡ (when b then answer 0 0 0 else answer 10 0 0) → b ≡ false
  ten-or-zero true e = let z : ◌≡◌ {A = ℕ} 10 0 = ap (λ (a : Answer). a.number) e in absurd (omega arith)
  ten-or-zero false e = refl

  zero-or-ten : (b : Bool) → answer 0 0 0 ≡ (when b then answer 0 0 0 else answer 10 0 0) → b ≡ true
  zero-or-ten true e = refl
  zero-or-ten false e = let z : ◌≡◌ {A = ℕ} 0 10 = ap (λ (a : Answer). a.number) e in absurd (omega arith)

  pub ten-exactly : (paper (merge_of p).answer ≡ answer 10 0 0) ↔ Unlawful p
  ten-exactly = (λ e. (unlawful-exactly p).0 (ten-or-zero (lawful p) (sym e ∙ answered (lawful p) refl)), λ u. answered false ((unlawful-exactly p).1 u))

  pub zero-exactly : (paper (merge_of p).answer ≡ answer 0 0 0) ↔ Lawful p
  zero-exactly = (λ e. (lawful-exactly p).0 (zero-or-ten (lawful p) (sym e ∙ answered (lawful p) refl)), λ l. answered true ((lawful-exactly p).1 l))

  pub refused-empty : ¬ (paper (merge_of p).answer ≡ answer 0 0 0) → (merge_of p).plan ≡ no_list
  refused-empty n = by (lawful p) refl
    where
      by : (b : Bool) → lawful p ≡ b → (merge_of p).plan ≡ no_list
      by true e = absurd (n (answered true e))
      by false e = rw e
