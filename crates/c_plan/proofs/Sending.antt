-- What is told and left where a list was sent, and where it was not.
-- By the two tests: whether something was refused before, and whether the writer refuses.
use Rattle.std.specs.Prelude.{Ok, Err}
use Prim.Native.Nat.{ℕ}
use mathlib.Core.Path.{◌≡◌, refl, ap, sym, ◌∙◌}
use mathlib.Core.Bool.{Bool, true, false}
use mathlib.Core.List.{List}
use native.Mathlib.Omega.{arith}
use borrow.Author.Tests.{eqb-true, eqb-false}
use lib.Dec.{eqb}
use lib.ListN.{length}
use Rattle.notation.specs.Answers.{answer}
use Rattle.notation.specs.declared.Answer.{Answer}
use Rattle.list.specs.declared.Plan.{Plan}
use Rattle.block_write.specs.Writing.{paper, length_of, writing_of, left_of}
use Rattle.block_write.specs.Writing.{Writing}
use Rattle.block_write.specs.declared.WriteError.TheVariants.{Malformed, WrongVersion, BadField, Retired, NoRoom}
use Rattle.block_write.proofs.Exactly.{refused-untouched}
use Rattle.c_plan.specs.Sent.{sent_after, left_after}

-- the writer's number says all that it answers
zero-whole : (w : Writing) → (paper w).number ≡ 0 → paper w ≡ answer 0 0 0
zero-whole (Ok n) e = refl
zero-whole (Err Malformed) e = absurd (omega arith)
zero-whole (Err WrongVersion) e = absurd (omega arith)
zero-whole (Err BadField) e = absurd (omega arith)
zero-whole (Err Retired) e = absurd (omega arith)
zero-whole (Err NoRoom) e = absurd (omega arith)

module _ (number : ℕ) (p : Plan) (v : ℕ) (old : List ℕ) where
  abbrev w : Writing
  w = writing_of p v (length old)

  pub untouched : ¬ ((sent_after number p v (length old)).number ≡ 0) → ((sent_after number p v (length old)).length ≡ 0) × (left_after number p v old ≡ old)
  untouched n = by (eqb number 0) (eqb (paper w).number 0) refl refl
    where
      by : (a b : Bool) → eqb number 0 ≡ a → eqb (paper w).number 0 ≡ b → ((sent_after number p v (length old)).length ≡ 0) × (left_after number p v old ≡ old)
      by false b e f = (rw e, rw e)
      by true true e f = absurd (n (rw (e, f)))
      by true false e f = (rw (e, f), rw e (refused-untouched p v old (λ k. eqb-false (paper w).number 0 f (ap (λ (a : Answer). a.number) k))).1)

  pub sent-whole : (sent_after number p v (length old)).number ≡ 0
      → (paper w ≡ answer 0 0 0) × ((sent_after number p v (length old)).length ≡ length_of w) × (left_after number p v old ≡ left_of p v old)
  sent-whole n = by (eqb number 0) (eqb (paper w).number 0) refl refl
    where
      by : (a b : Bool) → eqb number 0 ≡ a → eqb (paper w).number 0 ≡ b
          → (paper w ≡ answer 0 0 0) × ((sent_after number p v (length old)).length ≡ length_of w) × (left_after number p v old ≡ left_of p v old)
      by false b e f = let k : number ≡ 0 = sym (rw e) ∙ n in absurd (eqb-false number 0 e k)
      by true true e f = (zero-whole w (eqb-true (paper w).number 0 f), rw (e, f), rw e)
      by true false e f = let k : (paper w).number ≡ 0 = sym (rw (e, f)) ∙ n in absurd (eqb-false (paper w).number 0 f k)
