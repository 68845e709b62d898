-- A refused call: no sample is changed, and width 0 and no bad sample are told; a block that the reader refuses is answered by its number.
-- The list of a refused block is the empty one with width 0, which a run refuses; a refused run changes nothing and counts nothing.
use Rattle.std.specs.Prelude.{Ok, Err}
use Prim.Native.Nat.{ℕ}
use mathlib.Core.Path.{◌≡◌, refl, ap}
use mathlib.Core.List.{List, [], ◌∷◌}
use native.Mathlib.Omega.{arith}
use Rattle.notation.specs.declared.Answer.{Answer}
use Rattle.channels.specs.Channels.{Channels}
use Rattle.list.specs.Lists.{no_list}
use Rattle.list.specs.declared.Plan.{Plan}
use Rattle.block_read.specs.Block as Block
use Rattle.block_read.specs.Block.{read_of}
use Rattle.block_read.specs.declared.Block as Read
use Rattle.block_read.specs.Block.{Reading}
use Rattle.block_read.specs.declared.ReadError.TheVariants as R
use Rattle.block_read.proofs.Exactly.{refused-gives-nothing}
use Rattle.run.specs.Refusals as Run
use Rattle.run.specs.Refusals.{outcome_of}
use Rattle.run.specs.Report.{bad_after}
use Rattle.run.specs.Run.{ran_of}
use Rattle.run.specs.Refusals.{Outcome}
use Rattle.run.specs.declared.RunError.TheVariants.{Malformed, Unequal, Misfit, NotCarried}
use Rattle.run.proofs.Reaches as Reaches
use Rattle.c_run.specs.BlockRun.{answer_by, answer_of, left_of, told_of}

-- of any reading and outcome: what is refused has width 0, and a refused run counts nothing
no_width : (a : Reading) (o : Outcome) → ¬ ((answer_by a o).number ≡ 0) → (answer_by a o).width ≡ 0
no_width (Ok tt) (Ok w) n = absurd (n refl)
no_width (Ok tt) (Err Malformed) n = refl
no_width (Ok tt) (Err Unequal) n = refl
no_width (Ok tt) (Err (Misfit i)) n = refl
no_width (Ok tt) (Err (NotCarried i)) n = refl
no_width (Err R.Short) o n = refl
no_width (Err R.WrongMark) o n = refl
no_width (Err R.BadOp) o n = refl
no_width (Err R.Malformed) o n = refl

none_bad : (o : Outcome) (left : Channels) → ¬ ((Run.paper o).number ≡ 0) → bad_after o left ≡ 0
none_bad (Ok w) left n = absurd (n refl)
none_bad (Err e) left n = refl

-- where a refused block's list is refused too, the run is refused whoever refuses the call
the_run_too : (a : Reading) (o : Outcome) → (¬ ((Block.paper a).number ≡ 0) → o ≡ Err Malformed) → ¬ ((answer_by a o).number ≡ 0) → ¬ ((Run.paper o).number ≡ 0)
the_run_too (Ok tt) o f n = n
the_run_too (Err R.Short) o f n = rw (f (λ e. omega arith)) (λ e. omega arith)
the_run_too (Err R.WrongMark) o f n = rw (f (λ e. omega arith)) (λ e. omega arith)
the_run_too (Err R.BadOp) o f n = rw (f (λ e. omega arith)) (λ e. omega arith)
the_run_too (Err R.Malformed) o f n = rw (f (λ e. omega arith)) (λ e. omega arith)

module _ (bytes : List ℕ) (s : Channels) where
  -- a block that the reader refuses is answered by the reader; its list is the empty one with width 0, which a run refuses by 10
  module _ (refused : ¬ ((Block.paper (read_of bytes).answer).number ≡ 0)) where
    pub by-the-reader : answer_of bytes s ≡ Block.paper (read_of bytes).answer
    by-the-reader = by (read_of bytes).answer refused
      where
        by : (a : Reading) → ¬ ((Block.paper a).number ≡ 0) → answer_by a (outcome_of (read_of bytes).plan s) ≡ Block.paper a
        by (Ok tt) n = absurd (n refl)
        by (Err R.Short) n = refl
        by (Err R.WrongMark) n = refl
        by (Err R.BadOp) n = refl
        by (Err R.Malformed) n = refl

    pub empty-list : (read_of bytes).plan ≡ no_list
    empty-list = ap (λ (b : Read.Block). b.plan) (refused-gives-nothing bytes (λ e. refused (ap (λ (a : Answer). a.number) e)))

    pub unlawful : outcome_of (read_of bytes).plan s ≡ Err Malformed
    unlawful = ap (λ (p : Plan). outcome_of p s) empty-list

  -- whoever refuses
  module _ (refused : ¬ ((answer_of bytes s).number ≡ 0)) where
    run-refused : ¬ ((Run.paper (outcome_of (read_of bytes).plan s)).number ≡ 0)
    run-refused = the_run_too (read_of bytes).answer (outcome_of (read_of bytes).plan s) unlawful refused

    pub refused-changes_nothing : left_of bytes s ≡ s
    refused-changes_nothing = Reaches.refused-changes_nothing (read_of bytes).plan s run-refused

    pub refused-tells-nothing : told_of bytes s ≡ (answer_of bytes s).number ∷ (answer_of bytes s).position ∷ 0 ∷ 0 ∷ []
    refused-tells-nothing =
        rw (
          no_width (read_of bytes).answer (outcome_of (read_of bytes).plan s) refused,
          none_bad (outcome_of (read_of bytes).plan s) (ran_of (read_of bytes).plan s) run-refused,
        )
