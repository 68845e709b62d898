-- `narrow` makes each byte by the index rule where the lengths fit, and changes nothing where they do not.
-- The test of the lengths decides; an odd last byte comes last.
use Prim.Native.Nat.{ℕ, ◌+◌, ◌/◌, ◌<◌}
use mathlib.Core.Path.{◌≡◌, sym, ◌∙◌}
use mathlib.Core.Bool.{true}
use mathlib.Core.List.{List}
use native.Mathlib.Omega.{arith}
use lib.ListN.{get_or, length, length-set}
use Rattle.std.proofs.lemmas.Grind.{common_steps}
use Rattle.chroma_half.specs.Fitting.{narrowed_into}
use Rattle.chroma_half.specs.Narrowing.{narrowed_at}
use Rattle.chroma_half.specs.Twice.{fits_twice}
use Rattle.chroma_half.proofs.Lines.{line_is}
use Rattle.chroma_half.proofs.Twice.{halves_exactly}
use Rattle.chroma_half.proofs.narrow.Goals as goal

made : (z o s : List ℕ) → fits_twice (length o) (length z) ≡ true → length s ≡ length o → ((i : ℕ) → i < (length z + 1) / 2 → get_or s i 0 ≡ narrowed_at z i) → s ≡ narrowed_into z o
made z o s e l at = rw e (line_is _ (narrowed_at z) s (l ∙ (halves_exactly (length o) (length z)).0 e) at)

pub returns-then-pairs-out-clause-out_after : goal.returns-then-pairs-out-clause-out_after
returns-then-pairs-out-clause-out_after c =
    made _ _ _ (sym c.fits_twice.ensures ∙ c.if-not-fits_twice.false) (length-set _ _ _ ∙ c.loop-i.auto.out) (λ i h. grind (arith, common_steps, c.loop-i.invariant i))

pub returns-else-pairs-out-clause-out_after : goal.returns-else-pairs-out-clause-out_after
returns-else-pairs-out-clause-out_after c =
    let e = sym c.fits_twice.ensures ∙ c.if-not-fits_twice.false in
    let f = (halves_exactly (length c.args.out.now) (length c.args.c.now)).0 e in
    made _ _ _ e c.loop-i.auto.out (λ i h. c.loop-i.invariant i (omega arith))
