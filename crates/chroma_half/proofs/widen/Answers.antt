-- `widen` makes each byte by the index rule where the lengths fit, and changes nothing where they do not.
-- The test of the lengths decides; what is made last are the two ends.
use Prim.Native.Nat.{ℕ, ◌+◌, ◌-◌, ◌/◌, ◌<◌}
use mathlib.Core.Path.{◌≡◌, ap, sym, ◌∙◌}
use mathlib.Core.List.{List}
use native.Mathlib.Omega.{arith}
use lib.ListN.{get_or, length, set, length-set}
use Rattle.std.proofs.lemmas.Grind.{common_steps}
use Rattle.chroma_half.specs.Widening.{widened_at}
use Rattle.chroma_half.proofs.Lines.{line_is}
use Rattle.chroma_half.proofs.Rules.{output_is}
use Rattle.chroma_half.proofs.Twice.{halves_exactly}
use Rattle.chroma_half.proofs.widen.Goals as goal

-- the places between the ends, and then the ends
ended : (at : ℕ → ℕ) (s : List ℕ) (first last : ℕ) → 0 < length s → first ≡ at 0 → last ≡ at (length s - 1) → ((k : ℕ) → 0 < k → k < length s - 1 → get_or s k 0 ≡ at k) →
    (k : ℕ) → k < length s → get_or (set (set s 0 first) (length s - 1) last) k 0 ≡ at k
ended at s first last some is-first is-last between k h = grind (arith, common_steps, between k)

pub returns-then-m-gt0-clause-out_after : goal.returns-then-m-gt0-clause-out_after
returns-then-m-gt0-clause-out_after c =
    let z = c.args.c.now in
    let s = c.loop-i.out in
    let m = length s in
    let l = c.loop-i.auto.out in
    let e = sym c.fits_twice.ensures ∙ c.if-not-fits_twice.false in
    let f : length z ≡ (m + 1) / 2 = (halves_exactly (length z) (length c.args.out.now)).0 e ∙ ap (λ (n : ℕ). (n + 1) / 2) (sym l) in
    let first = c.output_at.ensures ∙ output_is z 0 (omega arith) in
    let last = c.output_at-then-m-gt0.ensures ∙ output_is z (m - 1) (omega arith) in
    let at = ended (widened_at z) s _ _ c.if-m-gt0.true first last (λ k g h. c.loop-i.invariant k g (omega arith)) in
    rw (e, sym l) (line_is m (widened_at z) _ (length-set _ _ _ ∙ length-set _ _ _) at)
