-- `added` rounds the exact sum of two numbers, either of which may be zero.
-- The laws of a zero part stand in `Added`.
use mathlib.Core.Path.{ap, ◌∙◌, ◌≡◌}
use mathlib.Core.Bool.{◌&&◌, Bool}
use Rattle.binary32.specs.Pattern.{with_sign}
use Rattle.fused.proofs.Added.{both_zero, first-zero, second-zero}
use Rattle.fused.proofs.sum.added.Goals.{then-x, else-x}
use Rattle.fused.proofs.sum.added.Goals as goal

pub returns-after-x : goal.returns-after-x
returns-after-x c =
    let e : c.if-x.put_together ≡ (c.args.x.negative && c.args.y.negative) = elim c.if-x.branch [
      | then-x w ↦ rw w.if-x.true w.put_together-is
      | else-x w ↦ rw w.if-x.false (w.put_together-is ∙ w.if-x.false)
    ] in
    c.put_together.ensures ∙ ap (λ (x : Bool). with_sign x 0) e ∙ both_zero _ _ _ _ _ _ c.if-x-eq0.true c.if-y-eq0.true

pub returns-else-y-eq0 : goal.returns-else-y-eq0
returns-else-y-eq0 c = c.settled.ensures ∙ first-zero _ _ _ _ _ _ c.if-x-eq0.true c.if-y-eq0.false

pub returns-then-y-eq0-2 : goal.returns-then-y-eq0-2
returns-then-y-eq0-2 c = c.settled-then-y-eq0-2.ensures ∙ second-zero _ _ _ _ _ _ c.if-x-eq0.false c.if-y-eq0-2.true
