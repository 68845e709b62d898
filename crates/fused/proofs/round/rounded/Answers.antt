-- `rounded` is the kit's `round` at a number of 62 digits.
-- One law of `Settled` for each size of the result.
use mathlib.Core.Path.{ap, ◌∙◌}
use Prim.Native.Nat.{◌*◌, ◌+◌, ◌-◌, ℕ}
use Rattle.binary32.specs.Pattern.{with_sign}
use Rattle.fused.proofs.Settled.{normal, nothing, over, subnormal}
use Rattle.fused.proofs.round.rounded.Goals as goal

pub returns-then-e-ge488 : goal.returns-then-e-ge488
returns-then-e-ge488 c =
    let z = c.args.x in
    c.put_together.ensures ∙ over z.negative z.m z.e c.requires.0 c.requires.1 c.if-e-ge488.true

pub returns-then-e-ge234 : goal.returns-then-e-ge234
returns-then-e-ge234 c =
    let z = c.args.x in
    c.put_together-then-e-ge234.ensures
    ∙ ap (λ (x : ℕ). with_sign z.negative ((z.e - 234) * 0x80_0000 + x)) c.near.ensures
    ∙ normal z.negative z.m z.e c.requires.0 c.requires.1 c.if-e-ge234.true c.if-e-ge488.false

pub returns-then-e-ge209 : goal.returns-then-e-ge209
returns-then-e-ge209 c =
    let z = c.args.x in
    c.put_together-then-e-ge209.ensures
    ∙ ap (with_sign z.negative) c.near-then-e-ge209.ensures
    ∙ subnormal z.negative z.m z.e c.requires.0 c.requires.1 c.if-e-ge234.false

pub returns-else-e-ge209 : goal.returns-else-e-ge209
returns-else-e-ge209 c =
    let z = c.args.x in
    c.put_together-else-e-ge209.ensures ∙ nothing z.negative z.m z.e c.requires.0 c.requires.1 c.if-e-ge209.false
