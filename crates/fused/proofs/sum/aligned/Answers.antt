-- `aligned` rounds the exact sum of two numbers that are not zero.
-- Their halves of 61 digits are both scaled by 2 ^ 61, and go into `merged` larger first.
use mathlib.Core.Path.{sym, ◌∙◌, ◌≡◌}
use Rattle.fused.proofs.Added.{Halved, exchanged, halved, ordered, sum-up}
use Rattle.fused.proofs.sum.aligned.Goals.{After-half-v}
use Rattle.fused.proofs.sum.aligned.Goals as goal

first : (c : After-half-v) → Halved c.args.x.m c.args.x.e c.half-u.result.m c.half-u.result.e
first c = halved _ _ _ _ _ _ c.requires.1 c.requires.4 c.top.ensures.size c.half-u.ensures.size

second : (c : After-half-v) → Halved c.args.y.m c.args.y.e c.half-v.result.m c.half-v.result.e
second c = halved _ _ _ _ _ _ c.requires.3 c.requires.5 c.top-2.ensures.size c.half-v.ensures.size

signs : (c : After-half-v) → (c.half-u.result.negative ≡ c.args.x.negative) × (c.half-v.result.negative ≡ c.args.y.negative)
signs c = (c.half-u.ensures.sign ∙ c.top.ensures.sign, c.half-v.ensures.sign ∙ c.top-2.ensures.sign)

pub merged-requires : goal.merged-requires
merged-requires c =
    let z = goal.at.merged-requires c in
    let x = first z.After-half-v in
    let y = second z.After-half-v in
    let o = rw c.if-below.true at c.below.ensures in
    (y.size, x.size, o.0, y.low, λ g. o.1 (sym g))

pub merged-requires-else-below : goal.merged-requires-else-below
merged-requires-else-below c =
    let z = goal.at.merged-requires-else-below c in
    let x = first z.After-half-v in
    let y = second z.After-half-v in
    let o = rw c.if-below.false at c.below.ensures in
    (x.size, y.size, o.0, x.low, λ g. o.1 (sym g))

pub returns-then-below : goal.returns-then-below
returns-then-below c =
    let z = goal.at.returns-then-below c in
    let x = first z.After-half-v in
    let y = second z.After-half-v in
    let o = rw c.if-below.true at c.below.ensures in
    let n = signs z.After-half-v in
    rw (n.0, n.1) at c.merged.ensures ∙ exchanged _ _ _ _ (ordered _ _ _ _ x.size y.size o) ∙ sum-up _ _ _ _ _ _ x.value y.value

pub returns-else-below : goal.returns-else-below
returns-else-below c =
    let z = goal.at.returns-else-below c in
    let x = first z.After-half-v in
    let y = second z.After-half-v in
    let n = signs z.After-half-v in
    rw (n.0, n.1) at c.merged-else-below.ensures ∙ sum-up _ _ _ _ _ _ x.value y.value
