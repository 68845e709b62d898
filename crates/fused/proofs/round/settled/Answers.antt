-- `settled` is the kit's `round` at any number of at most 62 digits.
-- `top` scales the fraction's two sides by the same power of two.
use mathlib.Core.Path.{◌∙◌}
use Rattle.fused.proofs.Settled.{settle}
use Rattle.fused.proofs.round.settled.Goals as goal

pub returns : goal.returns
returns c = rw c.top.ensures.sign at c.rounded.ensures ∙ settle _ _ _ _ _ c.top.ensures.size
