-- `fields::first_float` meets its contract.
-- The pattern is that of the four bytes.
use mathlib.Core.Path.{ap, ◌∙◌}
use Rattle.notation.specs.F32.{bits}
use Rattle.block_read.specs.Fields.{first_float}
use Rattle.block_read.proofs.fields.first_float.Goals as goal

pub returns : goal.returns
unfolding first_float
returns c = c.from_pattern.ensures ∙ ap bits c.u32_at.ensures
