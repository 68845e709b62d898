-- `encoding::named::same_primaries` meets its contract.
-- The derived comparison is the test of Named.
use mathlib.Core.Path.{◌∙◌}
use Rattle.encoding.proofs.Derived.{primaries-same}
use Rattle.encoding.proofs.named.same_primaries.Goals as goal

pub returns : goal.returns
returns c = c.eq.ensures ∙ primaries-same c.args.primaries c.args.other
