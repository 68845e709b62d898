-- `checking::end_of` meets its contract.
-- The width that the check tells is the one to which the ops lead.
use mathlib.Core.Path.{ap, ◌∙◌}
use mathlib.Core.List.{map}
use Rattle.std.specs.Result.{result_unwrap_or}
use Rattle.list.specs.Lists.{op_of}
use Rattle.list.specs.Check.{Verdict, check_from}
use Rattle.list.proofs.Ending.{told-from, width-or_0}
use Rattle.list.proofs.checking.end_of.Goals as goal

pub returns : goal.returns
returns c =
    let os = map op_of c.args.ops.now in
    c.unwrap_or.ensures ∙ ap (λ (v : Verdict). result_unwrap_or v 0) c.check_ops.ensures ∙ width-or_0 (check_from c.args.start 0 os) ∙ told-from os c.args.start 0
