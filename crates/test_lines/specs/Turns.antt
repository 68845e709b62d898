-- The turns of the program's loop fall. Definitions only.
use Rattle.std.specs.Prelude.{◌<◌}
use Rattle.test_lines.specs.declared.Progress.{Progress}

abbrev pub Falls : Progress → Progress → Type 0
Falls p r = 0 < p.turns → r.turns < p.turns
