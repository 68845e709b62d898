-- `read` reads the header at the front of a slice.
-- What is left to read, from where the reading is, gives what the whole does.
use mathlib.Core.Path.{◌≡◌}
use lib.ListN.{drop}
use Rattle.pfm.specs.Header.{begun, header_from}
use Rattle.pfm.proofs.headers.read.Given as goal

abbrev pub invariant-loop-i : goal.invariant-loop-i
invariant-loop-i l = header_from l.h l.i (drop l.i l.s) ≡ header_from begun 0 l.s
