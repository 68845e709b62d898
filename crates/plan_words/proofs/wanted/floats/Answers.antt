-- `floats` are the fourteen floats that a plan is wanted with.
-- The constants are the same patterns; the two settings are by the promises of what it calls.
use lib.Ieee.{neg, of_bits}
use Rattle.plan_words.specs.Wanted.{floats_of}
use Rattle.plan_words.proofs.wanted.floats.Goals as goal

pub returns : goal.returns
unfolding floats_of neg of_bits
returns c = rw (c.float.ensures, c.unwrap_or.ensures, c.float-2.ensures, c.unwrap_or-2.ensures)
