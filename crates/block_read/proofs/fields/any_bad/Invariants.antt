-- `fields::any_bad` meets its contract.
-- Of the fields that are left, from here on, one is bad exactly where one of all is.
use Prim.Native.Nat.{◌+◌}
use mathlib.Core.Path.{◌≡◌}
use lib.ListN.{drop}
use Rattle.block_read.specs.Fields.{bytes_of}
use Rattle.block_read.specs.BadFields.{any_bad}
use Rattle.block_read.proofs.Walking.{said}
use Rattle.block_read.proofs.fields.any_bad.Given as goal

abbrev pub invariant-loop-blank : goal.invariant-loop-blank
invariant-loop-blank l = (l.at + bytes_of (drop l.blank-index (said l.blanks)) ≡ bytes_of (said l.blanks))
    × (any_bad (drop l.blank-index (said l.blanks)) (drop l.at l.s) ≡ any_bad (said l.blanks) l.s)
