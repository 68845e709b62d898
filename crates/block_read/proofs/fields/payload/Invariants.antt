-- `fields::payload` meets its contract.
-- The bytes of the fields that are left, with those counted already, are the bytes of all.
use Prim.Native.Nat.{◌+◌}
use mathlib.Core.Path.{◌≡◌}
use lib.ListN.{drop}
use Rattle.block_read.specs.Fields.{bytes_of}
use Rattle.block_read.proofs.Walking.{said}
use Rattle.block_read.proofs.fields.payload.Given as goal

abbrev pub invariant-loop-blank : goal.invariant-loop-blank
invariant-loop-blank l = l.size + bytes_of (drop l.blank-index (said l.blanks)) ≡ bytes_of (said l.blanks)
