-- The fields of a kind take the bytes that 01's table gives for it, none more than a matrix does.
-- By computing.
use Prim.Native.Nat.{ℕ, ◌≤◌}
use mathlib.Core.Path.{◌≡◌, refl}
use mathlib.Core.List.{[], ◌∷◌, map}
use native.Mathlib.Omega.{arith}
use lib.ListN.{get_or-map}
use Rattle.notation.proofs.Tables.{at_most}
use Rattle.op_fields.specs.Layouts.{layouts}
use Rattle.block_read.specs.Fields.{bytes_of, payload_of}

-- "payload bytes", for the kinds 0 to 9
pub payload-bytes : map bytes_of layouts ≡ 16 ∷ 8 ∷ 0 ∷ 36 ∷ 26 ∷ 20 ∷ 25 ∷ 25 ∷ 16 ∷ 0 ∷ []
payload-bytes = refl

pub payload-small : (kind : ℕ) → payload_of kind ≤ 36
payload-small kind = omega (arith, get_or-map bytes_of layouts kind [], at_most (map bytes_of layouts) kind)
