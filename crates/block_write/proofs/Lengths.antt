-- The length of a block is that of its head, 7 or 8, and, for each op, 1 and its payload; it is at most 1,192.
-- A value takes the bytes of its field, and an op those of its kind's fields, 36 at the most.
use Prim.Native.Nat.{ℕ, ◌+◌, ◌*◌, ◌≤◌}
use mathlib.Core.Path.{◌≡◌, refl, ap, ◌∙◌}
use mathlib.Core.Bool.{Bool, true, false}
use mathlib.Core.List.{List, [], ◌∷◌, ◌++◌, map}
use native.Mathlib.Omega.{arith}
use lib.Dec.{eqb}
use lib.ListN.{length, length-append}
use Rattle.notation.specs.Choice.{when◌then◌else◌}
use Rattle.notation.specs.Text.{ascii}
use Rattle.op.specs.declared.Op.{Op}
use Rattle.op_fields.specs.Parts.{field_of, kind_of, values_of}
use Rattle.op_fields.specs.declared.Value.{Value}
use Rattle.op_fields.specs.declared.Value.TheVariants.{Float as the_float, Flag as the_flag, Curve as the_curve}
use Rattle.op_fields.proofs.Back.{shape}
use Rattle.list.specs.Lists.{ops_of, lawful, Lawful}
use Rattle.list.specs.declared.Plan.{Plan}
use Rattle.list.proofs.Formed.{lawful-exactly}
use Rattle.list.proofs.Walk.{count-ops}
use Rattle.block_read.specs.Fields.{size_of, bytes_of, payload_of}
use Rattle.block_read.specs.Block.{head_of}
use Rattle.block_read.proofs.Layouts.{payload-small}
use Rattle.block_read.proofs.Versions.{head-within}
use Rattle.block_write.specs.Bytes.{u16_bytes, value_bytes, joined, op_bytes, head_bytes, block_of, ops_size}

pub value_size : (v : Value) → length (value_bytes v) ≡ size_of (field_of v)
value_size (the_float x) = refl
value_size (the_flag on) = refl
value_size (the_curve c) = refl

values_size : (vs : List Value) → length (joined value_bytes vs) ≡ bytes_of (map field_of vs)
values_size [] = refl
values_size (v ∷ vs) = length-append (value_bytes v) (joined value_bytes vs) ∙ rw (value_size v, values_size vs)

pub payload-is : (o : Op) → length (joined value_bytes (values_of o)) ≡ payload_of (kind_of o)
payload-is o = values_size (values_of o) ∙ ap bytes_of (shape o)

ops-size : (os : List Op) → length (joined op_bytes os) ≡ ops_size os
ops-size [] = refl
ops-size (o ∷ os) = omega (arith, length-append (joined value_bytes (values_of o)) (joined op_bytes os), payload-is o, ops-size os)

ops-small : (os : List Op) → ops_size os ≤ 37 * length os
ops-small [] = omega arith
ops-small (o ∷ os) = omega (arith, payload-small (kind_of o), ops-small os)

module _ (p : Plan) (v : ℕ) where
  pub head-size : length (head_bytes v p) ≡ head_of v
  head-size = by (eqb v 2)
    where
      by : (b : Bool) → length ((ascii "CTP" ++ (u16_bytes v ++ (p.start ∷ p.count ∷ []))) ++ (when b then p.end ∷ [] else [])) ≡ (when b then 8 else 7)
      by true = refl
      by false = refl

  pub length-is : length (block_of v p) ≡ head_of v + ops_size (ops_of p)
  length-is = length-append (head_bytes v p) (joined op_bytes (ops_of p)) ∙ rw (head-size, ops-size (ops_of p))

  pub at_most : Lawful p → length (block_of v p) ≤ 1192
  at_most l = omega (arith, length-is, (head-within v).1, ops-small (ops_of p), count-ops p.count p.ops, l.0.1)

  -- behind the head there is room for the ops
  pub ops_fit : (s : List ℕ) → s ≡ head_bytes v p → lawful p ≡ true → length s + length (joined op_bytes (ops_of p)) ≤ 1192
  ops_fit s e l = rw e (rw (← length-append (head_bytes v p) (joined op_bytes (ops_of p))) (at_most ((lawful-exactly p).0 l)))

pub few : (p : Plan) → lawful p ≡ true → p.count ≤ 32
few p l = ((lawful-exactly p).0 l).0.1
