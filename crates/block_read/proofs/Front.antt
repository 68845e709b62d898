-- The op at the front of a slice, by the tests of the code: its length, and its first byte.
-- A slice that is not empty is its first byte and the rest.
use Rattle.std.specs.Prelude.{Err, Ok}
use Prim.Native.Nat.{ℕ, suc, ◌+◌, ◌-◌, ◌≤◌, ◌<◌}
use mathlib.Core.Path.{◌≡◌, refl}
use mathlib.Core.List.{List, [], ◌∷◌}
use mathlib.Core.Bool.{Bool, true, false}
use native.Mathlib.Omega.{arith}
use borrow.Author.Tests.{lt-ltb, le-ltb}
use lib.ListN.{length, take, drop, length-drop}
use Rattle.op.specs.declared.Op.{Op}
use Rattle.block_read.specs.Fields.{byte_at, payload_of, op_read}
use Rattle.block_read.specs.BadFields.{bad_field}
use Rattle.block_read.specs.Block.{taken, op_in, after_kind, fields_in}
use Rattle.block_read.specs.declared.ReadError.TheVariants.{Short, BadOp}

pub no_kind : (s : List ℕ) → length s ≡ 0 → (Err Short) ≡ op_in s
no_kind [] e = refl
no_kind (kind ∷ s) e = absurd (omega arith)

module _ (s : List ℕ) (h : ¬ (length s ≡ 0)) where
  front : op_in s ≡ after_kind (byte_at s 0) (drop 1 s)
  front = by s h
    where
      by : (s : List ℕ) → ¬ (length s ≡ 0) → op_in s ≡ after_kind (byte_at s 0) (drop 1 s)
      by [] h = absurd (h refl)
      by (kind ∷ s) h = refl

  pub unknown : 9 < byte_at s 0 → (Err BadOp) ≡ op_in s
  unknown k = rw (front, lt-ltb 9 (byte_at s 0) k)

  pub short : byte_at s 0 ≤ 9 → length s < 1 + payload_of (byte_at s 0) → (Err Short) ≡ op_in s
  short k l =
      let q : length (drop 1 s) < payload_of (byte_at s 0) = omega (arith, length-drop 1 s) in
      rw (front, le-ltb 9 (byte_at s 0) k, lt-ltb (length (drop 1 s)) (payload_of (byte_at s 0)) q)

  -- the payload as the code cuts it, from byte 1 to byte 1 + n
  module _ (k : byte_at s 0 ≤ 9) {n : ℕ} (e : n ≡ payload_of (byte_at s 0)) (l : 1 + n ≤ length s) where
    whole : op_in s ≡ fields_in (byte_at s 0) (take (1 + n - 1) (drop 1 s))
    whole =
        let q : payload_of (byte_at s 0) ≤ length (drop 1 s) = omega (arith, length-drop 1 s) in
        let f : 1 + n - 1 ≡ payload_of (byte_at s 0) = omega arith in
        rw (front, le-ltb 9 (byte_at s 0) k, le-ltb (length (drop 1 s)) (payload_of (byte_at s 0)) q, f)

    pub bad : {b : Bool} → b ≡ bad_field (byte_at s 0) (take (1 + n - 1) (drop 1 s)) → b ≡ true → (Err BadOp) ≡ op_in s
    bad p q = rw (whole, ← p, q)

    pub good : {b : Bool} {o : Op} → b ≡ bad_field (byte_at s 0) (take (1 + n - 1) (drop 1 s)) → b ≡ false → o ≡ op_read (byte_at s 0) (take (1 + n - 1) (drop 1 s)) → Ok (taken o (1 + n)) ≡ op_in s
    good p q r = let f : 1 + n ≡ suc (payload_of (byte_at s 0)) = omega arith in rw (whole, ← p, q, r, f)
