-- Version 1 is read as it was before there was a second: the answers change for no block but those of version 2.
-- Such a head is 7 bytes long, and tells no end width.
use Rattle.std.specs.Prelude.{Ok, Err}
use Prim.Native.Nat.{ℕ, ◌+◌}
use mathlib.Core.Path.{◌≡◌, refl, ap}
use mathlib.Core.Bool.{Bool, true, false, not, ◌&&◌, or-false, and-eq-true_iff}
use mathlib.Core.List.{List}
use borrow.Author.Tests.{eqb-true, ne_eqb}
use lib.Dec.{eqb, ltb}
use lib.ListN.{length, drop}
use Rattle.notation.specs.Choice.{when◌then◌else◌}
use Rattle.list.specs.Lists.{plan_of, well_formed}
use Rattle.block_read.specs.Fields.{byte_at, u16_at}
use Rattle.block_read.specs.Block.{refused_by, version_of, Ops, ops, refused, ops_in, listed, end_told, read_of}
use Rattle.block_read.specs.declared.ReadError.TheVariants.{Short, WrongMark, Malformed}
use Rattle.block_read.specs.declared.Block.{Block}

-- "Mark `CTP`, version u16 = 1, start width u8, count u8, then ops"
abbrev letters : List ℕ → Bool
letters s = eqb (byte_at s 0) 0x43 && eqb (byte_at s 1) 0x54 && eqb (byte_at s 2) 0x50

abbrev first_mark : List ℕ → Bool
first_mark s = letters s && eqb (u16_at s 3) 1

abbrev first_listed : ℕ → Ops → Block
first_listed start (ops os n) = record { answer = (Ok tt); version = 1; plan = plan_of start os; used = 7 + n }
first_listed start (refused reading) = refused_by reading

-- "Order: under 7 bytes (7), 8, 10, then op by op" (01, Plan block)
abbrev pub first_of : List ℕ → Block
first_of s =
    when ltb (length s) 7 then refused_by (Err Short)
    else when first_mark s then
    (when well_formed (byte_at s 5) (byte_at s 6) then first_listed (byte_at s 5) (ops_in (byte_at s 6) (drop 7 s)) else refused_by (Err Malformed))
    else refused_by (Err WrongMark)

-- the ops behind a head of version 1
behind-first : (s : List ℕ) (v start : ℕ) → v ≡ 1 → (x : Ops) → end_told s (listed v start x) ≡ first_listed start x
behind-first s v start e (ops os n) = rw e
behind-first s v start e (refused reading) = refl

-- the size of a head of 7 bytes is tested once
once : (short mark : Bool) (c d : Block) → (mark ≡ true → c ≡ d)
    → (when short then refused_by (Err Short) else when not mark then refused_by (Err WrongMark) else when short then refused_by (Err Short) else c) ≡ (when short then refused_by (Err Short) else when mark then d else refused_by (Err WrongMark))
once true mark c d e = refl
once false true c d e = e refl
once false false c d e = refl

pub first-version : (s : List ℕ) → ¬ (version_of s ≡ 2) → read_of s ≡ first_of s
first-version s n =
    let formed : Block → Block = λ b. when well_formed (byte_at s 5) (byte_at s 6) then b else refused_by (Err Malformed) in
    let x = ops_in (byte_at s 6) (drop 7 s) in
    rw (ne_eqb (version_of s) 2 n, or-false (eqb (version_of s) 1))
    (once (ltb (length s) 7) (first_mark s) (formed (end_told s (listed (version_of s) (byte_at s 5) x))) (formed (first_listed (byte_at s 5) x))
    (λ m. ap formed (behind-first s (version_of s) (byte_at s 5) (eqb-true (version_of s) 1 ((and-eq-true_iff (letters s) (eqb (version_of s) 1)).0 m).1) x)))
