-- A plan block, and the order of its tests: "under 7 bytes (7), 8, 10, then op by op: kind byte missing (7), kind (9),
-- payload short (7), fields (9)." (01, Plan block). "Plan block version 2 has the end width as one byte after the count"; "in a version 2
-- block 7 for a missing end width byte, after 8 and before 10, and 9 for a false one, after the ops". (02, W8). Definitions only.
use Rattle.std.specs.Prelude.{ℕ, zero, suc, ◌+◌, ◌≡◌, Bool, not, ◌&&◌, ◌||◌, List, [], ◌∷◌, eqb, ltb, length, take, drop, Ok, Err, Result}
use Rattle.std.specs.Borrow.{Bor}
use Rattle.notation.specs.Choice.{when◌then◌else◌}
use Rattle.list.specs.Lists.{plan_of, well_formed, no_list}
use Rattle.op.specs.declared.Op.{Op}
use Rattle.notation.specs.Answers.{answer}
use Rattle.notation.specs.declared.Answer.{Answer}
use Rattle.block_read.specs.Fields.{byte_at, u16_at, payload_of, op_read}
use Rattle.block_read.specs.BadFields.{bad_field}
use Rattle.block_read.specs.declared.ReadError.{ReadError}
use Rattle.block_read.specs.declared.ReadError.TheVariants.{Short, WrongMark, BadOp, Malformed}
use Rattle.block_read.specs.declared.Block.{Block}
use Rattle.block_read.specs.declared.Found.{Found}

-- what reading answers
abbrev pub Reading : Type 0
Reading = Result (Unit {0}) ReadError

-- the number that 01 gives; no position is named, and no width
abbrev pub paper : Reading → Answer
paper (Ok tt) = answer 0 0 0
paper (Err Short) = answer 7 0 0
paper (Err WrongMark) = answer 8 0 0
paper (Err BadOp) = answer 9 0 0
paper (Err Malformed) = answer 10 0 0

-- "7 .. | empty list, width 0; rest is the caller's whole slice", and 8, 9 and 10 the same; no version is told
abbrev pub refused_by : Reading → Block
refused_by reading = record { answer = reading; version = 0; plan = no_list; used = 0 }

-- "version u16 = 1", and 2
abbrev pub known_version : ℕ → Bool
known_version version = eqb version 1 || eqb version 2

-- "Mark `CTP`, version u16 .., start width u8, count u8, then ops"
abbrev pub version_of : List ℕ → ℕ
version_of s = u16_at s 3

abbrev pub right_mark : List ℕ → Bool
right_mark s = eqb (byte_at s 0) 0x43 && eqb (byte_at s 1) 0x54 && eqb (byte_at s 2) 0x50 && known_version (version_of s)

-- the bytes before the ops: version 2 has "the end width as one byte after the count"
abbrev pub head_of : ℕ → ℕ
head_of version = when eqb version 2 then 8 else 7

-- an op and the bytes that it takes
abbrev pub taken : Op → ℕ → Found
taken o size = record { op = o; size = size }

-- the op at the front of s, of which a kind byte and a payload are the first bytes
abbrev pub fields_in : ℕ → List ℕ → Result Found ReadError
fields_in kind payload = when bad_field kind payload then Err BadOp else Ok (taken (op_read kind payload) (suc (payload_of kind)))

abbrev pub after_kind : ℕ → List ℕ → Result Found ReadError
after_kind kind s =
    when ltb 9 kind then Err BadOp
    else when ltb (length s) (payload_of kind) then Err Short
    else fields_in kind (take (payload_of kind) s)

abbrev pub op_in : List ℕ → Result Found ReadError
op_in [] = Err Short
op_in (kind ∷ s) = after_kind kind s

-- the ops at the front of s, and the bytes that they take
pub data Ops : Type 0 where
  ops : List Op → ℕ → Ops
  refused : Reading → Ops

abbrev pub before : Op → ℕ → Ops → Ops
before o size (ops os n) = ops (o ∷ os) (size + n)
before o size (refused reading) = refused reading

abbrev pub on_found : Result Found ReadError → (Op → ℕ → Ops) → Ops
on_found (Ok f) rest = rest f.op f.size
on_found (Err e) rest = refused (Err e)

abbrev pub ops_in : ℕ → List ℕ → Ops
ops_in zero s = ops [] 0
ops_in (suc n) s = on_found (op_in s) (λ o size. before o size (ops_in n (drop size s)))

-- the list of these ops, and the bytes of the whole block
abbrev pub listed : ℕ → ℕ → Ops → Block
listed version start (ops os n) = record { answer = (Ok tt); version = version; plan = plan_of start os; used = head_of version + n }
listed version start (refused reading) = refused_by reading

-- "9 for a false one, after the ops": the end width that version 2 tells
abbrev pub end_told : List ℕ → Block → Block
end_told s b = when eqb b.version 2 && not (eqb (byte_at s 7) b.plan.end) then refused_by (Err BadOp) else b

-- behind a head that is there
abbrev pub read_behind : ℕ → List ℕ → Block
read_behind version s =
    when well_formed (byte_at s 5) (byte_at s 6) then end_told s (listed version (byte_at s 5) (ops_in (byte_at s 6) (drop (head_of version) s)))
    else refused_by (Err Malformed)

abbrev pub read_of : List ℕ → Block
read_of s =
    when ltb (length s) 7 then refused_by (Err Short)
    else when not (right_mark s) then refused_by (Err WrongMark)
    else when ltb (length s) (head_of (version_of s)) then refused_by (Err Short)
    else read_behind (version_of s) s

-- "Bytes after the last op are the picture's; the reader hands back that rest of the caller's slice": its bytes, and its place in the caller's memory
pub record RestOf (bytes rest : Bor (List ℕ)) : Type 0 where
  pub contents : rest.now ≡ drop (read_of bytes.now).used bytes.now
  pub place : rest.ref_ptr ≡ (bytes.ref_ptr.0, (read_of bytes.now).used + bytes.ref_ptr.1)
