-- No block is longer than 1,192 bytes: so many are enough to read it, whatever follows.
-- An op takes at most 37 bytes, and looks at no more.
use Rattle.std.specs.Prelude.{Err, Result, Ok}
use Prim.Native.Nat.{ℕ, zero, suc, ◌-◌, ◌*◌, ◌≤◌, ◌<◌}
use mathlib.Core.Path.{◌≡◌, refl, ap, sym, ◌∙◌}
use mathlib.Core.Bool.{Bool, true, false, not}
use mathlib.Core.Logic.{⊎_elim}
use mathlib.Core.List.{List, [], ◌∷◌}
use native.Mathlib.Omega.{arith}
use borrow.Author.Tests.{le-ltb}
use lib.ListN.{length, take, drop, length-take}
use lib.Seq.{take_all, take-nil, take-take}
use Rattle.notation.specs.Choice.{when◌then◌else◌}
use Rattle.binary32.proofs.Size.{split_le}
use Rattle.list.specs.Lists.{well_formed}
use Rattle.op.specs.declared.Op.{Op}
use Rattle.list.proofs.Formed.{formed-exactly}
use Rattle.block_read.specs.Fields.{byte_at, payload_of}
use Rattle.block_read.specs.Block.{refused_by, version_of, right_mark, head_of, op_in, after_kind, on_found, before, ops_in, read_behind, read_of}
use Rattle.block_read.specs.Refusals.{Stands, stands}
use Rattle.block_read.specs.declared.ReadError.TheVariants.{WrongMark}
use Rattle.block_read.specs.declared.Found.{Found}
use Rattle.block_read.specs.declared.ReadError.{ReadError}
use Rattle.block_read.proofs.Layouts.{payload-small}
use Rattle.block_read.proofs.Heads.{drop-take, same_byte}
use Rattle.block_read.proofs.Versions.{head-within}
use Rattle.block_read.proofs.Ways.{found_stands}

op-enough : (s : List ℕ) (k : ℕ) → 37 ≤ k → op_in (take k s) ≡ op_in s
op-enough [] k h = ap op_in (take-nil k)
op-enough (kind ∷ s) zero h = absurd (omega arith)
op-enough (kind ∷ s) (suc k) h = ⊎_elim (λ l. ap (after_kind kind) (take_all k s l)) cut (split_le (length s) k)
  where
    cut : k < length s → after_kind kind (take k s) ≡ after_kind kind s
    cut l =
        let small = payload-small kind in
        let long : payload_of kind ≤ length (take k s) = omega (arith, length-take k s) in
        let also : payload_of kind ≤ length s = omega arith in
        let less : payload_of kind ≤ k = omega arith in
        rw (le-ltb (length (take k s)) (payload_of kind) long, le-ltb (length s) (payload_of kind) also, take-take (payload_of kind) k s less)

op-small : {s : List ℕ} {o : Op} {size : ℕ} → Stands s o size → size ≤ 37
op-small (stands {kind} k h n) = omega (arith, payload-small kind)

ops-enough : (n : ℕ) (s : List ℕ) (k : ℕ) → 37 * n ≤ k → ops_in n (take k s) ≡ ops_in n s
ops-enough zero s k h = refl
ops-enough (suc n) s k h = rw (op-enough s k (omega arith)) (by (op_in s) refl (λ size l. ops-enough n (drop size s) (k - size) (omega arith)))
  where
    by : (f : Result Found ReadError) → op_in s ≡ f → ((size : ℕ) → size ≤ 37 → ops_in n (take (k - size) (drop size s)) ≡ ops_in n (drop size s))
        → on_found f (λ o size. before o size (ops_in n (drop size (take k s)))) ≡ on_found f (λ o size. before o size (ops_in n (drop size s)))
    by (Ok f) e rest = rw (drop-take f.size k s, rest f.size (op-small (found_stands s e)))
    by (Err x) e rest = refl

-- of a slice that has its head whole, the mark decides, and then what is behind the head
headed : (s : List ℕ) → 8 ≤ length s → read_of s ≡ (when not (right_mark s) then refused_by (Err WrongMark) else read_behind (version_of s) s)
headed s h =
    let seven : 7 ≤ length s = omega arith in
    let all : head_of (version_of s) ≤ length s = omega (arith, (head-within (version_of s)).1) in
    rw (le-ltb (length s) 7 seven, le-ltb (length s) (head_of (version_of s)) all)

pub enough : (s : List ℕ) (k : ℕ) → 1192 ≤ k → read_of (take k s) ≡ read_of s
enough s k h = ⊎_elim (λ l. ap read_of (take_all k s l)) cut (split_le (length s) k)
  where
    at : (i : ℕ) → i < 8 → byte_at (take k s) i ≡ byte_at s i
    at = same_byte 8 s (take k s) (take-take 8 k s (omega arith))

    behind : (v : ℕ) (b : Bool) → well_formed (byte_at s 5) (byte_at s 6) ≡ b → read_behind v (take k s) ≡ read_behind v s
    behind v true e =
        let c = ((formed-exactly (byte_at s 5) (byte_at s 6)).0 e).1 in
        rw (at 5 (omega arith), at 6 (omega arith), at 7 (omega arith), e, drop-take (head_of v) k s, ops-enough (byte_at s 6) (drop (head_of v) s) (k - head_of v) (omega (arith, (head-within v).1)))
    behind v false e = rw (at 5 (omega arith), at 6 (omega arith), e)

    cut : k < length s → read_of (take k s) ≡ read_of s
    cut l =
        headed (take k s) (omega (arith, length-take k s))
        ∙ (rw (at 0 (omega arith), at 1 (omega arith), at 2 (omega arith), at 3 (omega arith), at 4 (omega arith), behind (version_of s) (well_formed (byte_at s 5) (byte_at s 6)) refl))
        ∙ sym (headed s (omega arith))
