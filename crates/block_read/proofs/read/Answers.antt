-- `read` meets its contract.
-- Each return is what `read_of` computes to under the tests that led there.
use Rattle.std.specs.Prelude.{Err}
use Prim.Native.Nat.{ℕ, ◌≤◌}
use mathlib.Core.Path.{◌≡◌, ap, sym, ◌∙◌}
use native.Mathlib.Omega.{arith}
use borrow.Author.Tests.{lt-ltb, le-ltb}
use lib.Dec.{ltb}
use lib.ListN.{length, drop}
use Rattle.notation.specs.Choice.{when◌then◌else◌}
use Rattle.list.proofs.Formed.{formed-exactly}
use Rattle.block_read.specs.Fields.{byte_at}
use Rattle.block_read.specs.Block.{refused_by, version_of, head_of, ops_in, listed, end_told, read_behind, read_of}
use Rattle.block_read.specs.declared.ReadError.TheVariants.{Short}
use Rattle.block_read.proofs.Turn.{version-fits}
use Rattle.block_read.proofs.read.Goals as goal

pub returns-then-bytes-lt-HEAD : goal.returns-then-bytes-lt-HEAD
returns-then-bytes-lt-HEAD c = rw (c.refused_by.ensures, lt-ltb _ _ c.if-bytes-lt-HEAD.true)

pub returns-then-not-right_mark : goal.returns-then-not-right_mark
returns-then-not-right_mark c = rw (c.refused_by-then-not-right_mark.ensures, le-ltb _ _ c.if-bytes-lt-HEAD.false, ← c.right_mark.ensures, c.if-not-right_mark.true)

pub returns-then-bytes-head_of : goal.returns-then-bytes-head_of
returns-then-bytes-head_of c =
    let past-mark : let s = c.args.bytes.now in
    read_of s ≡ (when ltb (length s) (head_of (version_of s)) then refused_by (Err Short) else read_behind (version_of s) s) = let s = c.args.bytes.now in
    rw (le-ltb (length s) 7 c.if-bytes-lt-HEAD.false, sym c.right_mark.ensures ∙ c.if-not-right_mark.false) in
    let head-is : c.head_of.result ≡ head_of (version_of c.args.bytes.now) = c.head_of.ensures ∙ ap head_of c.u16_at-version.ensures in
    let d = c in
    let s = d.args.bytes.now in
    let h = c.if-bytes-head_of.true in
    c.refused_by-then-bytes-head_of.ensures ∙ sym (past-mark ∙ rw (lt-ltb (length s) (head_of (version_of s)) (omega (arith, head-is))))

pub overflow_cast-count : goal.overflow_cast-count
overflow_cast-count c = omega (arith, c.shared_slice_known-3-1.given 6)

pub returns-then-not-well_formed : goal.returns-then-not-well_formed
returns-then-not-well_formed c =
    let past-mark : let s = c.args.bytes.now in
    read_of s ≡ (when ltb (length s) (head_of (version_of s)) then refused_by (Err Short) else read_behind (version_of s) s) = let s = c.args.bytes.now in
    rw (le-ltb (length s) 7 c.if-bytes-lt-HEAD.false, sym c.right_mark.ensures ∙ c.if-not-right_mark.false) in
    let head-is : c.head_of.result ≡ head_of (version_of c.args.bytes.now) = c.head_of.ensures ∙ ap head_of c.u16_at-version.ensures in
    let past_head : let s = c.args.bytes.now in read_of s ≡ read_behind (version_of s) s = let s = c.args.bytes.now in
    let h = c.if-bytes-head_of.false in
    let all : head_of (version_of s) ≤ length s = omega (arith, head-is) in
    past-mark ∙ rw (le-ltb (length s) (head_of (version_of s)) all) in
    let w = c in
    c.refused_by-then-not-well_formed.ensures ∙ sym (past_head ∙ rw (sym w.well_formed-2.ensures ∙ c.if-not-well_formed.true))

pub read_ops-requires : goal.read_ops-requires
read_ops-requires c =
    let e = c in
    let s = e.args.bytes.now in
    let h = e.if-bytes-head_of.false in
    (omega (arith, e.head_of.ensures), (formed-exactly (byte_at s 5) (byte_at s 6)).0 (sym c.well_formed-2.ensures ∙ c.if-not-well_formed.false))

pub end_told-requires : goal.end_told-requires
end_told-requires c =
    let e = c in
    let h = e.if-bytes-head_of.false in
    let l = e.if-bytes-lt-HEAD.false in
    let s = e.args.bytes.now in
    let v = e.u16_at-version.result in
    rw c.read_ops.ensures (version-fits v (byte_at s 5) (length s) (ops_in (byte_at s 6) (drop (head_of v) s)) l (omega (arith, e.head_of.ensures)))

pub returns : goal.returns
returns c =
    let past-mark : let s = c.args.bytes.now in
    read_of s ≡ (when ltb (length s) (head_of (version_of s)) then refused_by (Err Short) else read_behind (version_of s) s) = let s = c.args.bytes.now in
    rw (le-ltb (length s) 7 c.if-bytes-lt-HEAD.false, sym c.right_mark.ensures ∙ c.if-not-right_mark.false) in
    let head-is : c.head_of.result ≡ head_of (version_of c.args.bytes.now) = c.head_of.ensures ∙ ap head_of c.u16_at-version.ensures in
    let past_head : let s = c.args.bytes.now in read_of s ≡ read_behind (version_of s) s = let s = c.args.bytes.now in
    let h = c.if-bytes-head_of.false in
    let all : head_of (version_of s) ≤ length s = omega (arith, head-is) in
    past-mark ∙ rw (le-ltb (length s) (head_of (version_of s)) all) in
    let f = c in
    let e = f in
    let s = e.args.bytes.now in
    c.end_told.ensures
    ∙ ap (end_told s) (c.read_ops.ensures ∙ ap (λ (v : ℕ). listed v (byte_at s 5) (ops_in (byte_at s 6) (drop (head_of v) s))) e.u16_at-version.ensures)
    ∙ sym (past_head ∙ rw (sym f.well_formed-2.ensures ∙ f.if-not-well_formed.false))
