-- What the reader makes of the bytes of a list, whatever follows them: it reads the list, or refuses it by 10 or by 9.
-- The head by its bytes, for any version that there is, and the ops by Ops.
use Rattle.std.specs.Prelude.{Ok, Err}
use Prim.Native.Nat.{ℕ, ◌≤◌}
use mathlib.Core.Path.{◌≡◌, refl, ap, sym, subst, ◌∙◌}
use mathlib.Core.Bool.{true, false}
use mathlib.Core.Logic.{inl, ⊎_elim}
use mathlib.Core.List.{List, ◌++◌, append_assoc}
use native.Mathlib.Omega.{arith}
use lib.ListN.{length, drop, length-append}
use lib.Seq.{drop_at}
use Rattle.notation.specs.Answers.{answer}
use Rattle.list.specs.Lists.{ops_of, plan_of, Unformed, Lawful}
use Rattle.list.specs.declared.Plan.{Plan}
use Rattle.list.proofs.Building.{counted}
use Rattle.block_read.specs.Fields.{byte_at}
use Rattle.block_read.specs.Block.{version_of, head_of, paper, ops, listed, read_of}
use Rattle.block_read.specs.Refusals.{Unreadable, AllStand, Met, Known, RightMark, behind, GoodHead, FalseEnd}
use Rattle.block_read.specs.declared.ReadError.TheVariants.{BadOp, Malformed}
use Rattle.block_read.specs.declared.Block.{Block}
use Rattle.block_read.proofs.Exactly.{exactly}
use Rattle.block_read.proofs.Judging.{is-done}
use Rattle.block_read.proofs.Versions.{head-within}
use Rattle.block_write.specs.Bytes.{joined, op_bytes, head_bytes, block_of, ops_size}
use Rattle.block_write.specs.Writing.{bad_list}
use Rattle.block_write.proofs.Lengths.{head-size, length-is}
use Rattle.theorem_roundtrip.specs.Typed.{Typed}
use Rattle.theorem_roundtrip.proofs.Ops.{all-stand, one-unreadable}
use Rattle.theorem_roundtrip.proofs.Words.{u16_back}

-- the block of a list that is read whole
abbrev pub block_read : ℕ → Plan → Block
block_read v p = record { answer = (Ok tt); version = v; plan = plan_of p.start (ops_of p); used = length (block_of v p) }

module _ (v : ℕ) (k : Known v) (p : Plan) (t : List ℕ) where
  abbrev laid : List ℕ
  laid = block_of v p ++ t

  version-is : version_of laid ≡ v
  version-is = u16_back v t (⊎_elim (λ e. omega arith) (λ e. omega arith) k)

  all : head_of v ≤ length laid
  all = omega (arith, length-append (block_of v p) t, length-is p v)

  whole : 7 ≤ length laid
  whole = let h = all in omega (arith, (head-within v).0)

  mark : RightMark laid
  mark = (refl, subst Known (sym version-is) k)

  head-there : head_of (version_of laid) ≤ length laid
  head-there = subst (λ (n : ℕ). head_of n ≤ length laid) (sym version-is) all

  ops-behind : behind laid ≡ joined op_bytes (ops_of p) ++ t
  ops-behind =
      ap (λ (n : ℕ). drop (head_of n) laid) version-is
      ∙ ap (drop (head_of v)) (append_assoc (head_bytes v p) (joined op_bytes (ops_of p)) t)
      ∙ drop_at (head_bytes v p) (joined op_bytes (ops_of p) ++ t) (head_of v) (head-size p v)

  end-byte : v ≡ 2 → byte_at laid 7 ≡ p.end
  end-byte e = rw e

  pub is-malformed : Unformed p.start p.count → paper (read_of laid).answer ≡ answer 10 0 0
  is-malformed u = (exactly laid (Err Malformed)).1 (whole, mark, head-there, u)

  module _ (y : Typed p) (l : Lawful p) where
    head : GoodHead laid
    head = record { whole = whole; mark = mark; all = head-there; formed = l.0 }

    count-is : length (ops_of p) ≡ p.count
    count-is = counted p y.slots l.0.1

    truly : ¬ FalseEnd laid (ops_of p)
    truly f = f.1 (end-byte (sym version-is ∙ f.0) ∙ l.1)

    pub is_read : bad_list p ≡ false → read_of laid ≡ block_read v p
    is_read e =
        let a : AllStand (length (ops_of p)) (behind laid) (ops_of p) (ops_size (ops_of p)) = rw ops-behind (all-stand t (ops_of p) y.values e) in
        let b = subst (λ (n : ℕ). AllStand n (behind laid) (ops_of p) (ops_size (ops_of p))) count-is a in
        is-done laid head b truly ∙ ap (λ (n : ℕ). listed n p.start (ops (ops_of p) (ops_size (ops_of p)))) version-is ∙ rw (length-is p v)

    pub is-bad : bad_list p ≡ true → paper (read_of laid).answer ≡ answer 9 0 0
    is-bad e =
        let m : Met Unreadable (length (ops_of p)) (behind laid) = rw ops-behind (one-unreadable t (ops_of p) y.values e) in
        (exactly laid (Err BadOp)).1 (head, inl (subst (λ (n : ℕ). Met Unreadable n (behind laid)) count-is m))
