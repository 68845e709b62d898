-- "Reading what was written returns the same list and the rest behind it" (W3), in either version, whatever bytes follow, and the rest is those,
-- in their place. What stands at the front of the buffer is the block, and the reader makes of it the list (Laid).
use Rattle.std.specs.Prelude.{Ok}
use Prim.Native.Nat.{ℕ, ◌+◌}
use mathlib.Core.Path.{◌≡◌, refl, sym, ap, ◌∙◌}
use mathlib.Core.Bool.{true}
use mathlib.Core.List.{List, ◌++◌}
use denote.Ref.{Bor}
use lib.ListN.{length, take}
use lib.Seq.{drop_at}
use Rattle.notation.specs.Answers.{answer}
use Rattle.notation.proofs.Tests.{fails_exactly}
use Rattle.list.specs.Lists.{ops_of, plan_of}
use Rattle.list.specs.declared.Plan.{Plan}
use Rattle.list.proofs.Building.{ops-of, plan-true, counted}
use Rattle.list_same.specs.Same.{same_list as is_same_list}
use Rattle.list_same.proofs.Exactly.{true_lists_same}
use Rattle.block_read.specs.Block.{read_of, RestOf}
use Rattle.block_read.specs.declared.Block.{Block}
use Rattle.block_write.specs.Bytes.{block_of}
use Rattle.block_write.specs.Writing.{paper, length_of, writing_of, left_of}
use Rattle.block_write.proofs.Badness.{bad_exactly}
use Rattle.block_write.proofs.Exactly.{zero-exactly, writes-the-block}
use Rattle.theorem_roundtrip.specs.Typed.{Typed}
use Rattle.theorem_roundtrip.proofs.Laid.{block_read, is_read}

-- a list that is written into a buffer in version v, and bytes t behind what was written
module _ (p : Plan) (y : Typed p) (v : ℕ) (old : List ℕ) (e : paper (writing_of p v (length old)) ≡ answer 0 0 0) (t : List ℕ) where
  abbrev pub used : ℕ
  used = length_of (writing_of p v (length old))

  abbrev pub sent : List ℕ
  sent = take used (left_of p v old) ++ t

  is-long : used ≡ length (block_of v p)
  is-long = (writes-the-block p v old e).0

  is-sent : sent ≡ block_of v p ++ t
  is-sent = ap (λ (n : ℕ). take n (left_of p v old) ++ t) is-long ∙ ap (λ (s : List ℕ). s ++ t) (writes-the-block p v old e).1

  is-read-back : read_of sent ≡ block_read v p
  is-read-back =
      let z = (zero-exactly p v (length old)).0 e in
      ap read_of is-sent ∙ is_read v z.1 p t y z.0 ((fails_exactly (bad_exactly p)).1 z.2)

  -- the version that was asked for; the list, with Clip past its count; and as many bytes as were written
  pub read_back : read_of sent ≡ record { answer = (Ok tt); version = v; plan = plan_of p.start (ops_of p); used = used }
  read_back = is-read-back ∙ rw is-long

  -- "returns the same list"
  pub same_list : is_same_list (read_of sent).plan p ≡ true
  same_list =
      let z = (zero-exactly p v (length old)).0 e in
      ap (λ (b : Block). is_same_list b.plan p) is-read-back
      ∙ (true_lists_same (plan_of p.start (ops_of p)) p (plan-true p.start (ops_of p)) z.0.1).1
      (refl, counted p y.slots z.0.0.1, ops-of p.start (ops_of p))

  -- "and the rest behind it": those bytes, in their place in the reader's slice
  pub rest-in-place : (bytes rest : Bor (List ℕ)) → bytes.now ≡ sent → RestOf bytes rest → (rest.now ≡ t) × (rest.ref_ptr ≡ (bytes.ref_ptr.0, used + bytes.ref_ptr.1))
  rest-in-place bytes rest f r =
      let u : (read_of bytes.now).used ≡ used = ap (λ (s : List ℕ). (read_of s).used) f ∙ ap (λ (b : Block). b.used) is-read-back ∙ sym is-long in
      (r.contents ∙ rw (u, f, is-sent, is-long) (drop_at (block_of v p) t (length (block_of v p)) refl), r.place ∙ rw u)
