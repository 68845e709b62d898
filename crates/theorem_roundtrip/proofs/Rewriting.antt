-- "any block the reader accepts, written again from its list, gives the same block" (W3), "at the block's own version" (W8), "for blocks without curve 3"
-- (W10), byte for byte, where there is room for it. The list that is read is lawful and holds no bad field, and its bytes are the block's own.
use Rattle.std.specs.Prelude.{Ok}
use Prim.Native.Nat.{ℕ, ◌+◌, ◌*◌, ◌≤◌, ◌<◌}
use mathlib.Core.Path.{◌≡◌, refl, ap, sym, subst, ◌∙◌}
use mathlib.Core.Bool.{Bool, true, false}
use mathlib.Core.List.{List, [], ◌∷◌, ◌++◌, append-nil}
use native.Mathlib.Omega.{arith}
use borrow.Author.Tests.{eqb-true}
use lib.Dec.{eqb}
use lib.ListN.{length, take, drop, length-take}
use lib.Seq.{take-add, take-suc}
use Rattle.notation.specs.Choice.{when◌then◌else◌}
use Rattle.notation.specs.Text.{ascii}
use Rattle.notation.specs.Answers.{answer}
use Rattle.notation.proofs.Tests.{fails_exactly}
use Rattle.notation.specs.Several.{any}
use Rattle.op.specs.declared.Op.{Op}
use Rattle.list.specs.Lists.{plan_of, end_of}
use Rattle.list.proofs.Building.{ops-of}
use Rattle.block_read.specs.Fields.{byte_at}
use Rattle.block_read.specs.Block.{paper, version_of, head_of, read_of}
use Rattle.block_read.specs.Refusals.{AllStand, Known, behind, GoodHead, FalseEnd}
use Rattle.block_read.specs.declared.Block.{Block}
use Rattle.block_read.proofs.Exactly.{exactly}
use Rattle.block_read.proofs.Judging.{is-done, used-fits}
use Rattle.block_read.proofs.Lawfulness.{lawful}
use Rattle.block_read.proofs.Versions.{eight, truly-told}
use Rattle.block_read.proofs.Ways.{all_fit}
use Rattle.block_write.specs.Bytes.{u16_bytes, joined, op_bytes, end_bytes, head_bytes, block_of}
use Rattle.block_write.specs.Writing.{bad_op, bad_list, writing_of, left_by, left_of}
use Rattle.block_write.specs.Refusals.{RetiredList}
use Rattle.block_write.specs.Writing.{Writing}
use Rattle.block_write.proofs.Badness.{bad_exactly}
use Rattle.block_write.proofs.Exactly.{zero-exactly}
use Rattle.block_write.proofs.Sorting.{is_whole}
use Rattle.theorem_roundtrip.specs.Typed.{AreBytes}
use Rattle.theorem_roundtrip.proofs.Values.{bytes_drop}
use Rattle.theorem_roundtrip.proofs.Ops.{ops-written}
use Rattle.theorem_roundtrip.proofs.Words.{u16_bytes_lem}

-- the mark, the version, the start width and the count of a good head, written again
front-written : (s : List ℕ) → AreBytes s → GoodHead s → ascii "CTP" ++ (u16_bytes (version_of s) ++ (byte_at s 5 ∷ byte_at s 6 ∷ [])) ≡ take 7 s
front-written [] b g = absurd (omega (arith, g.whole))
front-written (m₁ ∷ []) b g = absurd (omega (arith, g.whole))
front-written (m₁ ∷ m₂ ∷ []) b g = absurd (omega (arith, g.whole))
front-written (m₁ ∷ m₂ ∷ m₃ ∷ []) b g = absurd (omega (arith, g.whole))
front-written (m₁ ∷ m₂ ∷ m₃ ∷ v₁ ∷ []) b g = absurd (omega (arith, g.whole))
front-written (m₁ ∷ m₂ ∷ m₃ ∷ v₁ ∷ v₂ ∷ []) b g = absurd (omega (arith, g.whole))
front-written (m₁ ∷ m₂ ∷ m₃ ∷ v₁ ∷ v₂ ∷ w ∷ []) b g = absurd (omega (arith, g.whole))
front-written (m₁ ∷ m₂ ∷ m₃ ∷ v₁ ∷ v₂ ∷ w ∷ n ∷ s) b g =
    ap (λ (l : List ℕ). l ++ (u16_bytes (v₁ + 0x100 * v₂) ++ (w ∷ n ∷ []))) (sym g.mark.0)
    ∙ ap (λ (l : List ℕ). m₁ ∷ m₂ ∷ m₃ ∷ (l ++ (w ∷ n ∷ []))) (u16_bytes_lem v₁ v₂ (b 3) (b 4))

module _ (s : List ℕ) (b : AreBytes s) where
  -- and the end width behind them, where the version has one
  end-written : (end : ℕ) → GoodHead s → (version_of s ≡ 2 → byte_at s 7 ≡ end) → take 7 s ++ end_bytes (version_of s) end ≡ take (head_of (version_of s)) s
  end-written end g told = by (eqb (version_of s) 2) refl
    where
      by : (c : Bool) → eqb (version_of s) 2 ≡ c → take 7 s ++ (when c then end ∷ [] else []) ≡ take (when c then 8 else 7) s
      by true e =
          let v = eqb-true (version_of s) 2 e in
          let h : 7 < length s = omega (arith, g.all, eight (version_of s) v) in
          rw (take-suc s 7 0 h, told v)
      by false e = append-nil (take 7 s)

  again : {os : List Op} {n : ℕ} → GoodHead s → AllStand (byte_at s 6) (behind s) os n → ¬ FalseEnd s os
      → block_of (version_of s) (plan_of (byte_at s 5) os) ≡ take (head_of (version_of s) + n) s
  again {os} {n} g a t =
      let h = head_of (version_of s) in
      let end = end_of (byte_at s 5) (byte_at s 6) os in
      ap (λ (l : List Op). head_bytes (version_of s) (plan_of (byte_at s 5) os) ++ joined op_bytes l) (ops-of (byte_at s 5) os)
      ∙ ap (λ (k : ℕ). ((ascii "CTP" ++ (u16_bytes (version_of s) ++ (byte_at s 5 ∷ k ∷ []))) ++ end_bytes (version_of s) (end_of (byte_at s 5) k os)) ++ joined op_bytes os) (all_fit a).0
      ∙ ap (λ (l : List ℕ). (l ++ end_bytes (version_of s) end) ++ joined op_bytes os) (front-written s b g)
      ∙ ap (λ (l : List ℕ). l ++ joined op_bytes os) (end-written end g (truly-told (version_of s) (byte_at s 7) end t))
      ∙ ap (λ (l : List ℕ). take h s ++ l) (ops-written (bytes_drop h s b) a).bytes
      ∙ sym (take-add h n s)

module _ (s : List ℕ) (b : AreBytes s) (e : paper (read_of s).answer ≡ answer 0 0 0) where
  rewritten : block_of (read_of s).version (read_of s).plan ≡ take (read_of s).used s
  rewritten =
      let w = (exactly s (Ok tt)).0 e in
      let d = is-done s w.0 w.1.all w.2 in
      ap (λ (x : Block). block_of x.version x.plan) d ∙ again s b w.0 w.1.all w.2 ∙ sym (ap (λ (x : Block). take x.used s) d)

  -- the bytes of the list, in the block's own version, are the block's
  pub same_bytes : block_of (read_of s).version (read_of s).plan ≡ take (read_of s).used s
  same_bytes = rewritten

  known : Known (read_of s).version
  known =
      let w = (exactly s (Ok tt)).0 e in
      subst Known (sym (ap (λ (x : Block). x.version) (is-done s w.0 w.1.all w.2))) w.0.mark.1

  good : bad_list (read_of s).plan ≡ false
  good =
      let w = (exactly s (Ok tt)).0 e in
      ap (λ (x : Block). bad_list x.plan) (is-done s w.0 w.1.all w.2)
      ∙ ap (any bad_op) (ops-of (byte_at s 5) w.1.ops)
      ∙ (ops-written (bytes_drop (head_of (version_of s)) s b) w.1.all).good

  long : length (block_of (read_of s).version (read_of s).plan) ≡ (read_of s).used
  long = ap length rewritten ∙ omega (arith, length-take (read_of s).used s, used-fits s)

  module _ (no-retired : ¬ RetiredList (read_of s).plan) (old : List ℕ) (room : (read_of s).used ≤ length old) where
    -- it is written, with the length that was read
    pub written-again : writing_of (read_of s).plan (read_of s).version (length old) ≡ Ok (read_of s).used
    written-again =
        let p = (read_of s).plan in
        let v = (read_of s).version in
        is_whole p v (length old) ((zero-exactly p v (length old)).1 (lawful s e, known, (fails_exactly (bad_exactly p)).0 good, no-retired, omega (arith, long))) ∙ ap Ok long

    -- the same block, and behind it the buffer as it was
    pub same_block : left_of (read_of s).plan (read_of s).version old ≡ take (read_of s).used s ++ drop (read_of s).used old
    same_block =
        rw (← rewritten) (ap (λ (w : Writing). left_by w (block_of (read_of s).version (read_of s).plan) old) written-again)
