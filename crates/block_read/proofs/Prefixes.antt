-- Every strict prefix of a block that is read is refused by 7.
-- Cut in the head it is under 7 bytes, or has no end width byte; cut in an op, that op ends early and those before it stand.
use Rattle.std.specs.Prelude.{Ok, Err}
use Prim.Native.Nat.{ℕ, zero, suc, ◌+◌, ◌-◌, ◌≤◌, ◌<◌}
use mathlib.Core.Path.{◌≡◌, sym, ap, subst}
use mathlib.Core.Logic.{inl, inr, ⊎_elim}
use mathlib.Core.List.{List}
use native.Mathlib.Omega.{arith}
use Rattle.binary32.proofs.Size.{split_le}
use lib.ListN.{length, take, drop, length-take}
use lib.Seq.{take-take}
use Rattle.notation.specs.Answers.{answer}
use Rattle.op.specs.declared.Op.{Op}
use Rattle.block_read.specs.Fields.{byte_at, payload_of}
use Rattle.block_read.specs.Block.{paper, version_of, head_of, read_of}
use Rattle.block_read.specs.Refusals.{EndsEarly, no_kind, short_payload, stands, AllStand, none, more, Met, RightMark, behind, GoodHead}
use Rattle.block_read.specs.declared.ReadError.TheVariants.{Short}
use Rattle.block_read.specs.declared.Block.{Block}
use Rattle.block_read.proofs.Exactly.{exactly}
use Rattle.block_read.proofs.Heads.{drop-take, reaches, same_version, same-mark, head_byte, head-version, same_head, same_op}
use Rattle.block_read.proofs.Judging.{is-done, is-given}
use Rattle.block_read.proofs.Ways.{met_first, met_later}

-- the cut falls into one of the ops
cut : {n : ℕ} {s : List ℕ} {os : List Op} {m : ℕ} → AllStand n s os m → (k : ℕ) → k < m → Met EndsEarly n (take k s)
cut none k h = absurd (omega arith)
cut (more (stands known room good) a) zero h = met_first no_kind
cut (more {n = n} {m = m} (stands {kind} {s} known room good) a) (suc j) h =
    ⊎_elim
    (λ l. met_later (same_op kind s (take j s) (take-take (payload_of kind) j s l) known room good) (subst (Met EndsEarly n) (sym (drop-take (payload_of kind) j s)) (cut a (j - payload_of kind) (omega arith))))
    (λ l. met_first (short_payload known (omega (arith, length-take j s))))
    (split_le (payload_of kind) j)

pub prefix_short : (s : List ℕ) (k : ℕ) → paper (read_of s).answer ≡ answer 0 0 0 → k < (read_of s).used → paper (read_of (take k s)).answer ≡ answer 7 0 0
prefix_short s k e h =
    let w = (exactly s (Ok tt)).0 e in
    let u : (read_of s).used ≡ head_of (version_of s) + w.1.size = ap (λ (b : Block). b.used) (is-done s w.0 w.1.all w.2) in
    ap paper (is-given (take k s) (Err Short) (⊎_elim
    (λ l. inr (⊎_elim (λ m. inr (in-ops w.0 w.1.all m (omega arith))) (λ m. inl (in_head w.0 l m)) (split_le (head_of (version_of s)) k)))
    (λ l. inl (omega (arith, length-take k s)))
    (split_le 7 k)))
  where
    in_head : GoodHead s → 7 ≤ k → k < head_of (version_of s) → (7 ≤ length (take k s)) × RightMark (take k s) × (length (take k s) < head_of (version_of (take k s)))
    in_head g l m =
        let e = take-take 7 k s l in
        let seven : 7 ≤ 7 = omega arith in (
          reaches 7 s (take k s) e g.whole,
          same-mark 7 s (take k s) e seven g.mark,
          subst (λ (v : ℕ). length (take k s) < head_of v) (sym (same_version 7 s (take k s) e seven)) (omega (arith, length-take k s)),
        )

    in-ops : {os : List Op} {n : ℕ} → GoodHead s → AllStand (byte_at s 6) (behind s) os n → head_of (version_of s) ≤ k → k < head_of (version_of s) + n
        → GoodHead (take k s) × Met EndsEarly (byte_at (take k s) 6) (behind (take k s))
    in-ops g a l h =
        let e = take-take (head_of (version_of s)) k s l in (
          same_head s (take k s) e g,
          subst (λ (v : ℕ). Met EndsEarly (byte_at (take k s) 6) (drop (head_of v) (take k s))) (sym (head-version s (take k s) e))
              (rw (head_byte s (take k s) e 6 (omega arith), drop-take (head_of (version_of s)) k s) (cut a (k - head_of (version_of s)) (omega arith))),
        )
