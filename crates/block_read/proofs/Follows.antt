-- What follows a block does not change what is read, and is handed back.
-- The head and each op are read from their own bytes alone.
use Rattle.std.specs.Prelude.{Ok}
use Prim.Native.Nat.{ℕ, suc, ◌+◌, ◌-◌, ◌≤◌}
use mathlib.Core.Path.{◌≡◌, sym, ap, subst, ◌∙◌}
use mathlib.Core.List.{List, ◌∷◌, ◌++◌}
use native.Mathlib.Omega.{arith}
use lib.ListN.{length, take, drop, length-take}
use lib.Seq.{take-take, take-append-le, drop-append-le, drop_at}
use Rattle.notation.specs.Answers.{answer}
use Rattle.op.specs.declared.Op.{Op}
use Rattle.block_read.specs.Fields.{byte_at, payload_of, op_read}
use Rattle.block_read.specs.Block.{paper, version_of, head_of, ops, listed, read_of}
use Rattle.block_read.specs.Refusals.{stands, AllStand, none, more, behind, GoodHead, FalseEnd}
use Rattle.block_read.specs.declared.Block.{Block}
use Rattle.block_read.proofs.Exactly.{exactly}
use Rattle.block_read.proofs.Heads.{drop-take, head_byte, head-version, same_head, same_end, same_op}
use Rattle.block_read.proofs.Judging.{is-done, used-fits}

-- the first p bytes, and those behind them, of p + m bytes and what follows
module _ (p m : ℕ) (s t : List ℕ) (h : p ≤ length s) where
  room : p ≤ length (take (p + m) s)
  room = omega (arith, h, length-take (p + m) s)

  front : take p (take (p + m) s ++ t) ≡ take p s
  front = take-append-le p (take (p + m) s) t room ∙ take-take p (p + m) s (omega arith)

  past : drop p (take (p + m) s ++ t) ≡ take m (drop p s) ++ t
  past =
      let e : p + m - p ≡ m = omega arith in
      drop-append-le p (take (p + m) s) t room ∙ ap (λ (l : List ℕ). l ++ t) (drop-take p (p + m) s ∙ ap (λ (k : ℕ). take k (drop p s)) e)

still : {n : ℕ} {s : List ℕ} {os : List Op} {m : ℕ} (t : List ℕ) → AllStand n s os m → AllStand n (take m s ++ t) os m
still t none = none
still t (more {n = n} {os = os} {m = m} (stands {kind} {s} known room good) a) =
    let p = payload_of kind in
    let e : suc p + m ≡ suc (p + m) = omega arith in
    let rest = subst (λ (l : List ℕ). AllStand n l os m) (sym (past p m s t room)) (still t a) in
    subst (λ (k : ℕ). AllStand (suc n) (take k (kind ∷ s) ++ t) (op_read kind (take p s) ∷ os) (suc p + m)) (sym e)
    (more (same_op kind s (take (p + m) s ++ t) (front p m s t room) known room good) rest)

module _ (s t : List ℕ) (e : paper (read_of s).answer ≡ answer 0 0 0) where
  pub follows : read_of (take (read_of s).used s ++ t) ≡ read_of s
  follows =
      let w = (exactly s (Ok tt)).0 e in
      let d = is-done s w.0 w.1.all w.2 in
      ap (λ (b : Block). read_of (take b.used s ++ t)) d ∙ again w.0 w.1.all w.2 ∙ sym d
    where
      again : {os : List Op} {n : ℕ} → GoodHead s → AllStand (byte_at s 6) (behind s) os n → ¬ FalseEnd s os
          → read_of (take (head_of (version_of s) + n) s ++ t) ≡ listed (version_of s) (byte_at s 5) (ops os n)
      again {os} {n} g a fine =
          let h = head_of (version_of s) in
          let u = take (h + n) s ++ t in
          let f = front h n s t g.all in
          let v = head-version s u f in
          let ends : AllStand (byte_at u 6) (drop h u) os n = rw (head_byte s u f 6 (omega arith), past h n s t g.all) (still t a) in
          is-done u (same_head s u f g) (subst (λ (v : ℕ). AllStand (byte_at u 6) (drop (head_of v) u) os n) (sym v) ends) (λ x. fine (same_end s u f os x))
          ∙ ap (λ (w : ℕ). listed (version_of u) w (ops os n)) (head_byte s u f 5 (omega arith))
          ∙ ap (λ (v : ℕ). listed v (byte_at s 5) (ops os n)) v

  pub hands-back : drop (read_of s).used (take (read_of s).used s ++ t) ≡ t
  hands-back = drop_at (take (read_of s).used s) t (read_of s).used (omega (arith, length-take (read_of s).used s, used-fits s))
