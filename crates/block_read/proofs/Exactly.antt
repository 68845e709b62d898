-- When each answer is given, and with what.
-- Every slice is judged in one way (Judging), and no two readings have one answer of the paper.
use Rattle.std.specs.Prelude.{Ok, Err}
use Prim.Native.Nat.{ℕ}
use mathlib.Core.Path.{◌≡◌, refl, sym, ap, subst, ◌∙◌}
use mathlib.Core.Logic.{◌↔◌}
use mathlib.Core.List.{List}
use native.Mathlib.Omega.{arith}
use lib.Dec.{eqb}
use Rattle.notation.specs.Choice.{when◌then◌else◌}
use Rattle.notation.specs.Answers.{answer}
use Rattle.notation.specs.declared.Answer.{Answer}
use Rattle.list.specs.Lists.{ops_of}
use Rattle.op.specs.declared.Op.{Op}
use Rattle.list.proofs.Building.{ops-of}
use Rattle.block_read.specs.Fields.{byte_at}
use Rattle.block_read.specs.Block.{paper, refused_by, version_of, ops, listed, read_of}
use Rattle.block_read.specs.Refusals.{AllStand, behind, GoodHead, FalseEnd, Standing, Given}
use Rattle.block_read.specs.Block.{Reading}
use Rattle.block_read.specs.declared.ReadError.TheVariants.{Short, WrongMark, BadOp, Malformed}
use Rattle.block_read.specs.declared.Block.{Block}
use Rattle.block_read.proofs.Judging.{Judged, short, wrong, no_end, malformed, early, unreadable, false_end, done, judged, given, is-given, is-done}

-- each answer of the paper is given for one reading
one_answer : (a b : Reading) → paper a ≡ paper b → a ≡ b
one_answer a b e = sym (back-paper a) ∙ ap back e ∙ back-paper b
  where
    back : Answer → Reading
    back x = when eqb x.number 7 then (Err Short) else when eqb x.number 8 then (Err WrongMark) else when eqb x.number 9 then (Err BadOp) else when eqb x.number 10 then (Err Malformed) else Ok tt

    back-paper : (a : Reading) → back (paper a) ≡ a
    back-paper (Ok tt) = refl
    back-paper (Err Short) = refl
    back-paper (Err WrongMark) = refl
    back-paper (Err BadOp) = refl
    back-paper (Err Malformed) = refl

module _ (s : List ℕ) where
  -- 0, 7, 8, 9 and 10 are each given exactly when 01's words for it hold
  pub exactly : (a : Reading) → (paper (read_of s).answer ≡ paper a) ↔ Given a s
  exactly a = (λ e. subst (λ (x : Reading). Given x s) (one_answer (read_of s).answer a e) (given s (judged s)), λ w. ap paper (is-given s a w))

  -- a list is read exactly where the head is good, its ops stand one after the other, and the end width that is told for them is not false;
  -- it is the list of these ops, in the block's version
  pub read-exactly : (os : List Op) (n : ℕ) → (read_of s ≡ listed (version_of s) (byte_at s 5) (ops os n)) ↔ (GoodHead s × AllStand (byte_at s 6) (behind s) os n × (¬ FalseEnd s os))
  read-exactly os n = (
    λ e. let w = (exactly (Ok tt)).0 (ap (λ (b : Block). paper b.answer) e) in
        let a = same w.1 w.2 (sym (is-done s w.0 w.1.all w.2) ∙ e) in
        (w.0, a.0, a.1),
    λ w. is-done s w.0 w.1 w.2,
  )
    where
      same : (a : Standing s) → ¬ FalseEnd s a.ops → listed (version_of s) (byte_at s 5) (ops a.ops a.size) ≡ listed (version_of s) (byte_at s 5) (ops os n)
          → AllStand (byte_at s 6) (behind s) os n × (¬ FalseEnd s os)
      same a t e =
          let f : a.ops ≡ os = sym (ops-of (byte_at s 5) a.ops) ∙ ap (λ (b : Block). ops_of b.plan) e ∙ ops-of (byte_at s 5) os in
          let h = ap (λ (b : Block). b.used) e in
          let g : a.size ≡ n = omega arith in
          rw (← f, ← g) (a.all, t)

  -- a refusal gives "empty list, width 0; rest is the caller's whole slice"
  pub refused-gives-nothing : ¬ (paper (read_of s).answer ≡ answer 0 0 0) → read_of s ≡ refused_by (read_of s).answer
  refused-gives-nothing n = by (judged s) n
    where
      by : {b : Block} → Judged s b → ¬ (paper b.answer ≡ answer 0 0 0) → b ≡ refused_by b.answer
      by (short h) n = refl
      by (wrong h m) n = refl
      by (malformed h m l u) n = refl
      by (no_end h m l) n = refl
      by (early g m) n = refl
      by (unreadable g m) n = refl
      by (false_end g a f) n = refl
      by (done g a t) n = absurd (n refl)
