-- Each answer of the reader is given where its words hold, and where its words hold it is given.
-- By the tests of the head, then by the ways of the ops, then by the end width that is told.
use Rattle.std.specs.Prelude.{Ok, Err}
use Prim.Native.Nat.{ℕ, ◌≤◌, ◌<◌}
use mathlib.Core.Path.{◌≡◌, refl, ap, ◌∙◌}
use mathlib.Core.Bool.{Bool, true, false, not, ◌&&◌, false≢true}
use mathlib.Core.Logic.{inl, inr, ⊎_elim, ◌↔◌}
use mathlib.Core.List.{List, [], ◌∷◌}
use native.Mathlib.Omega.{arith}
use borrow.Author.Tests.{eq-eqb, eqb-true, lt-ltb, le-ltb, ltb-true, ltb-false}
use lib.Dec.{eqb, ltb}
use lib.ListN.{length, take, length-drop}
use Rattle.notation.proofs.Tests.{fails_exactly}
use Rattle.list.specs.Lists.{well_formed, Unformed, end_of}
use Rattle.op.specs.declared.Op.{Op}
use Rattle.list.proofs.Formed.{formed-exactly, unformed-exactly}
use Rattle.block_read.specs.Fields.{byte_at}
use Rattle.block_read.specs.Block.{known_version, version_of, right_mark, head_of, refused_by, Ops, ops, ops_in, listed, end_told, read_behind, read_of}
use Rattle.block_read.specs.Refusals.{EndsEarly, Unreadable, AllStand, Met, RightMark, behind, GoodHead, FalseEnd, Standing, Given}
use Rattle.block_read.specs.Block.{Reading}
use Rattle.block_read.specs.declared.ReadError.TheVariants.{Short, WrongMark, BadOp, Malformed}
use Rattle.block_read.specs.declared.Block.{Block}
use Rattle.block_read.proofs.Versions.{known_exactly, false-exactly}
use Rattle.block_read.proofs.Ways.{Ways, ways, all_good, met_early, met_unreadable, all_fit}
use Rattle.block_read.proofs.Ways as W

-- the mark and the version
mark_exactly : (s : List ℕ) → 7 ≤ length s → (right_mark s ≡ true) ↔ RightMark s
mark_exactly [] h = absurd (omega arith)
mark_exactly (a ∷ []) h = absurd (omega arith)
mark_exactly (a ∷ b ∷ []) h = absurd (omega arith)
mark_exactly (a ∷ b ∷ c ∷ s) h =
    let v = version_of (a ∷ b ∷ c ∷ s) in
    (read (eqb a 0x43) (eqb b 0x54) (eqb c 0x50) (known_version v) refl refl refl refl, write)
  where
    read : (p q r t : Bool) → eqb a 0x43 ≡ p → eqb b 0x54 ≡ q → eqb c 0x50 ≡ r → known_version (version_of (a ∷ b ∷ c ∷ s)) ≡ t → (p && q && r && t) ≡ true → RightMark (a ∷ b ∷ c ∷ s)
    read true true true true w x y z e = (rw (eqb-true a 0x43 w, eqb-true b 0x54 x, eqb-true c 0x50 y), (known_exactly (version_of (a ∷ b ∷ c ∷ s))).0 z)
    read true true true false w x y z e = absurd (false≢true e)
    read true true false t w x y z e = absurd (false≢true e)
    read true false r t w x y z e = absurd (false≢true e)
    read false q r t w x y z e = absurd (false≢true e)

    write : RightMark (a ∷ b ∷ c ∷ s) → right_mark (a ∷ b ∷ c ∷ s) ≡ true
    write m =
        let at : (i : ℕ) → byte_at (take 3 (a ∷ b ∷ c ∷ s)) i ≡ byte_at (0x43 ∷ 0x54 ∷ 0x50 ∷ []) i = λ i. ap (λ (l : List ℕ). byte_at l i) m.0 in
        rw (eq-eqb a 0x43 (at 0), eq-eqb b 0x54 (at 1), eq-eqb c 0x50 (at 2)) ((known_exactly (version_of (a ∷ b ∷ c ∷ s))).1 m.1)

module _ (s : List ℕ) where
  pub data Judged : Block → Type 0 where
    short : length s < 7 → Judged (refused_by (Err Short))
    wrong : 7 ≤ length s → ¬ RightMark s → Judged (refused_by (Err WrongMark))
    no_end : 7 ≤ length s → RightMark s → length s < head_of (version_of s) → Judged (refused_by (Err Short))
    malformed : 7 ≤ length s → RightMark s → head_of (version_of s) ≤ length s → Unformed (byte_at s 5) (byte_at s 6) → Judged (refused_by (Err Malformed))
    early : GoodHead s → Met EndsEarly (byte_at s 6) (behind s) → Judged (refused_by (Err Short))
    unreadable : GoodHead s → Met Unreadable (byte_at s 6) (behind s) → Judged (refused_by (Err BadOp))
    false_end : GoodHead s → (a : Standing s) → FalseEnd s a.ops → Judged (refused_by (Err BadOp))
    done : GoodHead s → (a : Standing s) → ¬ FalseEnd s a.ops → Judged (listed (version_of s) (byte_at s 5) (ops a.ops a.size))

  -- what is answered behind a good head
  abbrev answered : Ops → Block
  answered x = end_told s (listed (version_of s) (byte_at s 5) x)

  -- whether the end width that is told for these ops is false
  abbrev is_false : List Op → Bool
  is_false os = eqb (version_of s) 2 && not (eqb (byte_at s 7) (end_of (byte_at s 5) (length os) os))

  false-told : {os : List Op} {n : ℕ} → AllStand (byte_at s 6) (behind s) os n → (is_false os ≡ true) ↔ FalseEnd s os
  false-told {os} a = rw (all_fit a).0 (false-exactly (version_of s) (byte_at s 7) (end_of (byte_at s 5) (byte_at s 6) os))

  pub judged : Judged (read_of s)
  judged = length-by (ltb (length s) 7) refl
    where
      end_by : GoodHead s → (a : Standing s) (b : Bool) → is_false a.ops ≡ b → Judged (answered (ops a.ops a.size))
      end_by g a true e = rw e (false_end g a ((false-told a.all).0 e))
      end_by g a false e = rw e (done g a ((fails_exactly (false-told a.all)).0 e))

      ops-by : {x : Ops} → GoodHead s → Ways (byte_at s 6) (behind s) x → Judged (answered x)
      ops-by g (W.Ways.early m) = early g m
      ops-by g (W.Ways.unreadable m) = unreadable g m
      ops-by g (W.Ways.good {os} {m} a) = end_by g (record { ops = os; size = m; all = a }) (is_false os) refl

      formed-by : 7 ≤ length s → RightMark s → head_of (version_of s) ≤ length s → (b : Bool) → well_formed (byte_at s 5) (byte_at s 6) ≡ b → Judged (read_behind (version_of s) s)
      formed-by h m k true e =
          rw e (ops-by (record { whole = h; mark = m; all = k; formed = (formed-exactly (byte_at s 5) (byte_at s 6)).0 e }) (ways (byte_at s 6) (behind s)))
      formed-by h m k false e = rw e (malformed h m k ((unformed-exactly (byte_at s 5) (byte_at s 6)).0 e))

      head-by : ltb (length s) 7 ≡ false → right_mark s ≡ true → (b : Bool) → ltb (length s) (head_of (version_of s)) ≡ b → Judged (read_of s)
      head-by l e true k =
          let h = ltb-false (length s) 7 l in
          rw (l, e, k) (no_end h ((mark_exactly s h).0 e) (ltb-true (length s) (head_of (version_of s)) k))
      head-by l e false k =
          let h = ltb-false (length s) 7 l in
          rw (l, e, k) (formed-by h ((mark_exactly s h).0 e) (ltb-false (length s) (head_of (version_of s)) k) (well_formed (byte_at s 5) (byte_at s 6)) refl)

      mark-by : ltb (length s) 7 ≡ false → (b : Bool) → right_mark s ≡ b → Judged (read_of s)
      mark-by l true e = head-by l e (ltb (length s) (head_of (version_of s))) refl
      mark-by l false e =
          let h = ltb-false (length s) 7 l in
          rw (l, e) (wrong h ((fails_exactly (mark_exactly s h)).0 e))

      length-by : (b : Bool) → ltb (length s) 7 ≡ b → Judged (read_of s)
      length-by true e = rw e (short (ltb-true (length s) 7 e))
      length-by false e = mark-by e (right_mark s) refl

  -- what is read behind a good head
  headed : GoodHead s → {x : Ops} → ops_in (byte_at s 6) (behind s) ≡ x → read_of s ≡ answered x
  headed g e =
      rw
      (le-ltb (length s) 7 g.whole, (mark_exactly s g.whole).1 g.mark, le-ltb (length s) (head_of (version_of s)) g.all, (formed-exactly (byte_at s 5) (byte_at s 6)).1 g.formed)
      (ap answered e)

  pub is-done : {os : List Op} {n : ℕ} → GoodHead s → AllStand (byte_at s 6) (behind s) os n → ¬ FalseEnd s os → read_of s ≡ listed (version_of s) (byte_at s 5) (ops os n)
  is-done g a t = headed g (all_good a) ∙ rw ((fails_exactly (false-told a)).1 t)

  pub is-given : (a : Reading) → Given a s → (read_of s).answer ≡ a
  is-given (Err Short) w =
      ⊎_elim
      (λ h. rw (lt-ltb (length s) 7 h))
      (⊎_elim
      (λ w. rw (le-ltb (length s) 7 w.0, (mark_exactly s w.0).1 w.1, lt-ltb (length s) (head_of (version_of s)) w.2))
      (λ w. ap (λ (b : Block). b.answer) (headed w.0 (met_early w.1))))
      w
  is-given (Err WrongMark) w = rw (le-ltb (length s) 7 w.0, (fails_exactly (mark_exactly s w.0)).1 w.1)
  is-given (Err Malformed) w =
      rw (le-ltb (length s) 7 w.0, (mark_exactly s w.0).1 w.1, le-ltb (length s) (head_of (version_of s)) w.2, (unformed-exactly (byte_at s 5) (byte_at s 6)).1 w.3)
  is-given (Err BadOp) w =
      ap (λ (b : Block). b.answer)
      (⊎_elim (λ m. headed w.0 (met_unreadable m)) (λ e. headed w.0 (all_good e.0.all) ∙ rw ((false-told e.0.all).1 e.1)) w.1)
  is-given (Ok tt) w = ap (λ (b : Block). b.answer) (is-done w.0 w.1.all w.2)

  pub given : {b : Block} → Judged b → Given b.answer s
  given (short h) = inl h
  given (no_end h m l) = inr (inl (h, m, l))
  given (early g m) = inr (inr (g, m))
  given (wrong h n) = (h, n)
  given (malformed h m l u) = (h, m, l, u)
  given (unreadable g m) = (g, inl m)
  given (false_end g a f) = (g, inr (a, f))
  given (done g a t) = (g, a, t)

  pub used-fits : (read_of s).used ≤ length s
  used-fits = by judged
    where
      by : {b : Block} → Judged b → b.used ≤ length s
      by (short h) = omega arith
      by (no_end h m l) = omega arith
      by (early g m) = omega arith
      by (wrong h n) = omega arith
      by (malformed h m l u) = omega arith
      by (unreadable g m) = omega arith
      by (false_end g a f) = omega arith
      by (done g a t) = omega (arith, g.all, (all_fit a.all).1, length-drop (head_of (version_of s)) s)
