-- The words that a call leaves stand for the state that the machine's call leaves, so that what is proved of the machine is said of these calls.
-- An accepted opening keeps the list that was read, which is padded with Clip already; an accepted strip keeps its list; a close leaves none.
use Rattle.std.specs.Prelude.{Ok, Err}
use Prim.Native.Nat.{ℕ}
use mathlib.Core.Path.{◌≡◌, refl, ap, sym, ◌∙◌}
use mathlib.Core.Bool.{Bool, true, false}
use mathlib.Core.List.{List, []}
use native.Mathlib.Omega.{arith}
use lib.Dec.{eqb}
use lib.ListN.{get_or}
use Rattle.channels.specs.Channels.{Channels}
use Rattle.op.specs.declared.Op.{Op}
use Rattle.list.specs.Lists.{plan_of, appended}
use Rattle.list.specs.declared.Plan.{Plan}
use Rattle.list.proofs.Building.{as-it-is, ops-of}
use Rattle.list.proofs.Formed.{lawful-exactly}
use Rattle.run_check.specs.Judging as Judging
use Rattle.run_check.specs.Judging.{judge_of}
use Rattle.run_check.specs.Judging.{Judgement}
use Rattle.run_check.specs.declared.JudgeError.TheVariants.{Malformed, Misfit, NotCarried}
use Rattle.run_check.proofs.Exactly.{zero-exactly}
use Rattle.run_strips.specs.Machine.{paper, opened_by, open_of, answer_of, after_by, left_of, strip_of, close_of}
use Rattle.run_strips.specs.declared.State.{State}
use Rattle.run_strips.specs.Machine.{Stripping}
use Rattle.run_strips.specs.declared.StripError.TheVariants.{NotOpen, Unequal}
use Rattle.block_read.specs.Fields.{byte_at}
use Rattle.block_read.specs.Block.{read_of}
use Rattle.block_read.specs.declared.Block.{Block}
use Rattle.block_read.specs.Block.{Reading}
use Rattle.block_read.specs.declared.ReadError.TheVariants as R
use Rattle.block_read.proofs.Judging.{Judged, short, wrong, no_end, malformed, early, unreadable, false_end, done, judged}
use Rattle.c_strips.specs.BlockStrips.{state_by, state_of, no_run, words_of, open_by, open_words, strip_words}

-- ---- an opening

-- a list of some ops that can be run is kept as it is
kept : (start : ℕ) (os : List Op) (w : ℕ) → judge_of (plan_of start os) ≡ Ok w → plan_of start os ≡ appended (plan_of start os) []
kept start os w e =
    let p = plan_of start os in
    sym (ap (plan_of start) (ops-of start os)) ∙ as-it-is p ((lawful-exactly p).1 ((zero-exactly p w).0 (ap Judging.paper e)).0)

-- the words that opening with a list leaves, by what is read and judged of it
abbrev Stands : Reading → Plan → Judgement → Type 0
Stands r p j =
    let words = words_of (open_by r j).number (opened_by p j).bad no_run in
    state_by p (get_or words 0 0) (get_or words 1 0) ≡ opened_by p j

by_judgement : (start : ℕ) (os : List Op) (j : Judgement) → judge_of (plan_of start os) ≡ j → Stands (Ok tt) (plan_of start os) j
by_judgement start os (Ok w) e = ap (λ (q : Plan). record { plan = q; bad = 0 }) (kept start os w e)
by_judgement start os (Err Malformed) e = refl
by_judgement start os (Err (Misfit i)) e = refl
by_judgement start os (Err (NotCarried i)) e = refl

module _ (bytes : List ℕ) where
  stands : {b : Block} → Judged bytes b → Stands b.answer b.plan (judge_of b.plan)
  stands (short h) = refl
  stands (wrong h m) = refl
  stands (no_end h m l) = refl
  stands (malformed h m l u) = refl
  stands (early g m) = refl
  stands (unreadable g m) = refl
  stands (false_end g a f) = refl
  stands (done g a t) = by_judgement (byte_at bytes 5) a.ops _ refl

  abbrev p : Plan
  p = (read_of bytes).plan

  -- "the words that an opening leaves stand for the state that the machine's opening leaves", whatever was open
  pub open-stands : (z : State) → state_of bytes (open_words bytes) ≡ (open_of z p).state
  open-stands z = stands (judged bytes)

  -- ---- a strip

  after-stands : (z : State) (words : List ℕ) → state_of bytes words ≡ z → (e : Stripping) (left : Channels) → ((w : ℕ) → e ≡ Ok w → p ≡ z.plan)
      → state_of bytes (words_of (paper e).number (after_by z e left).bad words) ≡ after_by z e left
  after-stands z words h (Ok w) left k = ap (λ (q : Plan). record { plan = q; bad = (after_by z (Ok w) left).bad }) (k w refl)
  after-stands z words h (Err NotOpen) left k = h
  after-stands z words h (Err Unequal) left k = h

  -- an accepted strip is one of the block's list
  open-list : (words : List ℕ) (s : Channels) (w : ℕ) → answer_of (state_of bytes words) s ≡ Ok w → p ≡ (state_of bytes words).plan
  open-list words s w = by (eqb (get_or words 0 0) 1) refl
    where
      by : (b : Bool) → eqb (get_or words 0 0) 1 ≡ b → answer_of (state_of bytes words) s ≡ Ok w → p ≡ (state_of bytes words).plan
      by true h e = rw h
      by false h e =
          let none : (Err NotOpen) ≡ answer_of (state_of bytes words) s = rw h in
          let n = ap (λ (r : Stripping). (paper r).number) (none ∙ e) in
          absurd (omega arith)

  pub strip-stands : (words : List ℕ) (s : Channels) → state_of bytes (strip_words bytes words s) ≡ (strip_of (state_of bytes words) s).state
  strip-stands words s =
      let z = state_of bytes words in
      after-stands z words refl (answer_of z s) (left_of z s) (open-list words s)

  -- ---- a close

  pub close-stands : (z : State) → state_of bytes no_run ≡ (close_of z).state
  close-stands z = refl
