-- When a strip is answered by 11, 4 and 0, and a close by 11 and 0. An opening is answered as the list is judged (`run_check`'s `Exactly`).
-- What is judged of the state's list decides, and then the lengths.
use Rattle.std.specs.Prelude.{Ok, Err}
use Prim.Native.Nat.{ℕ}
use mathlib.Core.Path.{◌≡◌, ap, refl, sym, ◌∙◌}
use mathlib.Core.Bool.{Bool, true, false, true≢false}
use mathlib.Core.List.{[]}
use mathlib.Core.Logic.{◌↔◌}
use native.Mathlib.Omega.{arith}
use lib.Dec.{eqb}
use Rattle.notation.specs.Choice.{when◌then◌else◌}
use Rattle.notation.specs.Answers.{answer}
use Rattle.notation.specs.declared.Answer.{Answer}
use Rattle.notation.proofs.Tests.{fails_exactly}
use Rattle.channels.specs.Channels.{Channels, EquallyLong, channels, equally_long}
use Rattle.channels.proofs.Lengths.{equal_exactly}
use Rattle.run_check.specs.Judging as Judging
use Rattle.run_check.specs.Judging.{judge_of}
use Rattle.run_check.specs.Judging.{Judgement}
use Rattle.run_check.specs.declared.JudgeError.TheVariants.{Malformed, Misfit, NotCarried}
use Rattle.run_check.proofs.Judged as Judged
use Rattle.run_check.proofs.Judged.{is-given}
use Rattle.run_check.proofs.Exactly.{zero-exactly as judged_exactly}
use Rattle.run_check.proofs.Telling.{told-exactly}
use Rattle.run_strips.specs.Machine.{paper, strip_by, strip_of, close_of}
use Rattle.run_strips.specs.Calls.{OpenAt}
use Rattle.run_strips.specs.declared.State.{State}
use Rattle.run_strips.specs.Machine.{Stripping}
use Rattle.run_strips.specs.declared.StripError.TheVariants.{NotOpen, Unequal}

-- what each answer says, in words
abbrev Words : State → Channels → Stripping → Type 0
Words z s (Ok w) = OpenAt z w × EquallyLong s
Words z s (Err NotOpen) = ¬ ((w : ℕ) × OpenAt z w)
Words z s (Err Unequal) = ((w : ℕ) × OpenAt z w) × (¬ EquallyLong s)

-- an answer is read back from 02's answer for it
abbrev back : Answer → Stripping
back a = when eqb a.number 11 then (Err NotOpen) else when eqb a.number 4 then (Err Unequal) else Ok a.width

reads-back : (e : Stripping) → back (paper e) ≡ e
reads-back (Ok w) = refl
reads-back (Err NotOpen) = refl
reads-back (Err Unequal) = refl

-- a list that is judged otherwise is no open run
not_open : (z : State) (j : Judgement) → judge_of z.plan ≡ j → ¬ ((Judging.paper j).number ≡ 0) → ¬ ((w : ℕ) × OpenAt z w)
not_open z j e n o = n (ap (λ (k : Judgement). (Judging.paper k).number) (sym e ∙ is-given z.plan (Ok o.0) o.1))

module _ (z : State) where
  module _ (s : Channels) where
    some_words : (e : Stripping) × Words z s e
    some_words = by (Judged.some_words z.plan) (equally_long s) refl
      where
        by : (j : Judgement) × Judged.Words z.plan j → (b : Bool) → equally_long s ≡ b → (e : Stripping) × Words z s e
        by (Ok w, g) true e = (Ok w, (g, (equal_exactly s).0 e))
        by (Ok w, g) false e = (Err Unequal, ((w, g), λ h. true≢false (sym ((equal_exactly s).1 h) ∙ e)))
        by (Err Malformed, g) b e = (Err NotOpen, not_open z (Err Malformed) (is-given z.plan (Err Malformed) g) (omega arith))
        by (Err (Misfit i), g) b e = (Err NotOpen, not_open z ((Err (Misfit i))) (is-given z.plan ((Err (Misfit i))) g) (omega arith))
        by (Err (NotCarried i), g) b e = (Err NotOpen, not_open z ((Err (NotCarried i))) (is-given z.plan ((Err (NotCarried i))) g) (omega arith))

    words-given : (e : Stripping) → Words z s e → (strip_of z s).answer ≡ e
    words-given (Ok w) g = rw (is-given z.plan (Ok w) g.0, (equal_exactly s).1 g.1)
    words-given (Err Unequal) g = rw (is-given z.plan (Ok g.0.0) g.0.1, (fails_exactly (equal_exactly s)).1 g.1)
    words-given (Err NotOpen) g = by (judge_of z.plan) refl
      where
        by : (j : Judgement) → judge_of z.plan ≡ j → strip_by j (equally_long s) ≡ Err NotOpen
        by (Ok w) e = absurd (g (w, (judged_exactly z.plan w).0 (ap Judging.paper e)))
        by (Err Malformed) e = refl
        by (Err (Misfit i)) e = refl
        by (Err (NotCarried i)) e = refl

    each-exactly : (e : Stripping) → (paper (strip_of z s).answer ≡ paper e) ↔ Words z s e
    each-exactly = told-exactly paper back reads-back (Words z s) some_words words-given

    -- 11 exactly where no run is open
    pub eleven-exactly : (paper (strip_of z s).answer ≡ answer 11 0 0) ↔ (¬ ((w : ℕ) × OpenAt z w))
    eleven-exactly = each-exactly (Err NotOpen)

    -- 4 exactly where a run is open and the lent lengths are unequal
    pub four-exactly : (paper (strip_of z s).answer ≡ answer 4 0 0) ↔ (((w : ℕ) × OpenAt z w) × (¬ EquallyLong s))
    four-exactly = each-exactly (Err Unequal)

    -- 0, with the width at which the run ends, exactly where one is open and the lengths are equal
    pub zero-exactly : (w : ℕ) → (paper (strip_of z s).answer ≡ answer 0 0 w) ↔ (OpenAt z w × EquallyLong s)
    zero-exactly w = each-exactly (Ok w)

  -- a close is answered as a strip without samples
  pub close-eleven-exactly : (paper (close_of z).answer ≡ answer 11 0 0) ↔ (¬ ((w : ℕ) × OpenAt z w))
  close-eleven-exactly = eleven-exactly (channels [] [] [])

  pub close-zero-exactly : (w : ℕ) → (paper (close_of z).answer ≡ answer 0 0 w) ↔ OpenAt z w
  close-zero-exactly w = (λ e. ((zero-exactly (channels [] [] []) w).0 e).0, λ o. (zero-exactly (channels [] [] []) w).1 (o, (refl, refl)))
