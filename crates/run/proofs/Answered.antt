-- What each outcome says of the list and the channels, in words; that one of these holds of every run, and that it is then the one that is given.
-- By what is judged of the list, and by whether the channels are equally long.
use Rattle.std.specs.Prelude.{Ok, Err}
use Prim.Native.Nat.{ℕ}
use mathlib.Core.Path.{◌≡◌, refl, ◌∙◌}
use mathlib.Core.Bool.{Bool, true, false}
use lib.Dec.{eqb}
use Rattle.notation.specs.Choice.{when◌then◌else◌}
use Rattle.notation.specs.declared.Answer.{Answer}
use Rattle.notation.proofs.Tests.{fails_exactly}
use Rattle.channels.specs.Channels.{Channels, EquallyLong, equally_long}
use Rattle.channels.proofs.Lengths.{equal_exactly}
use Rattle.list.specs.Lists.{ops_of, Lawful, Unlawful}
use Rattle.list.specs.Fits.{Fits, FailsAt}
use Rattle.list.specs.declared.Plan.{Plan}
use Rattle.list.proofs.Formed.{never_both}
use Rattle.run_check.specs.Carried.{AllCarried, UncarriedAt}
use Rattle.run_check.specs.Judging.{judge_of}
use Rattle.run_check.specs.Judging.{Judgement}
use Rattle.run_check.specs.declared.JudgeError.TheVariants as Judge
use Rattle.run_check.proofs.Judged as Judged
use Rattle.run.specs.Refusals.{outcome_by, outcome_of, paper}
use Rattle.run.specs.Refusals.{Outcome}
use Rattle.run.specs.declared.RunError.TheVariants.{Malformed, Unequal, Misfit, NotCarried}

abbrev pub Words : Plan → Channels → Outcome → Type 0
Words p s (Err Malformed) = Unlawful p
Words p s (Err Unequal) = Lawful p × (¬ EquallyLong s)
Words p s (Err (Misfit i)) = Lawful p × EquallyLong s × FailsAt p.start (ops_of p) i
Words p s (Err (NotCarried i)) = Lawful p × EquallyLong s × ((v : ℕ) × Fits p.start (ops_of p) v) × UncarriedAt (ops_of p) i
Words p s (Ok w) = Lawful p × EquallyLong s × Fits p.start (ops_of p) w × AllCarried (ops_of p)

module _ (p : Plan) (s : Channels) where
  -- where the lengths are unequal and the list is not malformed
  uneven : (j : Judgement) → Judged.Words p j → Lawful p → outcome_by j false ≡ Err Unequal
  uneven (Err Judge.Malformed) u l = absurd (never_both p l u)
  uneven (Err (Judge.Misfit i)) g l = refl
  uneven (Err (Judge.NotCarried i)) g l = refl
  uneven (Ok w) g l = refl

  pub is-given : (o : Outcome) → Words p s o → outcome_of p s ≡ o
  is-given (Err Malformed) u = rw (Judged.is-given p (Err Judge.Malformed) u)
  is-given (Err Unequal) g =
      let j = Judged.some_words p in
      rw (Judged.is-given p j.0 j.1, (fails_exactly (equal_exactly s)).1 g.1) (uneven j.0 j.1 g.0)
  is-given (Err (Misfit i)) g = rw (Judged.is-given p (Err (Judge.Misfit i)) (g.0, g.2), (equal_exactly s).1 g.1)
  is-given (Err (NotCarried i)) g = rw (Judged.is-given p (Err (Judge.NotCarried i)) (g.0, g.2, g.3), (equal_exactly s).1 g.1)
  is-given (Ok w) g = rw (Judged.is-given p (Ok w) (g.0, g.2, g.3), (equal_exactly s).1 g.1)

  pub some_words : (o : Outcome) × Words p s o
  some_words = by (Judged.some_words p).0 (Judged.some_words p).1 (equally_long s) refl
    where
      by : (j : Judgement) → Judged.Words p j → (b : Bool) → equally_long s ≡ b → (o : Outcome) × Words p s o
      by (Err Judge.Malformed) u b e = (Err Malformed, u)
      by (Err (Judge.Misfit i)) g true e = (Err (Misfit i), (g.0, (equal_exactly s).0 e, g.1))
      by (Err (Judge.Misfit i)) g false e = (Err Unequal, (g.0, (fails_exactly (equal_exactly s)).0 e))
      by (Err (Judge.NotCarried i)) g true e = (Err (NotCarried i), (g.0, (equal_exactly s).0 e, g.1, g.2))
      by (Err (Judge.NotCarried i)) g false e = (Err Unequal, (g.0, (fails_exactly (equal_exactly s)).0 e))
      by (Ok w) g true e = (Ok w, (g.0, (equal_exactly s).0 e, g.1, g.2))
      by (Ok w) g false e = (Err Unequal, (g.0, (fails_exactly (equal_exactly s)).0 e))

-- from what the calls answer
pub by_calls : (p : Plan) (s : Channels) {j : Judgement} {same : Bool} {o : Outcome} → j ≡ judge_of p → same ≡ equally_long s → o ≡ outcome_by j same → o ≡ outcome_of p s
by_calls p s e f h = h ∙ rw (e, f)

-- an outcome is read back from 01's answer for it
abbrev pub back : Answer → Outcome
back a =
    when eqb a.number 10 then Err Malformed
    else when eqb a.number 4 then Err Unequal
    else when eqb a.number 5 then Err (Misfit a.position)
    else when eqb a.number 6 then Err (NotCarried a.position)
    else Ok a.width

pub reads-back : (o : Outcome) → back (paper o) ≡ o
reads-back (Ok w) = refl
reads-back (Err Malformed) = refl
reads-back (Err Unequal) = refl
reads-back (Err (Misfit i)) = refl
reads-back (Err (NotCarried i)) = refl
