-- What each judgement says of the list, in words; that one of these holds of every list, and that it is then the one that is given.
-- By the width check's three cases, and of a list that passes by whether its ops are carried.
use Rattle.std.specs.Prelude.{Ok, Err}
use Prim.Native.Nat.{ℕ, ◌+◌}
use mathlib.Core.Path.{◌≡◌, refl}
use mathlib.Core.Logic.{⊎_elim}
use native.Mathlib.Omega.{arith}
use lib.Dec.{eqb}
use Rattle.notation.specs.Choice.{when◌then◌else◌}
use Rattle.notation.specs.declared.Answer.{Answer}
use Rattle.list.specs.Lists.{ops_of, Lawful, Unlawful}
use Rattle.list.specs.Fits.{Fits, FailsAt}
use Rattle.list.specs.declared.Plan.{Plan}
use Rattle.list.proofs.Fitting.{fits-passes, fails_misfit}
use Rattle.list.proofs.Formed.{lawful-exactly, unlawful-exactly}
use Rattle.list.proofs.Judging as Check
use Rattle.run_check.specs.Carried.{AllCarried, UncarriedAt}
use Rattle.run_check.specs.Judging.{paper, judge_of}
use Rattle.run_check.specs.Judging.{Judgement}
use Rattle.run_check.specs.declared.JudgeError.TheVariants.{Malformed, Misfit, NotCarried}
use Rattle.run_check.proofs.Carrying.{none_uncarried, first-uncarried, carried-or_not}

abbrev pub Words : Plan → Judgement → Type 0
Words p (Err Malformed) = Unlawful p
Words p (Err (Misfit i)) = Lawful p × FailsAt p.start (ops_of p) i
Words p (Err (NotCarried i)) = Lawful p × ((v : ℕ) × Fits p.start (ops_of p) v) × UncarriedAt (ops_of p) i
Words p (Ok w) = Lawful p × Fits p.start (ops_of p) w × AllCarried (ops_of p)

module _ (p : Plan) where
  pub some_words : (j : Judgement) × Words p j
  some_words = by (Check.judged p)
    where
      by : Check.Judged p → (j : Judgement) × Words p j
      by (Check.malformed u) = (Err Malformed, u)
      by (Check.failing {i} l f) = (Err (Misfit i), (l, f))
      by (Check.passing {v} l f) = ⊎_elim (λ c. (Ok v, (l, f, c))) (λ u. (Err (NotCarried u.0), (l, (v, f), u.1))) (carried-or_not (ops_of p))

  pub is-given : (j : Judgement) → Words p j → judge_of p ≡ j
  is-given (Err Malformed) u = rw ((unlawful-exactly p).1 u)
  is-given (Err (Misfit i)) g =
      let e : 0 + i ≡ i = omega arith in
      rw ((lawful-exactly p).1 g.0, fails_misfit 0 g.1, e)
  is-given (Err (NotCarried i)) g =
      let e : 0 + i ≡ i = omega arith in
      rw ((lawful-exactly p).1 g.0, fits-passes 0 g.1.1, first-uncarried 0 g.2, e)
  is-given (Ok w) g = rw ((lawful-exactly p).1 g.0, fits-passes 0 g.1, none_uncarried g.2 0)

-- a judgement is read back from 01's answer for it
abbrev pub back : Answer → Judgement
back a =
    when eqb a.number 10 then Err Malformed
    else when eqb a.number 5 then Err (Misfit a.position)
    else when eqb a.number 6 then Err (NotCarried a.position)
    else Ok a.width

pub reads-back : (j : Judgement) → back (paper j) ≡ j
reads-back (Ok w) = refl
reads-back (Err Malformed) = refl
reads-back (Err (Misfit i)) = refl
reads-back (Err (NotCarried i)) = refl
