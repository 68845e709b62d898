-- With a list that can be run, the accepted strips, joined as they are left, are what a single run makes of them joined.
-- By induction on the strips: ops run on joined channels as on each by itself.
use Rattle.std.specs.Prelude.{Ok, Err}
use Prim.Native.Nat.{ℕ}
use mathlib.Core.Path.{◌≡◌, ap, refl, sym, ◌∙◌}
use mathlib.Core.Bool.{Bool, true, false}
use mathlib.Core.List.{List, [], ◌∷◌, map}
use Rattle.notation.specs.Choice.{when◌then◌else◌}
use Rattle.channels.specs.Channels.{Channels, EquallyLong, equally_long}
use Rattle.channels.specs.Joined.{join, join_all}
use Rattle.channels.proofs.Lengths.{equal_exactly}
use Rattle.channels.proofs.Joining.{join-even}
use Rattle.list.specs.Lists.{ops_of}
use Rattle.list.specs.declared.Plan.{Plan}
use Rattle.run_check.specs.Judging.{judge_of}
use Rattle.run.specs.Run.{ran_of, run_ops}
use Rattle.run.proofs.Joining.{ops-join, ops-none}
use Rattle.run_strips.specs.Calls.{AllEquallyLong, accepted, accepted_left, after, after_all, gives, left_all, none, more}
use Rattle.run_strips.specs.Machine.{after_by, answer_of, left_of}
use Rattle.run_strips.specs.Machine.{Stripping}
use Rattle.run_strips.specs.declared.StripError.TheVariants.{NotOpen, Unequal}
use Rattle.run_strips.specs.declared.State.{State}
use Rattle.run_strips.proofs.Keeping.{ran}

-- accepted strips are equally long, and so are they joined
pub accepted-even : (ss : List Channels) → EquallyLong (join_all (accepted ss))
accepted-even [] = (refl, refl)
accepted-even (s ∷ ss) = by (equally_long s) refl (accepted-even ss)
  where
    by : (b : Bool) → equally_long s ≡ b → EquallyLong (join_all (accepted ss)) → EquallyLong (join_all (accepted (s ∷ ss)))
    by true e rest = rw e (join-even s (join_all (accepted ss)) ((equal_exactly s).0 e) rest)
    by false e rest = rw e rest

-- where all are equally long, all are accepted
pub all_accepted : {ss : List Channels} → AllEquallyLong ss → accepted ss ≡ ss
all_accepted none = refl
all_accepted (more {s} {ss} e es) = rw ((equal_exactly s).1 e, all_accepted es)

pub all_left : (z : State) {ss : List Channels} → AllEquallyLong ss → accepted_left z ss ≡ left_all z ss
all_left z none = refl
all_left z (more {s} {ss} e es) =
    let rest = accepted_left (after z (gives s)) ss in
    ap (λ (b : Bool). when b then left_of z s ∷ rest else rest) ((equal_exactly s).1 e)
    ∙ ap (λ (l : List Channels). left_of z s ∷ l) (all_left (after z (gives s)) es)

-- strips leave the run's list as it was
plan-by : (z : State) (e : Stripping) (left : Channels) → (after_by z e left).plan ≡ z.plan
plan-by z (Ok w) left = refl
plan-by z (Err NotOpen) left = refl
plan-by z (Err Unequal) left = refl

pub plan-stays : (z : State) (s : Channels) → (after z (gives s)).plan ≡ z.plan
plan-stays z s = plan-by z (answer_of z s) (left_of z s)

pub stays : (z : State) (ss : List Channels) → (after_all z (map gives ss)).plan ≡ z.plan
stays z [] = refl
stays z (s ∷ ss) = stays (after z (gives s)) ss ∙ plan-stays z s

module _ (p : Plan) (w : ℕ) (ready : judge_of p ≡ Ok w) where
  abbrev ops : Channels → Channels
  ops = run_ops p.start (ops_of p)

  -- what the ops make of the accepted strips joined is what they make of each
  joined-ops : (z : State) → z.plan ≡ p → (ss : List Channels) → join_all (accepted_left z ss) ≡ ops (join_all (accepted ss))
  joined-ops z h [] = sym (ops-none p.start (ops_of p))
  joined-ops z h (s ∷ ss) = by (equally_long s) refl (joined-ops (after z (gives s)) (plan-stays z s ∙ h) ss)
    where
      by : (b : Bool) → equally_long s ≡ b → join_all (accepted_left (after z (gives s)) ss) ≡ ops (join_all (accepted ss))
          → join_all (accepted_left z (s ∷ ss)) ≡ ops (join_all (accepted (s ∷ ss)))
      by true e rest =
          let l = (equal_exactly s).0 e in
          let left = accepted_left (after z (gives s)) ss in
          ap (λ (b : Bool). join_all (when b then left_of z s ∷ left else left)) e
          ∙ ap (λ (t : Channels). join t (join_all left)) (ap (λ (q : Plan). ran_of q s) h ∙ sym (ran p w ready s l))
          ∙ ap (λ (t : Channels). join (ops s) t) rest
          ∙ sym (ops-join p.start (ops_of p) s (join_all (accepted ss)) l)
          ∙ ap (λ (b : Bool). ops (join_all (when b then s ∷ accepted ss else accepted ss))) (sym e)
      by false e rest =
          let left = accepted_left (after z (gives s)) ss in
          ap (λ (b : Bool). join_all (when b then left_of z s ∷ left else left)) e
          ∙ rest
          ∙ ap (λ (b : Bool). ops (join_all (when b then s ∷ accepted ss else accepted ss))) (sym e)

  pub joined-run : (z : State) → z.plan ≡ p → (ss : List Channels) → join_all (accepted_left z ss) ≡ ran_of p (join_all (accepted ss))
  joined-run z h ss = joined-ops z h ss ∙ ran p w ready (join_all (accepted ss)) (accepted-even ss)
