-- "Strips may be of any length, zero too, and three equally long channels, cut anywhere at the same places, must end with the samples and width
-- that a single run gives" (02, W1); refused strips between them change nothing; and demand 3 over the accepted strips joined.
use Rattle.std.specs.Prelude.{Ok}
use Prim.Native.Nat.{ℕ}
use mathlib.Core.Path.{◌≡◌, ap, refl, sym, ◌∙◌}
use mathlib.Core.Bool.{true}
use mathlib.Core.List.{List, [], ◌∷◌, map}
use Rattle.notation.specs.Answers.{answer}
use Rattle.channels.specs.Channels.{Channels}
use Rattle.channels.specs.Joined.{join_all}
use Rattle.bad_samples.specs.Bad.{count_of}
use Rattle.list.specs.Lists.{appended}
use Rattle.list.specs.declared.Plan.{Plan}
use Rattle.list.proofs.Exactly.{passes-exactly}
use Rattle.run_check.specs.Judging as Judging
use Rattle.run_check.specs.Judging.{Judgement}
use Rattle.run_check.proofs.Exactly.{zero-exactly as judged_exactly}
use Rattle.run_check.proofs.Judged.{Words, is-given}
use Rattle.run.specs.Reach.{Agree}
use Rattle.run.specs.Refusals as Run
use Rattle.run.specs.Report.{bad_after, reported_of}
use Rattle.run.specs.Run.{ran_of}
use Rattle.run.specs.Refusals.{Outcome}
use Rattle.run.proofs.Reaches.{depends-within as run_depends}
use Rattle.run_strips.specs.Machine.{close_of, paper, strip_by, sum_by}
use Rattle.run_strips.specs.Calls.{AllEquallyLong, accepted, accepted_left, after, after_all, closes, gives, left_all, opens, told}
use Rattle.run_strips.specs.declared.State.{State}
use Rattle.run_strips.proofs.Keeping.{kept-ran, kept-ready, reaches}
use Rattle.run_strips.proofs.Sums.{summed}
use Rattle.run_strips.proofs.Strips.{accepted-even, all_accepted, all_left, joined-run, stays}

module _ (z : State) (p : Plan) (w : ℕ) (accepts : Judging.paper (Judging.judge_of p) ≡ answer 0 0 w) where
  words : Words p (Ok w)
  words = (judged_exactly p w).0 accepts

  abbrev run-open : State
  run-open = record { plan = appended p []; bad = 0 }

  opened : after z (opens p) ≡ run-open
  opened = rw (is-given p (Ok w) words)

  -- the accepted strips joined end with the samples of a single run, wherever refused ones stand between them
  pub strips-run : (ss : List Channels) → join_all (accepted_left (after z (opens p)) ss) ≡ ran_of p (join_all (accepted ss))
  strips-run ss =
      rw opened (joined-run (appended p []) w (kept-ready p w words) run-open refl ss ∙ kept-ran p w words (join_all (accepted ss)) (accepted-even ss))

  -- the list at the close is the one that was opened with
  at-close : (ss : List Channels) → (after_all z (opens p ∷ map gives ss)).plan ≡ appended p []
  at-close ss = stays (after z (opens p)) ss ∙ ap (λ (y : State). y.plan) opened

  reached : (ss : List Channels) → Run.outcome_of p (join_all (accepted ss)) ≡ Ok w
  reached ss = sym (reaches p w (is-given p (Ok w) words) (join_all (accepted ss)) (accepted-even ss))

  -- and the close answers the width that it reports
  pub close-tells : (ss : List Channels) → told (after_all z (opens p ∷ map gives ss)) closes ≡ Run.paper (Run.outcome_of p (join_all (accepted ss)))
  close-tells ss =
      ap (λ (q : Plan). paper (strip_by (Judging.judge_of q) true)) (at-close ss)
      ∙ ap (λ (j : Judgement). paper (strip_by j true)) (kept-ready p w words)
      ∙ ap Run.paper (sym (reached ss))

  -- "the close the sum over the accepted strips" (02, W4): it reports as many bad samples as the single run does
  pub close-counts : (ss : List Channels) → (close_of (after_all z (opens p ∷ map gives ss))).bad ≡ (reported_of p (join_all (accepted ss))).bad
  close-counts ss =
      let sum = (after_all z (opens p ∷ map gives ss)).bad in
      ap (λ (q : Plan). sum_by (strip_by (Judging.judge_of q) true) sum) (at-close ss)
      ∙ ap (λ (j : Judgement). sum_by (strip_by j true) sum) (kept-ready p w words)
      ∙ ap (λ (y : State). (after_all y (map gives ss)).bad) opened
      ∙ summed (appended p []) w (kept-ready p w words) run-open refl refl ss
      ∙ ap (λ (t : Channels). count_of w t) (ap (λ (y : State). join_all (accepted_left y ss)) (sym opened) ∙ strips-run ss)
      ∙ ap (λ (o : Outcome). bad_after o (ran_of p (join_all (accepted ss)))) (sym (reached ss))

  -- three equally long channels, cut anywhere at the same places
  pub cut-anywhere : (ss : List Channels) → AllEquallyLong ss → join_all (left_all (after z (opens p)) ss) ≡ ran_of p (join_all ss)
  cut-anywhere ss e = rw (← all_left (after z (opens p)) e) (strips-run ss) ∙ ap (λ (ts : List Channels). ran_of p (join_all ts)) (all_accepted e)

  -- two deliveries whose accepted strips joined agree within the starting width end with joined channels that agree within the closing width
  pub depends-within : (ss ts : List Channels) → Agree p.start (join_all (accepted ss)) (join_all (accepted ts))
      → Agree w (join_all (accepted_left (after z (opens p)) ss)) (join_all (accepted_left (after z (opens p)) ts))
  depends-within ss ts h =
      rw (strips-run ss, strips-run ts)
      (run_depends p w ((passes-exactly p w).1 (words.0, words.1)) words.2 (join_all (accepted ss)) (join_all (accepted ts)) (accepted-even ss) (accepted-even ts) h)
