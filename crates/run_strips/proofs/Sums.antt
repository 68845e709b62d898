-- The sum that a run's state holds is the count of the accepted strips joined, held.
-- By induction on the strips: each accepted one adds its own count, and what was held may be held again.
use Rattle.std.specs.Prelude.{Ok, Err}
use Prim.Native.Nat.{ℕ, ◌+◌, ◌≤◌}
use mathlib.Core.Path.{◌≡◌, ap, refl, sym, subst, ◌∙◌}
use mathlib.Core.Bool.{Bool, true, false}
use mathlib.Core.List.{List, [], ◌∷◌, map}
use native.Mathlib.Omega.{arith}
use Rattle.notation.specs.Choice.{when◌then◌else◌}
use Rattle.channels.specs.Channels.{Channels, equally_long}
use Rattle.channels.specs.Joined.{join_all}
use Rattle.bad_samples.specs.Bad.{bad_within, count_of, held}
use Rattle.bad_samples.proofs.Held.{held-inside, held_more, held-within, small}
use Rattle.bad_samples.proofs.Joined.{within-joined, within_none}
use Rattle.list.specs.declared.Plan.{Plan}
use Rattle.run_check.specs.Judging.{judge_of}
use Rattle.run_check.specs.Judging.{Judgement}
use Rattle.run_strips.specs.Calls.{accepted_left, after, after_all, gives}
use Rattle.run_strips.specs.Machine.{after_by, answer_of, left_of, strip_by}
use Rattle.run_strips.specs.declared.State.{State}
use Rattle.run_strips.specs.Machine.{Stripping}
use Rattle.run_strips.specs.declared.StripError.TheVariants.{NotOpen, Unequal}
use Rattle.run_strips.proofs.Strips.{plan-stays}

-- a sum within 64 bits stays within them
fits_by : (z : State) (e : Stripping) (left : Channels) → z.bad ≤ 0xffff_ffff_ffff_ffff → (after_by z e left).bad ≤ 0xffff_ffff_ffff_ffff
fits_by z (Ok w) left f = held-within (z.bad + count_of w left)
fits_by z (Err NotOpen) left f = f
fits_by z (Err Unequal) left f = f

pub fits : (z : State) (ss : List Channels) → z.bad ≤ 0xffff_ffff_ffff_ffff → (after_all z (map gives ss)).bad ≤ 0xffff_ffff_ffff_ffff
fits z [] f = f
fits z (s ∷ ss) f = fits (after z (gives s)) ss (fits_by z (answer_of z s) (left_of z s) f)

module _ (p : Plan) (w : ℕ) (ready : judge_of p ≡ Ok w) where
  answers : (z : State) → z.plan ≡ p → (s : Channels) (b : Bool) → equally_long s ≡ b → answer_of z s ≡ (when b then Ok w else (Err Unequal))
  answers z h s b e =
      ap (λ (j : Judgement). strip_by j (equally_long s)) (ap judge_of h ∙ ready) ∙ ap (λ (c : Bool). when c then Ok w else (Err Unequal)) e

  pub total : (z : State) → z.plan ≡ p → (ss : List Channels) → held (after_all z (map gives ss)).bad ≡ held (z.bad + bad_within w (join_all (accepted_left z ss)))
  total z h [] =
      let none = within_none w in
      let same : z.bad ≡ z.bad + bad_within w (join_all []) = omega (arith, none) in
      ap held same
  total z h (s ∷ ss) = by (equally_long s) refl (total (after z (gives s)) (plan-stays z s ∙ h) ss)
    where
      by : (b : Bool) → equally_long s ≡ b
          → held (after_all (after z (gives s)) (map gives ss)).bad ≡ held ((after z (gives s)).bad + bad_within w (join_all (accepted_left (after z (gives s)) ss)))
          → held (after_all z (map gives (s ∷ ss))).bad ≡ held (z.bad + bad_within w (join_all (accepted_left z (s ∷ ss))))
      by true e rest =
          let left = accepted_left (after z (gives s)) ss in
          let here = bad_within w (left_of z s) in
          let there = bad_within w (join_all left) in
          let adds = ap (λ (q : Stripping). (after_by z q (left_of z s)).bad) (answers z h s true e) in
          let joined = within-joined w (left_of z s) (join_all left) in
          let sum : z.bad + here + there ≡ z.bad + (here + there) = omega arith in
          rest
          ∙ ap (λ (n : ℕ). held (n + there)) adds
          ∙ held_more (z.bad + held here) there
          ∙ held-inside z.bad here there
          ∙ ap held sum
          ∙ ap (λ (n : ℕ). held (z.bad + n)) (sym joined)
          ∙ ap (λ (b : Bool). held (z.bad + bad_within w (join_all (when b then left_of z s ∷ left else left)))) (sym e)
      by false e rest =
          let left = accepted_left (after z (gives s)) ss in
          let skips = ap (λ (q : Stripping). (after_by z q (left_of z s)).bad) (answers z h s false e) in
          rest
          ∙ ap (λ (n : ℕ). held (n + bad_within w (join_all left))) skips
          ∙ ap (λ (b : Bool). held (z.bad + bad_within w (join_all (when b then left_of z s ∷ left else left)))) (sym e)

  -- from an opening on
  pub summed : (z : State) → z.plan ≡ p → z.bad ≡ 0 → (ss : List Channels) → (after_all z (map gives ss)).bad ≡ held (bad_within w (join_all (accepted_left z ss)))
  summed z h n ss =
      let none : 0 ≤ 0xffff_ffff_ffff_ffff = omega arith in
      let within = fits z ss (subst (λ (k : ℕ). k ≤ 0xffff_ffff_ffff_ffff) (sym n) none) in
      let sum : z.bad + bad_within w (join_all (accepted_left z ss)) ≡ bad_within w (join_all (accepted_left z ss)) = omega (arith, n) in
      sym (small (after_all z (map gives ss)).bad within) ∙ total z h ss ∙ ap held sum
