-- Ops that are entered at a width fit, by the rows of the table, or one of them fails; and what the check says of either.
-- Op by op: where the op finds the width that it needs, a row takes it on, and else none does.
use Rattle.std.specs.Prelude.{Ok, Err}
use Prim.Native.Nat.{ℕ, suc, ◌+◌}
use mathlib.Core.Path.{◌≡◌, refl, ap, sym, ◌∙◌}
use mathlib.Core.List.{List, [], ◌∷◌, ◌++◌}
use mathlib.Core.Bool.{Bool, true, false, true≢false}
use mathlib.Core.Logic.{◌⊎◌, inl, inr, ⊎_elim}
use native.Mathlib.Omega.{arith}
use lib.ListN.{length}
use Rattle.op.specs.Table.{Step}
use Rattle.op.specs.Widths.{fits_at, gives_of}
use Rattle.op.specs.declared.Op.{Op}
use Rattle.op.proofs.Steps.{fits-step, step_fits, step_gives}
use Rattle.list.specs.Check.{check_from}
use Rattle.list.specs.Fits.{Fits, none, more, NeedsOther, FailsAt}
use Rattle.list.specs.declared.CheckError.TheVariants.{Misfit}

moved : (w : ℕ) (os : List Op) {i j : ℕ} → i ≡ j → check_from w i os ≡ check_from w j os
moved w os e = rw e

-- where the first ops fit, the verdict is that on the rest, entered at the width that they lead to
pub fits-then : {w v : ℕ} {os : List Op} (i : ℕ) (rest : List Op) → Fits w os v → check_from w i (os ++ rest) ≡ check_from v (i + length os) rest
fits-then {w} i rest none = moved w rest (omega arith)
fits-then i rest (more {v = v} {os = os} s f) = rw (step_fits s, step_gives s) (fits-then (i + 1) rest f ∙ moved v rest (omega arith))

pub fits-passes : {w v : ℕ} {os : List Op} (i : ℕ) → Fits w os v → check_from w i os ≡ Ok v
fits-passes i none = refl
fits-passes i (more s f) = rw (step_fits s, step_gives s) (fits-passes (i + 1) f)

unmet : (o : Op) (w : ℕ) → NeedsOther o w → fits_at o w ≡ false
unmet o w n = by (fits_at o w) refl
  where
    by : (b : Bool) → fits_at o w ≡ b → fits_at o w ≡ false
    by true e = absurd (n (gives_of o w) (fits-step o w e))
    by false e = e

pub fails_misfit : {w : ℕ} {os : List Op} {j : ℕ} (i : ℕ) → FailsAt w os j → check_from w i os ≡ Err (Misfit (i + j))
fails_misfit {w} i f =
    ap (check_from w i) f.split
    ∙ fits-then i (f.op ∷ f.after) f.reached
    ∙ rw (unmet f.op f.found f.other, f.place)

-- ops fit, or one of them fails
module _ {w : ℕ} {o : Op} {os : List Op} where
  first_fails : fits_at o w ≡ false → FailsAt w (o ∷ os) 0
  first_fails e = record {
    before = [];
    op = o;
    after = os;
    found = w;
    split = refl;
    place = refl;
    reached = none;
    other = λ v s. true≢false (sym (step_fits s) ∙ e);
  }

  later-fails : {u j : ℕ} → Step o w u → FailsAt u os j → FailsAt w (o ∷ os) (suc j)
  later-fails s f = record {
    before = o ∷ f.before;
    op = f.op;
    after = f.after;
    found = f.found;
    split = ap (λ (l : List Op). o ∷ l) f.split;
    place = ap suc f.place;
    reached = more s f.reached;
    other = f.other;
  }

pub fits-or_fails : (w : ℕ) (os : List Op) → ((v : ℕ) × Fits w os v) ⊎ ((i : ℕ) × FailsAt w os i)
fits-or_fails w [] = inl (w, none)
fits-or_fails w (o ∷ os) = by (fits_at o w) refl (λ u. fits-or_fails u os)
  where
    by : (b : Bool) → fits_at o w ≡ b → ((u : ℕ) → ((v : ℕ) × Fits u os v) ⊎ ((i : ℕ) × FailsAt u os i)) → ((v : ℕ) × Fits w (o ∷ os) v) ⊎ ((i : ℕ) × FailsAt w (o ∷ os) i)
    by true e rest =
        let s = fits-step o w e in
        ⊎_elim (λ f. inl (f.0, more s f.1)) (λ f. inr (suc f.0, later-fails s f.1)) (rest (gives_of o w))
    by false e rest = inr (0, first_fails e)
