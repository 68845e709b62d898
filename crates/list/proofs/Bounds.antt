-- What the check tells of a list: an end width is 1 to 3, and a position is below the count; a list that passes or fails by 5 is lawful.
-- By the rows of the table of widths, one after the other.
use Rattle.std.specs.Prelude.{Ok, Err}
use Prim.Native.Nat.{ℕ, ◌≤◌, ◌<◌}
use mathlib.Core.Path.{◌≡◌, ap}
use mathlib.Core.Logic.{⊎_elim}
use mathlib.Core.List.{List, ◌∷◌}
use native.Mathlib.Omega.{arith}
use lib.ListN.{length, length-append}
use Rattle.op.specs.Table.{Step, xyb, matrix, ootf, tone_map, gamut_map, hlg, from_luma, to_luma, tone_map_luma, clip, curve}
use Rattle.op.specs.declared.Op.{Op}
use Rattle.list.specs.Lists.{ops_of, Lawful}
use Rattle.list.specs.Answer.{paper}
use Rattle.list.specs.Check.{check_of}
use Rattle.list.specs.Fits.{Fits, none, more, FailsAt}
use Rattle.list.specs.declared.Plan.{Plan}
use Rattle.list.specs.declared.CheckError.TheVariants.{Misfit}
use Rattle.list.proofs.Exactly.{passes-exactly, five-exactly}
use Rattle.list.proofs.Walk.{count-ops}

pub record Within (w : ℕ) : Type 0 where
  pub some : 1 ≤ w
  pub few : w ≤ 3

three : Within 3
three = record { some = omega arith; few = omega arith }

one : Within 1
one = record { some = omega arith; few = omega arith }

step-within : {o : Op} {w v : ℕ} → Step o w v → Within w → Within v
step-within xyb h = h
step-within matrix h = h
step-within ootf h = h
step-within tone_map h = h
step-within gamut_map h = h
step-within hlg h = h
step-within from_luma h = three
step-within to_luma h = one
step-within tone_map_luma h = h
step-within clip h = h
step-within (curve other) h = h

fits-within : {w v : ℕ} {os : List Op} → Fits w os v → Within w → Within v
fits-within none h = h
fits-within (more s f) h = fits-within f (step-within s h)

fails_below : {w i : ℕ} {os : List Op} → FailsAt w os i → i < length os
fails_below {w} {i} {os} f = omega (arith, ap length f.split, length-append f.before (f.op ∷ f.after), f.place)

module _ (p : Plan) where
  pub start-within : Lawful p → Within p.start
  start-within l = ⊎_elim (λ e. record { some = omega arith; few = omega arith }) (λ e. record { some = omega arith; few = omega arith }) l.0.0

  -- the widths that the ops of a lawful list lead to
  pub end-within : {v : ℕ} → Lawful p → Fits p.start (ops_of p) v → Within v
  end-within l f = fits-within f (start-within l)

  pub passes-lawful : {w : ℕ} → check_of p ≡ Ok w → Lawful p
  passes-lawful {w} e = ((passes-exactly p w).0 (ap paper e)).0

  pub misfit-lawful : {i : ℕ} → check_of p ≡ (Err (Misfit i)) → Lawful p
  misfit-lawful {i} e = ((five-exactly p i).0 (ap paper e)).0

  pub width-within : {w : ℕ} → check_of p ≡ Ok w → Within w
  width-within {w} e = let h = (passes-exactly p w).0 (ap paper e) in end-within h.0 h.1

  pub position-below : {i : ℕ} → check_of p ≡ (Err (Misfit i)) → i < p.count
  position-below {i} e = omega (arith, fails_below ((five-exactly p i).0 (ap paper e)).1, count-ops p.count p.ops)
