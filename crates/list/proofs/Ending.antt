-- The width that ops lead to is that which the check tells, and 0 where the check refuses them; and that of a list that goes on.
-- Op by op. An op that finds width 0 gives 0 or fails, so a list that has failed stays at 0.
use Rattle.std.specs.Prelude.{Ok, Err}
use Rattle.std.specs.Result.{result_unwrap_or}
use Prim.Native.Nat.{ℕ, ◌+◌}
use mathlib.Core.Path.{◌≡◌, refl, ap, sym, ◌∙◌}
use mathlib.Core.Bool.{Bool, true, false}
use mathlib.Core.List.{List, [], ◌∷◌, ◌++◌}
use Rattle.notation.specs.Choice.{when◌then◌else◌}
use Rattle.op.specs.Widths.{fits_at, gives_of}
use Rattle.op.specs.declared.Curve.{Curve}
use Rattle.op.specs.declared.Curve.TheVariants as C
use Rattle.op.specs.declared.HdrParams.{HdrParams}
use Rattle.op.specs.declared.Op.{Op}
use Rattle.op.specs.declared.Op.TheVariants as O
use Rattle.list.specs.Lists.{lawful, ops_of}
use Rattle.list.specs.Answer.{paper}
use Rattle.list.specs.Check.{check_from, check_of}
use Rattle.list.specs.Ends.{end_from}
use Rattle.list.specs.declared.Plan.{Plan}
use Rattle.list.specs.Check.{Verdict}
use Rattle.list.specs.declared.CheckError.TheVariants.{Malformed, Misfit}
use Rattle.list.proofs.Formed.{formed-exactly, lawful-exactly}

pub told-from : (os : List Op) (w i : ℕ) → (paper (check_from w i os)).width ≡ end_from w os
told-from [] w i = refl
told-from (o ∷ os) w i = by (fits_at o w) (check_from (gives_of o w) (i + 1) os) (told-from os (gives_of o w) (i + 1))
  where
    by : (b : Bool) (v : Verdict) {n : ℕ} → (paper v).width ≡ n → (paper (when b then v else (Err (Misfit i)))).width ≡ (when b then n else 0)
    by true v e = e
    by false v e = refl

-- the width of a verdict, or 0
pub width-or_0 : (v : Verdict) → result_unwrap_or v 0 ≡ (paper v).width
width-or_0 (Ok w) = refl
width-or_0 (Err Malformed) = refl
width-or_0 (Err (Misfit i)) = refl

-- the width that the check tells is the end width of a list that 10 does not refuse, and 0 of another
pub told : (p : Plan) → (paper (check_of p)).width ≡ (when lawful p then p.end else 0)
told p = by (lawful p) refl
  where
    by : (b : Bool) → lawful p ≡ b → (paper (check_of p)).width ≡ (when lawful p then p.end else 0)
    by true e =
        let l = (lawful-exactly p).0 e in
        rw e (told-from (ops_of p) p.start 0 ∙ sym (l.1 ∙ rw ((formed-exactly p.start p.count).1 l.0)))
    by false e = rw e

-- ---- a list that has failed stays at 0

curve_at-0 : (c : Curve) (p : HdrParams) (i : Bool) → (when fits_at (O.TransferFunction c p i) 0 then gives_of (O.TransferFunction c p i) 0 else 0) ≡ 0
curve_at-0 (C.Gamma g j) p i = refl
curve_at-0 C.Bt709 p i = refl
curve_at-0 C.Unknown p i = refl
curve_at-0 C.Linear p i = refl
curve_at-0 C.Srgb p i = refl
curve_at-0 C.Pq p i = refl
curve_at-0 C.Dci p i = refl
curve_at-0 C.Hlg p i = refl

op-at_0 : (o : Op) → (when fits_at o 0 then gives_of o 0 else 0) ≡ 0
op-at_0 (O.XybToMixedLms b i) = refl
op-at_0 (O.LumaToXyz x) = refl
op-at_0 O.XyzToLuma = refl
op-at_0 (O.Matrix m) = refl
op-at_0 (O.TransferFunction c p i) = curve_at-0 c p i
op-at_0 (O.HlgInverseOotf p) = refl
op-at_0 (O.ToneMapRec2408 p d b) = refl
op-at_0 (O.ToneMapLumaRec2408 p d b) = refl
op-at_0 (O.GamutMap l f) = refl
op-at_0 O.Clip = refl

pub failed_stays : (os : List Op) → end_from 0 os ≡ 0
failed_stays [] = refl
failed_stays (o ∷ os) = by (fits_at o 0) (op-at_0 o) (failed_stays os)
  where
    by : (b : Bool) → (when b then gives_of o 0 else 0) ≡ 0 → end_from 0 os ≡ 0 → (when b then end_from (gives_of o 0) os else 0) ≡ 0
    by true e f = ap (λ (w : ℕ). end_from w os) e ∙ f
    by false e f = refl

-- a list that goes on ends where its last part does, entered at the end of the first
pub goes_on : (xs ys : List Op) (w : ℕ) → end_from w (xs ++ ys) ≡ end_from (end_from w xs) ys
goes_on [] ys w = refl
goes_on (x ∷ xs) ys w = by (fits_at x w) (end_from (gives_of x w) xs) (goes_on xs ys (gives_of x w))
  where
    by : (b : Bool) {m : ℕ} (n : ℕ) → m ≡ end_from n ys → (when b then m else 0) ≡ end_from (when b then n else 0) ys
    by true n e = e
    by false n e = sym (failed_stays ys)
