-- The end width of a list that goes on, and of what each stage puts out, by a few tests.
-- By computing, at each value of the tests.
use Prim.Native.Nat.{ℕ}
use mathlib.Core.Path.{◌≡◌, refl, ap, ◌∙◌}
use mathlib.Core.Bool.{Bool, true, false, ◌&&◌, ◌||◌, not}
use mathlib.Core.List.{List, [], ◌∷◌, ◌++◌}
use lib.Ieee.{Float}
use Rattle.notation.specs.Choice.{when◌then◌else◌}
use Rattle.ciexyz.specs.declared.Mat3.{Mat3}
use Rattle.ciexyz.specs.declared.Xy.{Xy}
use Rattle.list_same.specs.Same.{same_curve}
use Rattle.op.specs.declared.Curve.{Curve}
use Rattle.op.specs.declared.Curve.TheVariants as C
use Rattle.op.specs.declared.Luminances.{Luminances}
use Rattle.op.specs.declared.HdrParams.{HdrParams}
use Rattle.op.specs.declared.Op.{Op}
use Rattle.op.specs.declared.Op.TheVariants as O
use Rattle.list_same.proofs.Exactly.{same_curve-exactly}
use Rattle.list.specs.Ends.{end_from}
use Rattle.list.proofs.Ending.{failed_stays, goes_on}
use Rattle.planner.proofs.Building.{wide}

-- 0 where a test fails
abbrev pub unless : Bool → ℕ → ℕ
unless b n = when b then 0 else n

-- where the first ops fail by a test, or end at one width
pub go_on : (xs ys : List Op) (w v : ℕ) (b : Bool) → end_from w xs ≡ unless b v → end_from w (xs ++ ys) ≡ unless b (end_from v ys)
go_on xs ys w v b e = goes_on xs ys w ∙ ap (λ (n : ℕ). end_from n ys) e ∙ by b
  where
    by : (b : Bool) → end_from (unless b v) ys ≡ unless b (end_from v ys)
    by true = failed_stays ys
    by false = refl

-- a curve, on one channel or three
pub curve_verdict : (c : Curve) (p : HdrParams) (i grey : Bool) → end_from (wide grey) (O.TransferFunction c p i ∷ []) ≡ unless (same_curve c C.Hlg && grey) (wide grey)
curve_verdict (C.Gamma g true) p i grey = refl
curve_verdict (C.Gamma g false) p i grey = refl
curve_verdict C.Bt709 p i grey = refl
curve_verdict C.Unknown p i grey = refl
curve_verdict C.Linear p i grey = refl
curve_verdict C.Srgb p i grey = refl
curve_verdict C.Pq p i grey = refl
curve_verdict C.Dci p i grey = refl
curve_verdict C.Hlg p i true = refl
curve_verdict C.Hlg p i false = refl

pub target_curve : (c : Curve) (p : HdrParams) (grey : Bool) → end_from (wide grey) (when same_curve c C.Linear then [] else (O.TransferFunction c p false ∷ [])) ≡ unless (same_curve c C.Hlg && grey) (wide grey)
target_curve c p grey = by (same_curve c C.Linear) refl
  where
    by : (l : Bool) → same_curve c C.Linear ≡ l → end_from (wide grey) (when l then [] else (O.TransferFunction c p false ∷ [])) ≡ unless (same_curve c C.Hlg && grey) (wide grey)
    by true e = rw ((same_curve-exactly c C.Linear).0 e)
    by false e = curve_verdict c p false grey

-- conversion: from Grey or not, Perceptual or not, Absolute or not, to Grey or not
module _ (l : Luminances) (f : Float) (x : Xy) (m n k : Mat3) where
  to-xyz : (grey perceptual : Bool) (os : List Op) → end_from (wide grey) ((when perceptual then O.GamutMap l f else O.Clip) ∷ (when grey then O.LumaToXyz x else O.Matrix m) ∷ os) ≡ unless (perceptual && grey) (end_from 3 os)
  to-xyz true true os = refl
  to-xyz true false os = refl
  to-xyz false true os = refl
  to-xyz false false os = refl

  from-xyz : (absolute grey : Bool) → end_from 3 ((when absolute then [] else (O.Matrix n ∷ [])) ++ ((when grey then O.XyzToLuma else O.Matrix k) ∷ [])) ≡ wide grey
  from-xyz true true = refl
  from-xyz true false = refl
  from-xyz false true = refl
  from-xyz false false = refl

  pub convert-verdict : (entered grey perceptual absolute target : Bool)
      → end_from (wide grey)
      (when entered
      then (when perceptual then O.GamutMap l f else O.Clip) ∷ (when grey then O.LumaToXyz x else O.Matrix m) ∷ ((when absolute then [] else (O.Matrix n ∷ [])) ++ ((when target then O.XyzToLuma else O.Matrix k) ∷ []))
      else [])
      ≡ unless (entered && (perceptual && grey)) (wide (when entered then target else grey))
  convert-verdict true grey perceptual absolute target = to-xyz grey perceptual ((when absolute then [] else (O.Matrix n ∷ [])) ++ ((when target then O.XyzToLuma else O.Matrix k) ∷ [])) ∙ ap (unless (perceptual && grey)) (from-xyz absolute target)
  convert-verdict false grey perceptual absolute target = refl

-- the tone map of one channel or three, and the GamutMap of three
module _ (p : HdrParams) (d f : Float) (t : Bool) (l : Luminances) where
  pub tone-verdict : (wanted grey perceptual : Bool)
      → end_from (wide grey)
      (when wanted
      then (when grey then O.ToneMapLumaRec2408 p d t else O.ToneMapRec2408 p d t) ∷ (when not grey && perceptual then O.GamutMap l f ∷ [] else [])
      else [])
      ≡ wide grey
  tone-verdict false grey perceptual = refl
  tone-verdict true true perceptual = refl
  tone-verdict true false true = refl
  tone-verdict true false false = refl

  -- the PQ to HLG steps: near 1000 or not
  pub hlg-verdict : (wanted near grey perceptual : Bool) (q : HdrParams)
      → end_from (wide grey)
      (when wanted
      then (when near then [] else ((when grey then O.ToneMapLumaRec2408 p d t else O.ToneMapRec2408 p d t) ∷ O.HlgInverseOotf q ∷ [])) ++ (when not grey && perceptual then O.GamutMap l f ∷ [] else [])
      else [])
      ≡ unless (wanted && (grey && not near)) (wide grey)
  hlg-verdict false near grey perceptual q = refl
  hlg-verdict true true true perceptual q = refl
  hlg-verdict true true false true q = refl
  hlg-verdict true true false false q = refl
  hlg-verdict true false true perceptual q = refl
  hlg-verdict true false false true q = refl
  hlg-verdict true false false false q = refl

-- the inverse OOTF fails on one channel only where the Hlg curve after it would
pub ootf_or_curve : (from_pq hlg grey near : Bool) (p : ℕ) → unless (from_pq && hlg && (grey && not near)) (unless (hlg && grey) p) ≡ unless (hlg && grey) p
ootf_or_curve true true true true p = refl
ootf_or_curve true true true false p = refl
ootf_or_curve true true false near p = refl
ootf_or_curve true false grey near p = refl
ootf_or_curve false hlg grey near p = refl

pub either_fails : (a b : Bool) (p : ℕ) → unless a (unless b p) ≡ unless (a || b) p
either_fails true b p = refl
either_fails false b p = refl
