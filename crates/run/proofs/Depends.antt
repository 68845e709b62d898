-- After ops that fit, the channels within the end width depend only on the ops and on the channels within the starting width.
-- By the rows of the table: an op of width 3 sees all three channels, and LumaToXyz and one-channel Clip read a alone.
use Prim.Native.Nat.{ℕ}
use mathlib.Core.Path.{ap, refl, sym, ◌∙◌, ◌≡◌}
use mathlib.Core.List.{List, [], map, ◌∷◌}
use native.Mathlib.Omega.{arith}
use lib.Dec.{leb, lit≤}
use lib.ListN.{length}
use lib.Ieee.{Float}
use Rattle.ciexyz.specs.Matrix.{applied}
use Rattle.ciexyz.specs.declared.Vec3.{Vec3}
use Rattle.ciexyz.specs.declared.Xy.{Xy}
use Rattle.channels.specs.Channels.{Channels, EquallyLong, each, triples, vec}
use Rattle.step_xyb.specs.Xyb.{mixed_lms}
use Rattle.steps.specs.Samples.{clipped_if, clipped_within, luma_of_xyz, xyz_of_luma}
use Rattle.op.specs.Table.{Step, xyb, matrix, ootf, tone_map, gamut_map, hlg, from_luma, to_luma, tone_map_luma, clip, curve}
use Rattle.op.specs.declared.Op.{Op}
use Rattle.op.proofs.Steps.{step_gives}
use Rattle.run_op.specs.Apply.{after_op}
use Rattle.run_op.proofs.Even.{after-even}
use Rattle.list.specs.Fits.{Fits, none, more}
use Rattle.run.specs.Reach.{Agree}
use Rattle.run.specs.Run.{run_ops}

-- channels that agree within width 3 are the same
all_same : {s t : Channels} → Agree 3 s t → s ≡ t
all_same {s} {t} h = rw (h.on_a (lit≤ tt), h.on_b (lit≤ tt), h.on_c (lit≤ tt))

agrees : (w : ℕ) {s t : Channels} → s ≡ t → Agree w s t
agrees w e = record { on_a = λ _. ap (λ (x : Channels). x.a) e; on_b = λ _. ap (λ (x : Channels). x.b) e; on_c = λ _. ap (λ (x : Channels). x.c) e }

-- LumaToXyz reads a alone
luma_alone : (v : Xy) (a b c b' c' : List Float) → length b ≡ length a → length c ≡ length a → length b' ≡ length a → length c' ≡ length a
    → map (xyz_of_luma v) (triples a b c) ≡ map (xyz_of_luma v) (triples a b' c')
unfolding xyz_of_luma
luma_alone v [] b c b' c' p q r s = refl
luma_alone v (x ∷ a) [] c b' c' p q r s = absurd (omega arith)
luma_alone v (x ∷ a) (y ∷ b) [] b' c' p q r s = absurd (omega arith)
luma_alone v (x ∷ a) (y ∷ b) (z ∷ c) [] c' p q r s = absurd (omega arith)
luma_alone v (x ∷ a) (y ∷ b) (z ∷ c) (y' ∷ b') [] p q r s = absurd (omega arith)
luma_alone v (x ∷ a) (y ∷ b) (z ∷ c) (y' ∷ b') (z' ∷ c') p q r s = ap (λ (l : List Vec3). xyz_of_luma v (vec x y z) ∷ l) (luma_alone v a b c b' c' (omega arith) (omega arith) (omega arith) (omega arith))

same_luma : (v : Xy) (s t : Channels) → EquallyLong s → EquallyLong t → s.a ≡ t.a → each (xyz_of_luma v) s ≡ each (xyz_of_luma v) t
same_luma v s t l m e =
    let n : length t.a ≡ length s.a = ap length (sym e) in
    let k : map (xyz_of_luma v) (triples s.a s.b s.c) ≡ map (xyz_of_luma v) (triples t.a t.b t.c) =
    luma_alone v s.a s.b s.c t.b t.c l.0 l.1 (m.0 ∙ n) (m.1 ∙ n) ∙ ap (λ (x : List Float). map (xyz_of_luma v) (triples x t.b t.c)) e in
    rw k

clip-agrees : (w : ℕ) {s t : Channels} → Agree w s t → Agree w (clipped_within w s) (clipped_within w t)
clip-agrees w h = record { on_a = λ k. ap (clipped_if (leb 1 w)) (h.on_a k); on_b = λ k. ap (clipped_if (leb 2 w)) (h.on_b k); on_c = λ k. ap (clipped_if (leb 3 w)) (h.on_c k) }

-- one op
op-agrees : {o : Op} {w v : ℕ} (s t : Channels) → Step o w v → EquallyLong s → EquallyLong t → Agree w s t → Agree v (after_op o w s) (after_op o w t)
op-agrees s t (xyb {bias} {intensity}) l m h = agrees 3 (ap (each (mixed_lms bias intensity)) (all_same h))
op-agrees s t (matrix {m = x}) l m h = agrees 3 (ap (each (applied x)) (all_same h))
op-agrees s t ootf l m h = h
op-agrees s t tone_map l m h = h
op-agrees s t gamut_map l m h = h
op-agrees s t hlg l m h = h
op-agrees s t (from_luma {illuminant}) l m h = agrees 3 (same_luma illuminant s t l m (h.on_a (lit≤ tt)))
op-agrees s t to_luma l m h = agrees 1 (ap luma_of_xyz (all_same h))
op-agrees s t tone_map_luma l m h = h
op-agrees s t (clip {w}) l m h = clip-agrees w h
op-agrees s t (curve c) l m h = h

-- a list of ops
pub ops-agree : {os : List Op} {w v : ℕ} (s t : Channels) → Fits w os v → EquallyLong s → EquallyLong t → Agree w s t → Agree v (run_ops w os s) (run_ops w os t)
ops-agree s t none l m h = h
ops-agree s t (more {w} {o = o} x f) l m h =
    rw (step_gives x) (ops-agree (after_op o w s) (after_op o w t) f (after-even o w s l) (after-even o w t m) (op-agrees s t x l m h))
