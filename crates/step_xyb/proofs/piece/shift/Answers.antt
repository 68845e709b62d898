-- `shift` takes the roots off, and says whether all that is left is in the window.
-- The loop argument is `Rewriting`'s for each channel; the test holds for every place that was passed.
use Prim.Native.Nat.{◌<◌}
use mathlib.Core.Path.{◌≡◌, subst, sym, ◌∙◌}
use mathlib.Core.List.{map}
use native.Mathlib.Omega.{arith}
use lib.ListN.{get_or, length}
use lib.Ieee.{Float, nan}
use Rattle.notation.proofs.Rewriting.{begun, ended, write}
use Rattle.ciexyz.specs.declared.Vec3.{Vec3}
use Rattle.channels.specs.Channels.{channels, each, triples, v0_of, v1_of, v2_of, vec}
use Rattle.channels.proofs.Holds.{both_hold}
use Rattle.channels.proofs.Rows.{length_part, part_at}
use Rattle.step_xyb.specs.Steps.{AllWithin, shifted}
use Rattle.step_xyb.proofs.Holds.{before_next}
use Rattle.step_xyb.proofs.piece.shift.Goals as goal

pub loop-i-init : goal.loop-i-init
loop-i-init c =
    let a = c.args in
    let e = c.requires.equally_long in
    let long = length_part vec (shifted a.roots) a.x.now a.y.now a.b.now e.0 e.1 in (
      begun _ _ (long v0_of ∙ sym c.requires.p_len.0),
      begun _ _ (long v1_of ∙ sym c.requires.p_len.1),
      begun _ _ (long v2_of ∙ sym c.requires.p_len.2),
      λ w. (λ k l. absurd (omega arith), λ k l. absurd (omega arith), λ k l. absurd (omega arith)),
    )

pub loop-i-preserved : goal.loop-i-preserved
unfolding shifted
loop-i-preserved c =
    let t = c.loop-i in
    let v = t.invariant in
    let a = c.args in
    let e = c.requires.equally_long in
    let i = t.i in
    let R = each (shifted a.roots) (channels a.x.now a.y.now a.b.now) in
    let h : i < length a.x.now = omega arith in
    let g = shifted a.roots (vec (get_or a.x.now i nan) (get_or a.y.now i nan) (get_or a.b.now i nan)) in
    let at : (part : Vec3 → Float) → part g ≡ get_or (map part (map (shifted a.roots) (triples a.x.now a.y.now a.b.now))) i nan =
    λ part. sym (part_at vec (shifted a.roots) a.x.now a.y.now a.b.now e.0 e.1 part i nan h) in (
      write v.0 nan g.v0 (omega (arith, c.requires.p_len.0)) (at v0_of),
      write v.1 nan g.v1 (omega (arith, c.requires.p_len.1)) (at v1_of),
      write v.2 nan g.v2 (omega (arith, c.requires.p_len.2)) (at v2_of),
      λ z.
          let b = both_hold t.within c.are_within-within.result z in
          let w = v.3 b.0 in
          let x = c.are_within-within.ensures b.1 in
          (before_next i R.a g.v0 (at v0_of) x.0 w.0, before_next i R.b g.v1 (at v1_of) x.1 w.1, before_next i R.c g.v2 (at v2_of) x.2 w.2),
    )

pub returns : goal.returns
returns c =
    let v = c.loop-i.invariant in
    let ep = ended v.0 (omega arith) in
    let eq = ended v.1 (omega arith) in
    let er = ended v.2 (omega arith) in record {
      r_after = (λ i. channels (ep i) (eq i) (er i));
      all_within = λ z.
          let w = v.3 z in
          (subst AllWithin (sym ep) (λ k l. w.0 k (omega (arith, v.0.whole))), subst AllWithin (sym eq) (λ k l. w.1 k (omega (arith, v.1.whole))), subst AllWithin (sym er) (λ k l. w.2 k (omega (arith, v.2.whole))));
    }
