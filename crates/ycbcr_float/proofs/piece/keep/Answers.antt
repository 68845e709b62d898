-- `keep` puts the offset on the luma, copies the three channels, and says whether every pixel is ready.
-- The loop argument is `Rewriting`'s for the offset and for the copies; the digits show every pixel that was passed (`Patterns`).
use Rattle.std.proofs.Common.{◌≡◌, ◌<◌, map, length, get_or, sym, refl, ap, ◌∙◌, subst, arith, below_more}
use lib.Ieee.{Float, nan}
use Rattle.notation.proofs.Elements.{map_at}
use Rattle.notation.proofs.Rewriting.{begun, ended, map-begun, read, write}
use Rattle.channels.specs.Channels.{vec}
use Rattle.ycbcr_float.specs.Ycbcr.{raised}
use Rattle.ycbcr_float.proofs.Patterns.{AllShown, now-shown, ready_within, still-shown}
use Rattle.ycbcr_float.proofs.piece.keep.Goals as goal

pub loop-i-init : goal.loop-i-init
loop-i-init c =
    let y = c.args.y.now in
    let e = c.requires.equally_long in
    let l = c.requires.p_len in
    (map-begun raised y y refl, begun _ _ (sym l.0), map-begun raised y _ (l.1 ∙ sym e.0), begun _ _ (e.1 ∙ sym l.2), λ j h. absurd (omega arith))

pub loop-i-preserved : goal.loop-i-preserved
unfolding raised
loop-i-preserved c =
    let t = c.loop-i in
    let a = c.args in
    let v = t.invariant in
    let i = t.i in
    let h : i < length a.y.now = omega arith in
    let e : raised (get_or t.y i nan) ≡ get_or (map raised a.y.now) i nan = ap raised (read v.0 nan h) ∙ sym (map_at raised a.y.now i nan nan h) in
    let n = c.any_of-any in
    let m = c.all_of-all in
    let s = vec (get_or a.cb.now i nan) (raised (get_or t.y i nan)) (get_or a.cr.now i nan) in (
      write v.0 nan _ h e,
      write v.1 nan _ (omega arith) refl,
      write v.2 nan _ (omega arith) e,
      write v.3 nan _ (omega arith) refl,
      below_more _ i (λ j l. still-shown t.any t.all s n.result m.result n.ensures.value m.ensures _ (v.4 j l))
          (subst (λ (x : Float). AllShown n.result m.result (vec (get_or a.cb.now i nan) x (get_or a.cr.now i nan))) e (now-shown t.any t.all s n.result m.result n.ensures.value m.ensures n.ensures.single)),
    )

pub returns : goal.returns
returns c =
    let v = c.loop-i.invariant in
    let y = ended v.0 (omega arith) in
    record {
      y_after = y;
      r_after = rw (y, ended v.1 (omega arith), ended v.2 (omega arith), ended v.3 (omega arith));
      all_ready = λ e j h. rw y (ready_within _ _ _ (c.are_within.ensures e) (v.4 j (omega arith)));
    }
