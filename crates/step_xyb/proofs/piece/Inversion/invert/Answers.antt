-- `invert` makes of a piece what `mixed_by` makes of each triple.
-- Taking the roots off and cubing what is left are the inversion in two steps (`Composed`).
use mathlib.Core.Path.{ap, ◌∙◌}
use mathlib.Core.List.{map}
use Rattle.channels.specs.Channels.{Channels, channels, triples}
use Rattle.channels.proofs.Holds.{both_hold}
use Rattle.step_xyb.specs.Steps.{cubed}
use Rattle.step_xyb.proofs.Composed.{as_long, l-composed, m-composed, s-composed}
use Rattle.step_xyb.proofs.piece.Inversion.invert.Goals as goal

pub cube-requires : goal.cube-requires
cube-requires c =
    let a = c.args in
    let s = c.shift-within.ensures in
    record {
      h_len = (as_long a.self.roots a.x.now a.y.now a.b.now _ c.requires.equally_long s.r_after).0;
      bias = λ z. let t = both_hold _ _ z in ((c.requires.biases t.0).0, (s.all_within t.1).0);
    }

pub cube-requires-2 : goal.cube-requires-2
cube-requires-2 c =
    let a = c.args in
    let s = c.shift-within.ensures in
    record {
      h_len = (as_long a.self.roots a.x.now a.y.now a.b.now _ c.requires.equally_long s.r_after).1;
      bias = λ z. let t = both_hold _ _ z in ((c.requires.biases t.0).1, (s.all_within t.1).1);
    }

pub cube-requires-3 : goal.cube-requires-3
cube-requires-3 c =
    let a = c.args in
    let s = c.shift-within.ensures in
    record {
      h_len = (as_long a.self.roots a.x.now a.y.now a.b.now _ c.requires.equally_long s.r_after).2;
      bias = λ z. let t = both_hold _ _ z in ((c.requires.biases t.0).2, (s.all_within t.1).2);
    }

pub returns : goal.returns
returns c =
    let a = c.args in
    let k = a.self in
    let e = c.shift-within.ensures.r_after in
    let ts = triples a.x.now a.y.now a.b.now in
    let l = c.cube.ensures ∙ ap (λ (s : Channels). map (cubed k.bias.v0 k.scale) s.a) e ∙ l-composed k.roots k.bias k.scale ts in
    let m = c.cube-2.ensures ∙ ap (λ (s : Channels). map (cubed k.bias.v1 k.scale) s.b) e ∙ m-composed k.roots k.bias k.scale ts in
    let s = c.cube-3.ensures ∙ ap (λ (s : Channels). map (cubed k.bias.v2 k.scale) s.c) e ∙ s-composed k.roots k.bias k.scale ts in
    λ i. channels (l i) (m i) (s i)
