-- `adapt_mat` answers `adapt_xy`.
-- Each call's result stands for its meaning, and the test that led to the identity picks the spec's case.
use Rattle.std.proofs.Common.{◌≡◌, true, sym, ◌∙◌}
use lib.Ieee.{eq}
use Rattle.std.proofs.Math.Bool.{and_assoc}
use Rattle.ciexyz.specs.Xyz.{same_xyz, identity_mat}
use Rattle.ciexyz.proofs.xyz.adapt_mat.Goals as goal

pub returns-then-same : goal.returns-then-same
unfolding identity_mat
returns-then-same g c =
    let from = c.illuminant_to_xyz-from_w in
    let to = c.illuminant_to_xyz-to_w in
    let a = from.result in
    let b = to.result in
    let same : same_xyz a b ≡ true = and_assoc (eq a.v0 b.v0) (eq a.v1 b.v1) (eq a.v2 b.v2) ∙ sym c.eq-same.ensures ∙ c.if-same.true in
    rw (← from.ensures, ← to.ensures, same)
