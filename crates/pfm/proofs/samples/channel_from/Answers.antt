-- `channel_from` leaves the samples of one channel.
-- Place by place; before the end of the loop each stands.
use Rattle.std.proofs.Common.{ℕ, ◌+◌, ◌*◌, ◌<◌, length, sym, ◌∙◌, arith}
use lib.Ieee.{nan}
use Rattle.std.proofs.lemmas.List.{ext_get_or}
use Rattle.pfm.specs.Samples.{sample_at}
use Rattle.pfm.proofs.Places.{at_place, how_many}
use Rattle.pfm.proofs.samples.channel_from.Goals as goal

pub returns : goal.returns
returns c =
    let a = c.args in
    let f = λ (i : ℕ). sample_at a.little a.s.now (i * a.size + a.from) in
    let n = how_many f (length a.out.now) in
    ext_get_or nan _ _ (omega arith)
    (λ k h. let i : k < c.loop-i.i = omega arith in
    let j : k < length a.out.now = omega arith in
    c.loop-i.invariant k i ∙ sym (at_place f (length a.out.now) k nan j))
