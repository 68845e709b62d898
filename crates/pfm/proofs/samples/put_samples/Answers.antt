-- `put_samples` puts the bytes of each sample.
-- The loop argument is `Laying`'s.
use Rattle.std.proofs.Common.{◌≤◌, length, arith}
use lib.Ieee.{Float, binary32, nan, to_bits}
use Rattle.pfm.specs.Samples.{sample_bytes}
use Rattle.pfm.proofs.Laying.{again, ends, four, room, starts}
use Rattle.pfm.proofs.samples.put_samples.Goals as goal

pub loop-x-init : goal.loop-x-init
loop-x-init c = starts (sample_bytes c.args.little) 4 (λ (x : Float). four c.args.little (to_bits binary32 x)) nan c.args.a.now c.requires

pub loop-x-preserved : goal.loop-x-preserved
loop-x-preserved c =
    let o = room (sample_bytes c.args.little) 4 (λ (x : Float). four c.args.little (to_bits binary32 x)) nan c.args.a.now c.requires c.loop-x.invariant c.loop-x-test.true in
    again (sample_bytes c.args.little) 4 (λ (x : Float). four c.args.little (to_bits binary32 x)) nan c.args.a.now c.requires c.loop-x.invariant c.loop-x-test.true
    ((rw c.sample_bytes.ensures at c.put-at.ensures.whole) o)

pub returns : goal.returns
returns c =
    let h : length c.args.a.now ≤ c.loop-x.x-index = omega arith in
    ends (sample_bytes c.args.little) 4 (λ (x : Float). four c.args.little (to_bits binary32 x)) nan c.args.a.now c.requires c.loop-x.invariant h
