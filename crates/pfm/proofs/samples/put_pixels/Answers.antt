-- `put_pixels` puts the bytes of each pixel.
-- The loop argument is `Laying`'s, for the triples of the samples.
use Rattle.std.proofs.Common.{◌≡◌, ◌≤◌, ◌∙◌, Bool, length, length-append, arith}
use lib.Ieee.{Float, binary32, nan, to_bits}
use Rattle.ciexyz.specs.declared.Vec3.{Vec3}
use Rattle.channels.specs.Channels.{vec}
use Rattle.pfm.specs.Samples.{pixel_bytes, sample_bytes}
use Rattle.pfm.proofs.Laying.{four, row_room, rows-again, rows_end, rows_start}
use Rattle.pfm.proofs.samples.put_pixels.Goals as goal

twelve : (little : Bool) (v : Vec3) → length (pixel_bytes little v) ≡ 12
twelve little v =
    let one : (x : Float) → length (sample_bytes little x) ≡ 4 = λ x. four little (to_bits binary32 x) in
    length-append (sample_bytes little v.v0) _ ∙ omega (arith, one v.v0, one v.v1, one v.v2, length-append (sample_bytes little v.v1) (sample_bytes little v.v2))

pub loop-i-init : goal.loop-i-init
loop-i-init c =
    rows_start vec (pixel_bytes c.args.little) 12 (twelve c.args.little) nan c.args.a.now c.args.b.now c.args.c.now c.requires.equally_long.0 c.requires.equally_long.1
    c.args.out.now c.requires.out_len

pub loop-i-preserved : goal.loop-i-preserved
loop-i-preserved c =
    let o = row_room vec (pixel_bytes c.args.little) 12 (twelve c.args.little) nan c.args.a.now c.args.b.now c.args.c.now c.requires.equally_long.0 c.requires.equally_long.1 c.args.out.now c.requires.out_len c.loop-i.invariant c.loop-i-test.true in
    rows-again vec (pixel_bytes c.args.little) 12 (twelve c.args.little) nan c.args.a.now c.args.b.now c.args.c.now c.requires.equally_long.0 c.requires.equally_long.1
    c.args.out.now c.requires.out_len c.loop-i.invariant c.loop-i-test.true ((rw c.pixel_bytes.ensures at c.put-at.ensures.whole) o)

pub returns : goal.returns
returns c =
    let h : length c.args.a.now ≤ c.loop-i.i = omega arith in
    rows_end vec (pixel_bytes c.args.little) 12 (twelve c.args.little) nan c.args.a.now c.args.b.now c.args.c.now c.requires.equally_long.0 c.requires.equally_long.1
    c.args.out.now c.requires.out_len c.loop-i.invariant h
