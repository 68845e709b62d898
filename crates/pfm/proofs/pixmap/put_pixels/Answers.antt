-- `put_pixels` puts three bytes for each pixel.
-- The loop argument is `Laying`'s, for rows of bytes.
use Rattle.std.proofs.Common.{◌≤◌, length, refl, arith}
use Rattle.pfm.specs.Pixmap.{Pixel, pixel, three_bytes}
use Rattle.pfm.proofs.Laying.{row_room, rows-again, rows_end, rows_start}
use Rattle.pfm.proofs.pixmap.put_pixels.Goals as goal

pub loop-i-init : goal.loop-i-init
loop-i-init c = rows_start pixel three_bytes 3 (λ (p : Pixel). refl) 0 c.args.r.now c.args.g.now c.args.b.now c.requires.g_len.0 c.requires.g_len.1 c.args.out.now c.requires.out_len

pub loop-i-preserved : goal.loop-i-preserved
loop-i-preserved c =
    let o = row_room pixel three_bytes 3 (λ (p : Pixel). refl) 0 c.args.r.now c.args.g.now c.args.b.now c.requires.g_len.0 c.requires.g_len.1 c.args.out.now c.requires.out_len c.loop-i.invariant c.loop-i-test.true in
    rows-again pixel three_bytes 3 (λ (p : Pixel). refl) 0 c.args.r.now c.args.g.now c.args.b.now c.requires.g_len.0 c.requires.g_len.1 c.args.out.now c.requires.out_len c.loop-i.invariant c.loop-i-test.true (c.put-at.ensures.whole o)

pub returns : goal.returns
returns c =
    let h : length c.args.r.now ≤ c.loop-i.i = omega arith in
    rows_end pixel three_bytes 3 (λ (p : Pixel). refl) 0 c.args.r.now c.args.g.now c.args.b.now c.requires.g_len.0 c.requires.g_len.1 c.args.out.now c.requires.out_len c.loop-i.invariant h
