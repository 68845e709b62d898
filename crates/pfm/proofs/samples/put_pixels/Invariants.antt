-- `put_pixels` puts the bytes of each pixel.
-- The loop argument is `Laying`'s, for the triples of the samples.
use lib.ListN.{drop}
use Rattle.buffer.proofs.Putting.{Goes}
use Rattle.channels.specs.Channels.{triples}
use Rattle.block_write.specs.Bytes.{joined}
use Rattle.pfm.specs.Samples.{pixel_bytes}
use Rattle.pfm.proofs.samples.put_pixels.Given as goal

abbrev pub invariant-loop-i : goal.invariant-loop-i
invariant-loop-i l = Goes l.initial.out 0 (joined (pixel_bytes l.little) (triples l.a l.b l.c)) l.out l.at (joined (pixel_bytes l.little) (drop l.i (triples l.a l.b l.c)))
