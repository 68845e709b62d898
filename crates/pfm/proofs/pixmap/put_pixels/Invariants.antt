-- `put_pixels` puts three bytes for each pixel.
-- The loop argument is `Laying`'s, for rows of bytes.
use lib.ListN.{drop}
use Rattle.buffer.proofs.Putting.{Goes}
use Rattle.channels.specs.Channels.{zip3}
use Rattle.block_write.specs.Bytes.{joined}
use Rattle.pfm.specs.Pixmap.{pixel, three_bytes}
use Rattle.pfm.proofs.pixmap.put_pixels.Given as goal

abbrev pub invariant-loop-i : goal.invariant-loop-i
invariant-loop-i l = Goes l.initial.out 0 (joined three_bytes (zip3 pixel l.r l.g l.b)) l.out l.at (joined three_bytes (drop l.i (zip3 pixel l.r l.g l.b)))
