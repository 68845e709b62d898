-- `put_samples` puts the bytes of each sample.
-- The loop argument is `Laying`'s.
use lib.ListN.{drop}
use Rattle.buffer.proofs.Putting.{Goes}
use Rattle.block_write.specs.Bytes.{joined}
use Rattle.pfm.specs.Samples.{sample_bytes}
use Rattle.pfm.proofs.samples.put_samples.Given as goal

abbrev pub invariant-loop-x : goal.invariant-loop-x
invariant-loop-x l = Goes l.initial.out 0 (joined (sample_bytes l.little) l.a) l.out l.at (joined (sample_bytes l.little) (drop l.x-index l.a))
