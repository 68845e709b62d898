-- `channel_from` leaves the samples of one channel.
-- Before the loop's place each stands; a pixel before the last ends within the bytes.
use Rattle.std.proofs.Common.{◌≡◌, ◌+◌, ◌*◌, ◌<◌, ℕ, get_or}
use lib.Ieee.{nan}
use Rattle.pfm.specs.Samples.{sample_at}
use Rattle.pfm.proofs.samples.channel_from.Given as goal

abbrev pub invariant-loop-i : goal.invariant-loop-i
invariant-loop-i l = (k : ℕ) → k < l.i → get_or l.out k nan ≡ sample_at l.little l.s (k * l.size + l.from)
