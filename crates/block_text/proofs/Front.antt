-- The first 1,192 bytes decide the text: `planlist` reads 4,096, and what follows changes nothing.
-- No block is longer (`enough`).
use Prim.Native.Nat.{ℕ, ◌≤◌}
use mathlib.Core.Path.{◌≡◌, ap}
use mathlib.Core.List.{List}
use lib.ListN.{take}
use Rattle.block_read.proofs.Enough.{enough}
use Rattle.block_text.specs.Listing.{block_text, text_of}

pub front : (bytes : List ℕ) (k : ℕ) → 1192 ≤ k → text_of (take k bytes) ≡ text_of bytes
front bytes k h = ap block_text (enough bytes k h)
