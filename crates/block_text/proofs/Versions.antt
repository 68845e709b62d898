-- The text of a block that is not of version 2 is what it was before there was one; and blocks of either version with one list have one text.
-- Such a block is read as it was, and the text goes by the answer and the list.
use Prim.Native.Nat.{ℕ}
use mathlib.Core.Path.{◌≡◌, ap}
use mathlib.Core.List.{List}
use Rattle.block_read.specs.Block.{version_of, read_of}
use Rattle.block_read.proofs.First.{first_of, first-version}
use Rattle.block_text.specs.Listing.{block_text, text_of}

pub first-text : (bytes : List ℕ) → ¬ (version_of bytes ≡ 2) → text_of bytes ≡ block_text (first_of bytes)
first-text bytes n = ap block_text (first-version bytes n)

pub same_text : (a b : List ℕ) → (read_of a).answer ≡ (read_of b).answer → (read_of a).plan ≡ (read_of b).plan → text_of a ≡ text_of b
same_text a b e f = rw (e, f)
