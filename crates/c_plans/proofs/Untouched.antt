-- "a refusal leaves it untouched", and tells length 0: of merging, writing again and joining; a refused reading tells zeros.
-- What is refused before is not written, the writer leaves the bytes of what it refuses (Sending), and a refused block's list is the empty one.
use Prim.Native.Nat.{ℕ}
use mathlib.Core.Path.{◌≡◌, ap}
use mathlib.Core.List.{List}
use lib.ListN.{length}
use Rattle.notation.specs.declared.Answer.{Answer}
use Rattle.list_merge.specs.Merge.{merge_of}
use Rattle.block_read.specs.Block.{paper, read_of}
use Rattle.block_read.specs.declared.Block.{Block}
use Rattle.block_read.proofs.Exactly.{refused-gives-nothing}
use Rattle.c_plan.specs.Sent.{refused}
use Rattle.c_plans.specs.Lists.{read_sent, merge_sent, merge_left, rewrite_sent, rewrite_left, join_of_blocks, join_refusal, join_sent, join_left}
use Rattle.c_plan.proofs.Sending.{untouched}

pub merge-untouched : (b : Block) (old : List ℕ) → ¬ ((merge_sent b (length old)).number ≡ 0) → ((merge_sent b (length old)).length ≡ 0) × (merge_left b old ≡ old)
merge-untouched b old = untouched (paper b.answer).number (merge_of b.plan).plan b.version old

pub rewrite_untouched : (b : Block) (v : ℕ) (old : List ℕ) → ¬ ((rewrite_sent b v (length old)).number ≡ 0) → ((rewrite_sent b v (length old)).length ≡ 0) × (rewrite_left b v old ≡ old)
rewrite_untouched b v old = untouched (paper b.answer).number b.plan v old

pub join-untouched : (b c : Block) (v : ℕ) (old : List ℕ) → ¬ ((join_sent b c v (length old)).number ≡ 0) → ((join_sent b c v (length old)).length ≡ 0) × (join_left b c v old ≡ old)
join-untouched b c v old = untouched (join_refusal b c).number (join_of_blocks b c).plan v old

pub read-refused : (bytes : List ℕ) → ¬ ((read_sent (read_of bytes)).number ≡ 0) → read_sent (read_of bytes) ≡ refused (read_sent (read_of bytes)).number
read-refused bytes n = ap read_sent (refused-gives-nothing bytes (λ e. n (ap (λ (a : Answer). a.number) e)))
