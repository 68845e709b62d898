-- What each function does with the lists of the blocks that it is given. Definitions only.
use Rattle.std.specs.Prelude.{ℕ, List, [], ◌∷◌}
use Rattle.notation.specs.declared.Answer.{Answer}
use Rattle.list.specs.Answer as L
use Rattle.list.specs.Check.{check_of}
use Rattle.list.specs.Check.{Verdict}
use Rattle.list_merge.specs.Merge.{merge_of}
use Rattle.list_join.specs.Join.{join_of}
use Rattle.list_join.specs.declared.Joined.{Joined}
use Rattle.block_read.specs.Block.{paper}
use Rattle.block_read.specs.declared.Block.{Block}
use Rattle.block_read.specs.Block.{Reading}
use Rattle.c_plan.specs.Sent.{sent_after, left_after}
use Rattle.c_plan.specs.declared.sent.Sent.{Sent}
use Rattle.c_told.specs.Told.{after_reading}

-- reading: "the reader's number; told are number, length used, start width, end width": of a refused block's list all are 0
abbrev pub read_sent : Block → Sent
read_sent b = record { number = (paper b.answer).number; length = b.used; start = b.plan.start; end = b.plan.end }

-- a check: "the reader's refusal, else the check's"; told are "number, position, width, version of the block"
abbrev pub checked_of : Block → Answer
checked_of b = after_reading b.answer (L.paper (check_of b.plan))

abbrev pub check_told : Block → List ℕ
check_told b = (checked_of b).number ∷ (checked_of b).position ∷ (checked_of b).width ∷ b.version ∷ []

-- merging: "the list of the block merged and written at the block's own version: the reader's refusal, else the writer's"
abbrev pub merge_sent : Block → ℕ → Sent
merge_sent b room = sent_after (paper b.answer).number (merge_of b.plan).plan b.version room

abbrev pub merge_left : Block → List ℕ → List ℕ
merge_left b old = left_after (paper b.answer).number (merge_of b.plan).plan b.version old

-- writing again: "the list of a block written at this version: the reader's refusal, else the writer's"
abbrev pub rewrite_sent : Block → ℕ → ℕ → Sent
rewrite_sent b version room = sent_after (paper b.answer).number b.plan version room

abbrev pub rewrite_left : Block → ℕ → List ℕ → List ℕ
rewrite_left b version old = left_after (paper b.answer).number b.plan version old

-- joining: "the first block's refusal by the reader, else the second's, else joining's (10, 5 with its position), else the writer's"
abbrev pub first_refusal : Reading → Reading → Verdict → Answer
first_refusal first second verdict = after_reading first (after_reading second (L.paper verdict))

abbrev pub join_of_blocks : Block → Block → Joined
join_of_blocks b c = join_of b.plan c.plan

abbrev pub join_refusal : Block → Block → Answer
join_refusal b c = first_refusal b.answer c.answer (join_of_blocks b c).answer

abbrev pub join_sent : Block → Block → ℕ → ℕ → Sent
join_sent b c version room = sent_after (join_refusal b c).number (join_of_blocks b c).plan version room

-- "number, position, length, end width"
abbrev pub join_told : Block → Block → ℕ → ℕ → List ℕ
join_told b c version room =
    (join_sent b c version room).number
    ∷ (join_refusal b c).position
    ∷ (join_sent b c version room).length
    ∷ (join_sent b c version room).end
    ∷ []

abbrev pub join_left : Block → Block → ℕ → List ℕ → List ℕ
join_left b c version old = left_after (join_refusal b c).number (join_of_blocks b c).plan version old
