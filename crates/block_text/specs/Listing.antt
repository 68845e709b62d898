-- "A read refusal prints `refused N` alone; a width refusal replaces the last line by `refused 5 at P`." (01, Plan block). Definitions only.
use Rattle.std.specs.Prelude.{ℕ, ◌+◌, List, [], ◌∷◌, ◌++◌, eqb, Ok, Err}
use Rattle.notation.specs.Choice.{when◌then◌else◌}
use Rattle.notation.specs.Text.{ascii}
use Rattle.list.specs.Lists.{ops_of}
use Rattle.op.specs.declared.Op.{Op}
use Rattle.list.specs.declared.Plan.{Plan}
use Rattle.list.specs.Check.{check_of}
use Rattle.list.specs.Check.{Verdict}
use Rattle.list.specs.declared.CheckError.TheVariants.{Malformed, Misfit}
use Rattle.block_read.specs.Block.{paper, read_of}
use Rattle.block_read.specs.declared.Block.{Block}
use Rattle.block_text.specs.Words.{title_of, decimal, counted, ending}

-- "start 1 ops 3"
abbrev pub first_line : ℕ → ℕ → List ℕ
first_line start count = counted (ascii "start ") start ++ ending (ascii " ops ") count

-- "0 Clip"; "0 TransferFunction retired"
abbrev pub op_line : ℕ → Op → List ℕ
op_line i o = decimal i ++ (ascii " " ++ (title_of o ++ ascii "\n"))

-- a line for each op, the first of them numbered i
abbrev pub op_lines : ℕ → List Op → List ℕ
op_lines i [] = []
op_lines i (o ∷ os) = op_line i o ++ op_lines (i + 1) os

-- all lines but the last
abbrev pub lines : Plan → List ℕ
lines p = first_line p.start p.count ++ op_lines 0 (ops_of p)

-- "refused N"
abbrev pub refusal : ℕ → List ℕ
refusal n = ending (ascii "refused ") n

-- "end 1"; "a width refusal replaces the last line by `refused 5 at P`". No list that is read is refused by 10.
abbrev pub list_text : Plan → Verdict → List ℕ
list_text p (Ok width) = lines p ++ ending (ascii "end ") width
list_text p (Err (Misfit position)) = lines p ++ ending (ascii "refused 5 at ") position
list_text p (Err Malformed) = refusal 10

-- what is printed for a list
abbrev pub plan_text : Plan → List ℕ
plan_text p = list_text p (check_of p)

-- "a read refusal prints `refused N` alone"
abbrev pub block_text : Block → List ℕ
block_text b = when eqb (paper b.answer).number 0 then plan_text b.plan else refusal (paper b.answer).number

-- what is printed for these bytes
abbrev pub text_of : List ℕ → List ℕ
text_of bytes = block_text (read_of bytes)
