-- No text is longer than 928 bytes, so 1,024 are enough.
-- A line of an op has at most 28 bytes, that of a transfer function which is retired, and there are at most 32 of them.
use Rattle.std.specs.Prelude.{Ok, Err}
use Prim.Native.Nat.{ℕ, ◌+◌, ◌*◌, ◌≤◌}
use mathlib.Core.Path.{◌≡◌, refl, ap}
use mathlib.Core.Bool.{Bool, true, false}
use mathlib.Core.List.{List, [], ◌∷◌, ◌++◌}
use native.Mathlib.Omega.{arith}
use lib.Dec.{eqb, ltb}
use lib.ListN.{length, length-append}
use Rattle.notation.specs.Choice.{when◌then◌else◌}
use Rattle.notation.specs.Text.{ascii}
use Rattle.list.specs.Lists.{ops_of, Lawful}
use Rattle.op.specs.Retired.{is_unknown}
use Rattle.op.specs.declared.Op.{Op}
use Rattle.op.specs.declared.Op.TheVariants as O
use Rattle.list.specs.declared.Plan.{Plan}
use Rattle.list.proofs.Walk.{count-ops}
use Rattle.list.specs.Check.{check_of}
use Rattle.list.specs.Check.{Verdict}
use Rattle.list.specs.declared.CheckError.TheVariants.{Malformed, Misfit}
use Rattle.block_read.specs.Block.{paper, read_of}
use Rattle.block_read.specs.declared.Block.{Block}
use Rattle.block_text.specs.Words.{title_of, decimal, counted, ending}
use Rattle.block_text.specs.Listing.{first_line, op_line, op_lines, lines, list_text, plan_text, block_text, text_of}
use Rattle.list.proofs.Bounds.{passes-lawful, misfit-lawful}

either : {A : Type 0} (P : A → Type 0) (b : Bool) {x y : A} → P x → P y → P (when b then x else y)
either P true p q = p
either P false p q = q

decimal-short : (n : ℕ) → length (decimal n) ≤ 2
decimal-short n = either (λ (s : List ℕ). length s ≤ 2) (ltb n 10) (omega arith) (omega arith)

counted-short : (words : List ℕ) (n : ℕ) → length (counted words n) ≤ length words + 2
counted-short words n = omega (arith, length-append words (decimal n), decimal-short n)

ending-short : (words : List ℕ) (n : ℕ) → length (ending words n) ≤ length words + 3
ending-short words n = omega (arith, length-append (counted words n) (ascii "\n"), counted-short words n)

title_short : (o : Op) → length (title_of o) ≤ 24
title_short (O.XybToMixedLms bias intensity) = omega arith
title_short (O.LumaToXyz illuminant) = omega arith
title_short O.XyzToLuma = omega arith
title_short (O.Matrix m) = omega arith
title_short (O.TransferFunction curve params inverse) = either (λ (s : List ℕ). length (ascii "TransferFunction" ++ s) ≤ 24) (is_unknown curve) (omega arith) (omega arith)
title_short (O.HlgInverseOotf params) = omega arith
title_short (O.ToneMapRec2408 params display detect) = omega arith
title_short (O.ToneMapLumaRec2408 params display detect) = omega arith
title_short (O.GamutMap luminances factor) = omega arith
title_short O.Clip = omega arith

line-short : (i : ℕ) (o : Op) → length (op_line i o) ≤ 28
line-short i o =
    omega (arith, length-append (decimal i) (ascii " " ++ (title_of o ++ ascii "\n")), length-append (title_of o) (ascii "\n"), decimal-short i, title_short o)

lines-short : (i : ℕ) (os : List Op) → length (op_lines i os) ≤ 28 * length os
lines-short i [] = omega arith
lines-short i (o ∷ os) = omega (arith, length-append (op_line i o) (op_lines (i + 1) os), line-short i o, lines-short (i + 1) os)

first_short : (start count : ℕ) → length (first_line start count) ≤ 16
first_short start count =
    omega (arith, length-append (counted (ascii "start ") start) (ending (ascii " ops ") count), counted-short (ascii "start ") start, ending-short (ascii " ops ") count)

module _ (p : Plan) where
  -- behind the first line there is room for those of the ops
  pub ops_fit : (s : List ℕ) → s ≡ first_line p.start p.count → Lawful p → length s + length (op_lines 0 (ops_of p)) ≤ 912
  ops_fit s e l = omega (arith, ap length e, first_short p.start p.count, lines-short 0 (ops_of p), count-ops p.count p.ops, l.0.1)

  pub all_short : (s : List ℕ) → s ≡ lines p → Lawful p → length s ≤ 912
  all_short s e l = omega (arith, ap length e, length-append (first_line p.start p.count) (op_lines 0 (ops_of p)), ops_fit _ refl l)

  list-short : (v : Verdict) → check_of p ≡ v → length (list_text p v) ≤ 928
  list-short (Ok w) e = omega (arith, length-append (lines p) (ending (ascii "end ") w), all_short _ refl (passes-lawful p e), ending-short (ascii "end ") w)
  list-short (Err (Misfit i)) e = omega (arith, length-append (lines p) (ending (ascii "refused 5 at ") i), all_short _ refl (misfit-lawful p e), ending-short (ascii "refused 5 at ") i)
  list-short (Err Malformed) e = omega (arith, ending-short (ascii "refused ") 10)

pub plan-short : (p : Plan) → length (plan_text p) ≤ 928
plan-short p = list-short p (check_of p) refl

block-short : (b : Block) → length (block_text b) ≤ 928
block-short b =
    either (λ (s : List ℕ). length s ≤ 928) (eqb (paper b.answer).number 0) (plan-short b.plan) (omega (arith, ending-short (ascii "refused ") (paper b.answer).number))

pub short : (bytes : List ℕ) → length (text_of bytes) ≤ 928
short bytes = block-short (read_of bytes)
