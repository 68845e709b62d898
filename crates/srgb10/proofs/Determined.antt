-- Each contract determines its function's answer.
-- An answer is said to equal one value; and there is one table.
use mathlib.Core.Path.{sym, ◌∙◌}
use Rattle.notation.proofs.Determines.{Determines}
use Rattle.srgb10.proofs.Levels.{one_table}
use Rattle.srgb10.proofs.table.entries.Reads as entries
use Rattle.srgb10.proofs.table.entries.Kinds as entries_kinds
use Rattle.srgb10.proofs.level.Reads as level
use Rattle.srgb10.proofs.level.Kinds as level_kinds
use Rattle.srgb10.proofs.code.Reads as code
use Rattle.srgb10.proofs.code.Kinds as code_kinds

pub entries-determines : Determines 0 entries_kinds.ps entries_kinds.r entries.Post (λ κs r s. r)
entries-determines κs a x y s t p q = one_table x y p q

pub level-determines : Determines 0 level_kinds.ps level_kinds.r level.Post (λ κs r s. r)
level-determines κs a x y s t p q = p.1 ∙ sym q.1

pub code-determines : Determines 0 code_kinds.ps code_kinds.r code.Post (λ κs r s. r)
code-determines κs a x y s t p q = p.1 ∙ sym q.1
