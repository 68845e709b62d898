-- Each contract determines its function's answer.
-- Two answers that equal one meaning are equal.
use mathlib.Core.Path.{sym, ◌∙◌}
use Rattle.notation.proofs.Determines.{Determines}
use Rattle.bad_samples.proofs.sum.Reads as sum
use Rattle.bad_samples.proofs.sum.Kinds as sum_kinds
use Rattle.bad_samples.proofs.count.Reads as count
use Rattle.bad_samples.proofs.count.Kinds as count_kinds
use Rattle.bad_samples.proofs.report.Reads as report
use Rattle.bad_samples.proofs.report.Kinds as report_kinds

pub sum-determines : Determines 0 sum_kinds.ps sum_kinds.r sum.Post (λ κs r s. r)
sum-determines κs a x y s t p q = p ∙ sym q

pub count-determines : Determines 3 count_kinds.ps count_kinds.r count.Post (λ κs r s. r)
count-determines κs a x y s t p q = p ∙ sym q

pub report-determines : Determines 3 report_kinds.ps report_kinds.r report.Post (λ κs r s. r)
report-determines κs a x y s t p q = p ∙ sym q
