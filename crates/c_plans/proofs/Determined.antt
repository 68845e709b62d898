-- The contract of each public function determines its answer, and what it leaves in every lent buffer.
-- Each is said to equal one value, so two are equal.
use mathlib.Core.Path.{sym, ◌∙◌}
use Rattle.notation.proofs.Determines.{Determines}
use Rattle.c_plans.proofs.rindsaddle_read.Reads as read
use Rattle.c_plans.proofs.rindsaddle_read.Kinds as read_kinds
use Rattle.c_plans.proofs.rindsaddle_check.Reads as check
use Rattle.c_plans.proofs.rindsaddle_check.Kinds as check_kinds
use Rattle.c_plans.proofs.rindsaddle_merge.Reads as merge
use Rattle.c_plans.proofs.rindsaddle_merge.Kinds as merge_kinds
use Rattle.c_plans.proofs.rindsaddle_rewrite.Reads as rewrite
use Rattle.c_plans.proofs.rindsaddle_rewrite.Kinds as rewrite_kinds
use Rattle.c_plans.proofs.rindsaddle_join.Reads as join
use Rattle.c_plans.proofs.rindsaddle_join.Kinds as join_kinds
use Rattle.c_plans.proofs.rindsaddle_text.Reads as text
use Rattle.c_plans.proofs.rindsaddle_text.Kinds as text_kinds

pub read-determines : Determines 2 read_kinds.ps read_kinds.r read.Post (λ κs r s. r)
read-determines κs a x y s t p q = p.0 ∙ sym q.0

pub read-told_determines : Determines 2 read_kinds.ps read_kinds.r read.Post (λ κs r s. s.1.0.now)
read-told_determines κs a x y s t p q = p.1 ∙ sym q.1

pub check-determines : Determines 2 check_kinds.ps check_kinds.r check.Post (λ κs r s. r)
check-determines κs a x y s t p q = p.0 ∙ sym q.0

pub check_told-determines : Determines 2 check_kinds.ps check_kinds.r check.Post (λ κs r s. s.1.0.now)
check_told-determines κs a x y s t p q = p.1 ∙ sym q.1

pub merge-determines : Determines 3 merge_kinds.ps merge_kinds.r merge.Post (λ κs r s. r)
merge-determines κs a x y s t p q = p.0 ∙ sym q.0

pub merge-told_determines : Determines 3 merge_kinds.ps merge_kinds.r merge.Post (λ κs r s. s.1.1.0.now)
merge-told_determines κs a x y s t p q = p.1.0 ∙ sym q.1.0

pub merge-out_determines : Determines 3 merge_kinds.ps merge_kinds.r merge.Post (λ κs r s. s.1.0.now)
merge-out_determines κs a x y s t p q = p.1.1 ∙ sym q.1.1

pub rewrite_determines : Determines 3 rewrite_kinds.ps rewrite_kinds.r rewrite.Post (λ κs r s. r)
rewrite_determines κs a x y s t p q = p.0 ∙ sym q.0

pub rewrite_told_determines : Determines 3 rewrite_kinds.ps rewrite_kinds.r rewrite.Post (λ κs r s. s.1.1.1.0.now)
rewrite_told_determines κs a x y s t p q = p.1.0 ∙ sym q.1.0

pub rewrite_out_determines : Determines 3 rewrite_kinds.ps rewrite_kinds.r rewrite.Post (λ κs r s. s.1.1.0.now)
rewrite_out_determines κs a x y s t p q = p.1.1 ∙ sym q.1.1

pub join-determines : Determines 4 join_kinds.ps join_kinds.r join.Post (λ κs r s. r)
join-determines κs a x y s t p q = p.0 ∙ sym q.0

pub join_told-determines : Determines 4 join_kinds.ps join_kinds.r join.Post (λ κs r s. s.1.1.1.1.0.now)
join_told-determines κs a x y s t p q = p.1.0 ∙ sym q.1.0

pub join-out_determines : Determines 4 join_kinds.ps join_kinds.r join.Post (λ κs r s. s.1.1.1.0.now)
join-out_determines κs a x y s t p q = p.1.1 ∙ sym q.1.1

pub text_determines : Determines 2 text_kinds.ps text_kinds.r text.Post (λ κs r s. r)
text_determines κs a x y s t p q = p.size ∙ sym q.size

pub text_buffer_determines : Determines 2 text_kinds.ps text_kinds.r text.Post (λ κs r s. s.1.0.now)
text_buffer_determines κs a x y s t p q = p.contents ∙ sym q.contents
