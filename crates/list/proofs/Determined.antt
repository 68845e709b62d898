-- The contract of each public function determines its answer.
-- Two answers that equal one meaning are equal.
use mathlib.Core.Path.{sym, ◌∙◌}
use Rattle.notation.proofs.Determines.{Determines}
use Rattle.list.proofs.empty.Reads as empty
use Rattle.list.proofs.empty.Kinds as empty_kinds
use Rattle.list.proofs.well_formed.Reads as well_formed
use Rattle.list.proofs.well_formed.Kinds as well_formed_kinds
use Rattle.list.proofs.lawful.Reads as lawful
use Rattle.list.proofs.lawful.Kinds as lawful_kinds
use Rattle.list.proofs.kept.Reads as kept
use Rattle.list.proofs.kept.Kinds as kept_kinds
use Rattle.list.proofs.push.Reads as push
use Rattle.list.proofs.push.Kinds as push_kinds
use Rattle.list.proofs.checking.check.Reads as check
use Rattle.list.proofs.checking.check.Kinds as check_kinds
use Rattle.list.proofs.checking.paper.Reads as paper
use Rattle.list.proofs.checking.paper.Kinds as paper_kinds

pub empty-determines : Determines 0 empty_kinds.ps empty_kinds.r empty.Post (λ κs r s. r)
empty-determines κs a x y s t p q = p ∙ sym q

pub well_formed-determines : Determines 0 well_formed_kinds.ps well_formed_kinds.r well_formed.Post (λ κs r s. r)
well_formed-determines κs a x y s t p q = p ∙ sym q

pub lawful-determines : Determines 0 lawful_kinds.ps lawful_kinds.r lawful.Post (λ κs r s. r)
lawful-determines κs a x y s t p q = p ∙ sym q

pub kept-determines : Determines 0 kept_kinds.ps kept_kinds.r kept.Post (λ κs r s. r)
kept-determines κs a x y s t p q = p ∙ sym q

pub push-determines : Determines 0 push_kinds.ps push_kinds.r push.Post (λ κs r s. r)
push-determines κs a x y s t p q = p ∙ sym q

pub check-determines : Determines 0 check_kinds.ps check_kinds.r check.Post (λ κs r s. r)
check-determines κs a x y s t p q = p ∙ sym q

pub paper-determines : Determines 0 paper_kinds.ps paper_kinds.r paper.Post (λ κs r s. r)
paper-determines κs a x y s t p q = p ∙ sym q
