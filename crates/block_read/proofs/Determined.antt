-- The contract of each public function determines its answer; of `rest`, what it refers to and where that lies.
-- Two answers that equal one meaning are equal.
use mathlib.Core.Path.{sym, ◌∙◌}
use Rattle.notation.proofs.Determines.{Determines}
use Rattle.block_read.proofs.paper.Reads as paper
use Rattle.block_read.proofs.paper.Kinds as paper_kinds
use Rattle.block_read.proofs.known_version.Reads as known_version
use Rattle.block_read.proofs.known_version.Kinds as known_version_kinds
use Rattle.block_read.proofs.read.Reads as read
use Rattle.block_read.proofs.read.Kinds as read_kinds
use Rattle.block_read.proofs.rest.Reads as rest
use Rattle.block_read.proofs.rest.Kinds as rest_kinds

pub paper-determines : Determines 0 paper_kinds.ps paper_kinds.r paper.Post (λ κs r s. r)
paper-determines κs a x y s t p q = p ∙ sym q

pub known_version-determines : Determines 0 known_version_kinds.ps known_version_kinds.r known_version.Post (λ κs r s. r)
known_version-determines κs a x y s t p q = p ∙ sym q

pub read-determines : Determines 1 read_kinds.ps read_kinds.r read.Post (λ κs r s. r)
read-determines κs a x y s t p q = p ∙ sym q

pub rest-determines : Determines 1 rest_kinds.ps rest_kinds.r rest.Post (λ κs r s. r.now)
rest-determines κs a x y s t p q = p.contents ∙ sym q.contents

pub rest-place_determines : Determines 1 rest_kinds.ps rest_kinds.r rest.Post (λ κs r s. r.ref_ptr)
rest-place_determines κs a x y s t p q = p.place ∙ sym q.place
