-- Each contract determines its function's answer, and what it leaves in every lent buffer.
-- Each is said to equal one value, so two are equal.
use mathlib.Core.Path.{sym, ◌∙◌}
use Rattle.notation.proofs.Determines.{Determines}
use Rattle.screen_bytes.proofs.paper.Reads as paper
use Rattle.screen_bytes.proofs.paper.Kinds as paper_kinds
use Rattle.screen_bytes.proofs.screen_byte.Reads as screen_byte
use Rattle.screen_bytes.proofs.screen_byte.Kinds as screen_byte_kinds
use Rattle.screen_bytes.proofs.screen_bytes.Reads as screen_bytes
use Rattle.screen_bytes.proofs.screen_bytes.Kinds as screen_bytes_kinds

pub paper-determines : Determines 0 paper_kinds.ps paper_kinds.r paper.Post (λ κs r s. r)
paper-determines κs a x y s t p q = p ∙ sym q

pub screen_byte-determines : Determines 0 screen_byte_kinds.ps screen_byte_kinds.r screen_byte.Post (λ κs r s. r)
screen_byte-determines κs a x y s t p q = p ∙ sym q

pub screen_bytes-determines : Determines 2 screen_bytes_kinds.ps screen_bytes_kinds.r screen_bytes.Post (λ κs r s. r)
screen_bytes-determines κs a x y s t p q = p.0 ∙ sym q.0

pub screen_bytes-bytes_determines : Determines 2 screen_bytes_kinds.ps screen_bytes_kinds.r screen_bytes.Post (λ κs r s. s.1.0.now)
screen_bytes-bytes_determines κs a x y s t p q = p.1 ∙ sym q.1
