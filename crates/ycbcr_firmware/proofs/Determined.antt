-- Each contract determines its function's answer.
-- Two answers that equal one meaning are equal.
use mathlib.Core.Path.{sym, ◌∙◌}
use Rattle.notation.proofs.Determines.{Determines}
use Rattle.ycbcr_firmware.proofs.paper.Reads as paper
use Rattle.ycbcr_firmware.proofs.paper.Kinds as paper_kinds
use Rattle.ycbcr_firmware.proofs.known_firmware.Reads as known_firmware
use Rattle.ycbcr_firmware.proofs.known_firmware.Kinds as known_firmware_kinds
use Rattle.ycbcr_firmware.proofs.weights_of.Reads as weights_of
use Rattle.ycbcr_firmware.proofs.weights_of.Kinds as weights_of_kinds
use Rattle.ycbcr_firmware.proofs.judge.Reads as judge
use Rattle.ycbcr_firmware.proofs.judge.Kinds as judge_kinds

pub paper-determines : Determines 0 paper_kinds.ps paper_kinds.r paper.Post (λ κs r s. r)
paper-determines κs a x y s t p q = p ∙ sym q

pub known_firmware-determines : Determines 0 known_firmware_kinds.ps known_firmware_kinds.r known_firmware.Post (λ κs r s. r)
known_firmware-determines κs a x y s t p q = p ∙ sym q

pub weights_of-determines : Determines 0 weights_of_kinds.ps weights_of_kinds.r weights_of.Post (λ κs r s. r)
weights_of-determines κs a x y s t p q = p ∙ sym q

pub judge-determines : Determines 0 judge_kinds.ps judge_kinds.r judge.Post (λ κs r s. r)
judge-determines κs a x y s t p q = p ∙ sym q
