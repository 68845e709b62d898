-- The contract of each public function determines its answer.
-- Two answers that equal one meaning are equal.
use mathlib.Core.Path.{sym, ◌∙◌}
use Rattle.notation.proofs.Determines.{Determines}
use Rattle.plan_stages.proofs.decoding.decode.Reads as decode
use Rattle.plan_stages.proofs.decoding.decode.Kinds as decode_kinds
use Rattle.plan_stages.proofs.decoding.decoded.Reads as decoded
use Rattle.plan_stages.proofs.decoding.decoded.Kinds as decoded_kinds
use Rattle.plan_stages.proofs.conversion.convert.Reads as convert
use Rattle.plan_stages.proofs.conversion.convert.Kinds as convert_kinds
use Rattle.plan_stages.proofs.conversion.converted.Reads as converted
use Rattle.plan_stages.proofs.conversion.converted.Kinds as converted_kinds
use Rattle.plan_stages.proofs.tone.tone_map.Reads as tone_map
use Rattle.plan_stages.proofs.tone.tone_map.Kinds as tone_map_kinds
use Rattle.plan_stages.proofs.tone.pq_to_hlg.Reads as pq_to_hlg
use Rattle.plan_stages.proofs.tone.pq_to_hlg.Kinds as pq_to_hlg_kinds
use Rattle.plan_stages.proofs.curve.target_curve.Reads as target_curve
use Rattle.plan_stages.proofs.curve.target_curve.Kinds as target_curve_kinds

pub decode-determines : Determines 0 decode_kinds.ps decode_kinds.r decode.Post (λ κs r s. r)
decode-determines κs a x y s t p q = p ∙ sym q

pub decoded-determines : Determines 0 decoded_kinds.ps decoded_kinds.r decoded.Post (λ κs r s. r)
decoded-determines κs a x y s t p q = p ∙ sym q

pub convert-determines : Determines 0 convert_kinds.ps convert_kinds.r convert.Post (λ κs r s. r)
convert-determines κs a x y s t p q = p ∙ sym q

pub converted-determines : Determines 0 converted_kinds.ps converted_kinds.r converted.Post (λ κs r s. r)
converted-determines κs a x y s t p q = p ∙ sym q

pub tone_map-determines : Determines 0 tone_map_kinds.ps tone_map_kinds.r tone_map.Post (λ κs r s. r)
tone_map-determines κs a x y s t p q = p ∙ sym q

pub pq_to_hlg-determines : Determines 0 pq_to_hlg_kinds.ps pq_to_hlg_kinds.r pq_to_hlg.Post (λ κs r s. r)
pq_to_hlg-determines κs a x y s t p q = p ∙ sym q

pub target_curve-determines : Determines 0 target_curve_kinds.ps target_curve_kinds.r target_curve.Post (λ κs r s. r)
target_curve-determines κs a x y s t p q = p ∙ sym q
