-- The contract of each public function determines its answer.
-- Two answers that equal one meaning are equal.
use mathlib.Core.Path.{sym, ◌∙◌}
use Rattle.notation.proofs.Determines.{Determines}
use Rattle.encoding.proofs.channels.Reads as channels
use Rattle.encoding.proofs.channels.Kinds as channels_kinds
use Rattle.encoding.proofs.is_hdr.Reads as is_hdr
use Rattle.encoding.proofs.is_hdr.Kinds as is_hdr_kinds
use Rattle.encoding.proofs.ranges.in_range.Reads as in_range
use Rattle.encoding.proofs.ranges.in_range.Kinds as in_range_kinds
use Rattle.encoding.proofs.named.same_colour_space.Reads as same_colour_space
use Rattle.encoding.proofs.named.same_colour_space.Kinds as same_colour_space_kinds
use Rattle.encoding.proofs.named.same_intent.Reads as same_intent
use Rattle.encoding.proofs.named.same_intent.Kinds as same_intent_kinds
use Rattle.encoding.proofs.named.same_white_point.Reads as same_white_point
use Rattle.encoding.proofs.named.same_white_point.Kinds as same_white_point_kinds
use Rattle.encoding.proofs.named.same_primaries.Reads as same_primaries
use Rattle.encoding.proofs.named.same_primaries.Kinds as same_primaries_kinds
use Rattle.encoding.proofs.named.is_equivalent.Reads as is_equivalent
use Rattle.encoding.proofs.named.is_equivalent.Kinds as is_equivalent_kinds
use Rattle.encoding.proofs.icc.icc_channels.Reads as icc_channels
use Rattle.encoding.proofs.icc.icc_channels.Kinds as icc_channels_kinds

pub channels-determines : Determines 0 channels_kinds.ps channels_kinds.r channels.Post (λ κs r s. r)
channels-determines κs a x y s t p q = p ∙ sym q

pub is_hdr-determines : Determines 0 is_hdr_kinds.ps is_hdr_kinds.r is_hdr.Post (λ κs r s. r)
is_hdr-determines κs a x y s t p q = p ∙ sym q

pub in_range-determines : Determines 0 in_range_kinds.ps in_range_kinds.r in_range.Post (λ κs r s. r)
in_range-determines κs a x y s t p q = p ∙ sym q

pub same_colour_space-determines : Determines 0 same_colour_space_kinds.ps same_colour_space_kinds.r same_colour_space.Post (λ κs r s. r)
same_colour_space-determines κs a x y s t p q = p ∙ sym q

pub same_intent-determines : Determines 0 same_intent_kinds.ps same_intent_kinds.r same_intent.Post (λ κs r s. r)
same_intent-determines κs a x y s t p q = p ∙ sym q

pub same_white_point-determines : Determines 0 same_white_point_kinds.ps same_white_point_kinds.r same_white_point.Post (λ κs r s. r)
same_white_point-determines κs a x y s t p q = p ∙ sym q

pub same_primaries-determines : Determines 0 same_primaries_kinds.ps same_primaries_kinds.r same_primaries.Post (λ κs r s. r)
same_primaries-determines κs a x y s t p q = p ∙ sym q

pub is_equivalent-determines : Determines 0 is_equivalent_kinds.ps is_equivalent_kinds.r is_equivalent.Post (λ κs r s. r)
is_equivalent-determines κs a x y s t p q = p ∙ sym q

pub icc_channels-determines : Determines 1 icc_channels_kinds.ps icc_channels_kinds.r icc_channels.Post (λ κs r s. r)
icc_channels-determines κs a x y s t p q = p ∙ sym q
