-- Each contract determines its function's answer.
-- Each answer is said to equal one value, so two are equal.
use Rattle.std.proofs.Common.{sym, ◌∙◌}
use Rattle.notation.proofs.Determines.{Determines}
use Rattle.plan_words.proofs.filling.filled.Reads as filled
use Rattle.plan_words.proofs.filling.filled.Kinds as filled_kinds
use Rattle.plan_words.proofs.places.line_of.Reads as Line_of
use Rattle.plan_words.proofs.places.line_of.Kinds as line_of_kinds
use Rattle.plan_words.proofs.places.word_of.Reads as word_of
use Rattle.plan_words.proofs.places.word_of.Kinds as word_of_kinds
use Rattle.plan_words.proofs.wanted.source.Reads as source
use Rattle.plan_words.proofs.wanted.source.Kinds as source_kinds
use Rattle.plan_words.proofs.wanted.target.Reads as target
use Rattle.plan_words.proofs.wanted.target.Kinds as target_kinds
use Rattle.plan_words.proofs.wanted.floats.Reads as floats
use Rattle.plan_words.proofs.wanted.floats.Kinds as floats_kinds
use Rattle.plan_words.proofs.wanted.version.Reads as version
use Rattle.plan_words.proofs.wanted.version.Kinds as version_kinds
use Rattle.plan_words.proofs.wanted.detect_peak.Reads as detect_peak
use Rattle.plan_words.proofs.wanted.detect_peak.Kinds as detect_peak_kinds
use Rattle.plan_words.proofs.wanted.from_pq.Reads as from_pq
use Rattle.plan_words.proofs.wanted.from_pq.Kinds as from_pq_kinds

pub filled-determines : Determines 1 filled_kinds.ps filled_kinds.r filled.Post (λ κs r s. r)
filled-determines κs a x y s t p q = p ∙ sym q

pub line_of-determines : Determines 1 line_of_kinds.ps line_of_kinds.r Line_of.Post (λ κs r s. r)
line_of-determines κs a x y s t p q = p ∙ sym q

pub word_of-determines : Determines 1 word_of_kinds.ps word_of_kinds.r word_of.Post (λ κs r s. r)
word_of-determines κs a x y s t p q = p ∙ sym q

pub source-determines : Determines 0 source_kinds.ps source_kinds.r source.Post (λ κs r s. r)
source-determines κs a x y s t p q = p ∙ sym q

pub target-determines : Determines 0 target_kinds.ps target_kinds.r target.Post (λ κs r s. r)
target-determines κs a x y s t p q = p ∙ sym q

pub floats-determines : Determines 0 floats_kinds.ps floats_kinds.r floats.Post (λ κs r s. r)
floats-determines κs a x y s t p q = p ∙ sym q

pub version-determines : Determines 0 version_kinds.ps version_kinds.r version.Post (λ κs r s. r)
version-determines κs a x y s t p q = p ∙ sym q

pub detect_peak-determines : Determines 0 detect_peak_kinds.ps detect_peak_kinds.r detect_peak.Post (λ κs r s. r)
detect_peak-determines κs a x y s t p q = p ∙ sym q

pub from_pq-determines : Determines 0 from_pq_kinds.ps from_pq_kinds.r from_pq.Post (λ κs r s. r)
from_pq-determines κs a x y s t p q = p ∙ sym q
