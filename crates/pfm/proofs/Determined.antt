-- Each contract determines its function's answer, and what it leaves in the lent buffers.
-- Each is said to equal one value, so two are equal.
use mathlib.Core.Path.{sym, ◌∙◌}
use Rattle.notation.proofs.Determines.{Determines}
use Rattle.channels.specs.Channels.{channels}
use Rattle.pfm.proofs.headers.read.Reads as read
use Rattle.pfm.proofs.headers.read.Kinds as read_kinds
use Rattle.pfm.proofs.samples.three_from.Reads as three_from
use Rattle.pfm.proofs.samples.three_from.Kinds as three_from_kinds
use Rattle.pfm.proofs.samples.one_from.Reads as one_from
use Rattle.pfm.proofs.samples.one_from.Kinds as one_from_kinds
use Rattle.pfm.proofs.samples.channels_from.Reads as channels_from
use Rattle.pfm.proofs.samples.channels_from.Kinds as channels_from_kinds
use Rattle.pfm.proofs.samples.three_to.Reads as three_to
use Rattle.pfm.proofs.samples.three_to.Kinds as three_to_kinds
use Rattle.pfm.proofs.samples.one_to.Reads as one_to
use Rattle.pfm.proofs.samples.one_to.Kinds as one_to_kinds
use Rattle.pfm.proofs.pixmap.pixels_to.Reads as pixels_to
use Rattle.pfm.proofs.pixmap.pixels_to.Kinds as pixels_to_kinds

pub read-determines : Determines 1 read_kinds.ps read_kinds.r read.Post (λ κs r s. r)
read-determines κs a x y s t p q = p ∙ sym q

pub three_from-determines : Determines 4 three_from_kinds.ps three_from_kinds.r three_from.Post (λ κs r s. r)
three_from-determines κs a x y s t p q = p.0 ∙ sym q.0

pub three_from-channels_determines : Determines 4 three_from_kinds.ps three_from_kinds.r three_from.Post (λ κs r s. channels s.1.1.0.now s.1.1.1.0.now s.1.1.1.1.0.now)
three_from-channels_determines κs a x y s t p q = p.1 ∙ sym q.1

pub one_from-determines : Determines 4 one_from_kinds.ps one_from_kinds.r one_from.Post (λ κs r s. r)
one_from-determines κs a x y s t p q = p.0 ∙ sym q.0

pub one_from-channels_determines : Determines 4 one_from_kinds.ps one_from_kinds.r one_from.Post (λ κs r s. channels s.1.1.0.now s.1.1.1.0.now s.1.1.1.1.0.now)
one_from-channels_determines κs a x y s t p q = p.1 ∙ sym q.1

pub channels_from-determines : Determines 4 channels_from_kinds.ps channels_from_kinds.r channels_from.Post (λ κs r s. r)
channels_from-determines κs a x y s t p q = p.0 ∙ sym q.0

pub channels_from-channels_determines :
    Determines 4 channels_from_kinds.ps channels_from_kinds.r channels_from.Post (λ κs r s. channels s.1.1.1.0.now s.1.1.1.1.0.now s.1.1.1.1.1.0.now)
channels_from-channels_determines κs a x y s t p q = p.1 ∙ sym q.1

pub three_to-determines : Determines 4 three_to_kinds.ps three_to_kinds.r three_to.Post (λ κs r s. r)
three_to-determines κs a x y s t p q = p.0 ∙ sym q.0

pub three_to-bytes_determines : Determines 4 three_to_kinds.ps three_to_kinds.r three_to.Post (λ κs r s. s.1.1.1.1.0.now)
three_to-bytes_determines κs a x y s t p q = p.1 ∙ sym q.1

pub one_to-determines : Determines 2 one_to_kinds.ps one_to_kinds.r one_to.Post (λ κs r s. r)
one_to-determines κs a x y s t p q = p.0 ∙ sym q.0

pub one_to-bytes_determines : Determines 2 one_to_kinds.ps one_to_kinds.r one_to.Post (λ κs r s. s.1.1.0.now)
one_to-bytes_determines κs a x y s t p q = p.1 ∙ sym q.1

pub pixels_to-determines : Determines 4 pixels_to_kinds.ps pixels_to_kinds.r pixels_to.Post (λ κs r s. r)
pixels_to-determines κs a x y s t p q = p.0 ∙ sym q.0

pub pixels_to-bytes_determines : Determines 4 pixels_to_kinds.ps pixels_to_kinds.r pixels_to.Post (λ κs r s. s.1.1.1.0.now)
pixels_to-bytes_determines κs a x y s t p q = p.1 ∙ sym q.1
