-- Each exported contract determines the answer, the words, what is told, and of a strip the three channels that are left.
-- Each is said to equal one value, so two are equal.
use mathlib.Core.Path.{sym, ◌∙◌}
use Rattle.notation.proofs.Determines.{Determines}
use Rattle.channels.specs.Channels.{channels}
use Rattle.c_strips.proofs.rindsaddle_open.Reads as opening
use Rattle.c_strips.proofs.rindsaddle_open.Kinds as opening_kinds
use Rattle.c_strips.proofs.rindsaddle_strip.Reads as strip
use Rattle.c_strips.proofs.rindsaddle_strip.Kinds as strip_kinds
use Rattle.c_strips.proofs.rindsaddle_close.Reads as close
use Rattle.c_strips.proofs.rindsaddle_close.Kinds as close_kinds

pub open-determines : Determines 3 opening_kinds.ps opening_kinds.r opening.Post (λ κs r s. r)
open-determines κs a x y s t p q = p.0 ∙ sym q.0

pub open_words-determines : Determines 3 opening_kinds.ps opening_kinds.r opening.Post (λ κs r s. s.1.0.now)
open_words-determines κs a x y s t p q = p.1.0 ∙ sym q.1.0

pub open_told-determines : Determines 3 opening_kinds.ps opening_kinds.r opening.Post (λ κs r s. s.1.1.0.now)
open_told-determines κs a x y s t p q = p.1.1 ∙ sym q.1.1

pub strip-determines : Determines 6 strip_kinds.ps strip_kinds.r strip.Post (λ κs r s. r)
strip-determines κs a x y s t p q = p.0 ∙ sym q.0

pub strip_words-determines : Determines 6 strip_kinds.ps strip_kinds.r strip.Post (λ κs r s. s.1.0.now)
strip_words-determines κs a x y s t p q = p.1.0 ∙ sym q.1.0

pub strip-channels_determines : Determines 6 strip_kinds.ps strip_kinds.r strip.Post (λ κs r s. channels s.1.1.0.now s.1.1.1.0.now s.1.1.1.1.0.now)
strip-channels_determines κs a x y s t p q = p.1.1.0 ∙ sym q.1.1.0

pub strip_told-determines : Determines 6 strip_kinds.ps strip_kinds.r strip.Post (λ κs r s. s.1.1.1.1.1.0.now)
strip_told-determines κs a x y s t p q = p.1.1.1 ∙ sym q.1.1.1

pub close-determines : Determines 3 close_kinds.ps close_kinds.r close.Post (λ κs r s. r)
close-determines κs a x y s t p q = p.0 ∙ sym q.0

pub close-words_determines : Determines 3 close_kinds.ps close_kinds.r close.Post (λ κs r s. s.1.0.now)
close-words_determines κs a x y s t p q = p.1.0 ∙ sym q.1.0

pub close_told-determines : Determines 3 close_kinds.ps close_kinds.r close.Post (λ κs r s. s.1.1.0.now)
close_told-determines κs a x y s t p q = p.1.1 ∙ sym q.1.1
