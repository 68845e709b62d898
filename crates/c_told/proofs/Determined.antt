-- Each contract determines the answer, or the lent array.
-- It is said to equal one value, so two are equal.
use mathlib.Core.Path.{sym, ◌∙◌}
use Rattle.notation.proofs.Determines.{Determines}
use Rattle.c_told.proofs.after_reading.Reads as after_reading
use Rattle.c_told.proofs.after_reading.Kinds as behind_kinds
use Rattle.c_told.proofs.tell_numbers.Reads as tell_numbers
use Rattle.c_told.proofs.tell_numbers.Kinds as tell_numbers_kinds
use Rattle.c_told.proofs.tell.Reads as tell
use Rattle.c_told.proofs.tell.Kinds as tell_kinds

pub after_reading-determines : Determines 0 behind_kinds.ps behind_kinds.r after_reading.Post (λ κs r s. r)
after_reading-determines κs a x y s t p q = p ∙ sym q

pub tell_numbers-determines : Determines 1 tell_numbers_kinds.ps tell_numbers_kinds.r tell_numbers.Post (λ κs r s. s.0.now)
tell_numbers-determines κs a x y s t p q = p ∙ sym q

pub tell-determines : Determines 1 tell_kinds.ps tell_kinds.r tell.Post (λ κs r s. s.0.now)
tell-determines κs a x y s t p q = p ∙ sym q
