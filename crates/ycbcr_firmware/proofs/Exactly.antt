-- A conversion is answered by 13 exactly where its firmware means no weights, by 4 exactly where it does and the lengths are unequal, and else by 0;
-- a refused one leaves what was there. `conversion_of` chooses by two tests; that of the lengths is each entry's own.
use Prim.Native.Nat.{ℕ}
use mathlib.Core.Path.{◌≡◌, ap, refl}
use mathlib.Core.Bool.{Bool, true, false, false≢true, not}
use mathlib.Core.Logic.{◌↔◌}
use Rattle.std.specs.Prelude.{Ok, Err}
use native.Mathlib.Omega.{arith}
use Rattle.notation.specs.Choice.{when◌then◌else◌}
use Rattle.notation.specs.Answers.{answer}
use Rattle.notation.specs.declared.Answer.{Answer}
use Rattle.notation.proofs.Tests.{fails_exactly, negated}
use Rattle.channels.proofs.Choosing.{first-exactly, second-exactly}
use Rattle.ycbcr_firmware.specs.Firmware.{Meant, known_firmware}
use Rattle.ycbcr_firmware.specs.Conversion.{Conversion, conversion_of, left_by, paper}
use Rattle.ycbcr_firmware.specs.declared.ConversionError.TheVariants.{UnknownFirmware, Unequal}
use Rattle.ycbcr_firmware.proofs.Means.{known_exactly}

-- what is answered behind the test of the firmware
behind : {M P : Type 0} (known : Bool) (x y : Conversion) → ((known ≡ true) ↔ M) → ¬ (13 ≡ (paper y).number) → ((paper x ≡ paper y) ↔ P) → ((paper (when not known then Err UnknownFirmware else x) ≡ paper y) ↔ (M × P))
behind true x y k unlike f = (λ e. (k.0 refl, f.0 e), λ h. f.1 h.1)
behind false x y k unlike f = (λ e. absurd (unlike (ap (λ (a : Answer). a.number) e)), λ h. absurd (false≢true (k.1 h.0)))

not_thirteen : (equal : Bool) → ¬ (13 ≡ (paper (when equal then Ok tt else Err Unequal)).number)
not_thirteen true = omega arith
not_thirteen false = omega arith

-- the lengths are equal where E says so
module _ (firmware : ℕ) {equal : Bool} {E : Type 0} (test : (equal ≡ true) ↔ E) where
  pub thirteen-exactly : (paper (conversion_of firmware equal) ≡ answer 13 0 0) ↔ (¬ Meant firmware)
  thirteen-exactly =
      first-exactly paper (Err UnknownFirmware) (when equal then Ok tt else Err Unequal) (not_thirteen equal) (not (known_firmware firmware)) (negated (fails_exactly (known_exactly firmware)))

  pub four-exactly : (paper (conversion_of firmware equal) ≡ answer 4 0 0) ↔ (Meant firmware × (¬ E))
  four-exactly =
      behind (known_firmware firmware) (when equal then Ok tt else Err Unequal) (Err Unequal) (known_exactly firmware) (omega arith) (second-exactly paper (Ok tt) (Err Unequal) (omega arith) equal test)

  pub zero-exactly : (paper (conversion_of firmware equal) ≡ answer 0 0 0) ↔ (Meant firmware × E)
  zero-exactly =
      behind (known_firmware firmware) (when equal then Ok tt else Err Unequal) (Ok tt) (known_exactly firmware) (omega arith) (first-exactly paper (Ok tt) (Err Unequal) (omega arith) equal test)

-- whatever would have been left
pub refused-changes_nothing : {A : Type 0} (c : Conversion) (converted old : A) → ¬ ((paper c).number ≡ 0) → left_by c converted old ≡ old
refused-changes_nothing (Ok _) converted old n = absurd (n refl)
refused-changes_nothing (Err _) converted old n = refl

-- what is done has equal lengths
pub done-equal : (firmware : ℕ) (equal : Bool) → Ok tt ≡ conversion_of firmware equal → equal ≡ true
done-equal firmware equal = by (known_firmware firmware) equal
  where
    by : (known equal : Bool) → ◌≡◌ {A = Conversion} (Ok tt) (when not known then Err UnknownFirmware else when equal then Ok tt else Err Unequal) → equal ≡ true
    by true true e = refl
    by true false e = cc
    by false equal e = cc
