-- What a conversion answers that names a firmware, and what it leaves; it names no width. "Refusals: 13 for any other firmware, tested before 4,
-- answered like it." (02, W7); "4 | run or conversion: lent lengths unequal" (01, Refusal numbers). Definitions only.
use Rattle.std.specs.Prelude.{ℕ, Bool, not, Result, Ok, Err}
use Rattle.notation.specs.Choice.{when◌then◌else◌}
use Rattle.notation.specs.Answers.{answer}
use Rattle.notation.specs.declared.Answer.{Answer}
use Rattle.ycbcr_firmware.specs.Firmware.{known_firmware}
use Rattle.ycbcr_firmware.specs.declared.ConversionError.{ConversionError}
use Rattle.ycbcr_firmware.specs.declared.ConversionError.TheVariants.{UnknownFirmware, Unequal}

abbrev pub Conversion : Type 0
Conversion = Result (Unit {0}) ConversionError

abbrev pub paper : Conversion → Answer
paper (Ok _) = answer 0 0 0
paper (Err UnknownFirmware) = answer 13 0 0
paper (Err Unequal) = answer 4 0 0

-- for this firmware, where the lent lengths are equal or not
abbrev pub conversion_of : ℕ → Bool → Conversion
conversion_of firmware equal = when not (known_firmware firmware) then Err UnknownFirmware else when equal then Ok tt else Err Unequal

-- what is left: the converted channels, and where the conversion is refused those that were there
abbrev pub left_by : {A : Type 0} → Conversion → A → A → A
left_by (Ok _) converted old = converted
left_by (Err _) converted old = old
