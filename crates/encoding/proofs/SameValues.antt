-- The tests of Named hold of two values exactly where these are equal: "compared as named values and not as floats".
-- Each test decides equality (Deciding).
use mathlib.Core.Path.{◌≡◌}
use mathlib.Core.Bool.{true}
use mathlib.Core.Logic.{◌↔◌}
use Rattle.ciexyz.specs.declared.WhitePoint.{WhitePoint}
use Rattle.ciexyz.specs.declared.Primaries.{Primaries}
use Rattle.notation.proofs.Deciding.{exactly}
use Rattle.encoding.specs.Named.{same_space, same_intent, same_white, same_primaries}
use Rattle.encoding.specs.declared.ColourSpace.{ColourSpace}
use Rattle.encoding.specs.declared.RenderingIntent.{RenderingIntent}
use Rattle.encoding.proofs.Deciding.{spaces, intents, white_points, all_primaries_lem}

pub same_space-exactly : (a b : ColourSpace) → (same_space a b ≡ true) ↔ (a ≡ b)
same_space-exactly = exactly spaces

pub same_intent-exactly : (a b : RenderingIntent) → (same_intent a b ≡ true) ↔ (a ≡ b)
same_intent-exactly = exactly intents

pub same_white-exactly : (a b : WhitePoint) → (same_white a b ≡ true) ↔ (a ≡ b)
same_white-exactly = exactly white_points

pub same_primaries-exactly : (a b : Primaries) → (same_primaries a b ≡ true) ↔ (a ≡ b)
same_primaries-exactly = exactly all_primaries_lem
