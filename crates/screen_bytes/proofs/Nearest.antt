-- The rule of screen bytes holds of exactly one number, and that is `screen_byte`; it is within 0 to 255.
-- What clipping leaves has one byte (`Byte`).
use Prim.Native.Nat.{ℕ, ◌≤◌}
use mathlib.Core.Path.{◌≡◌}
use mathlib.Core.Logic.{◌↔◌}
use lib.Ieee.{Float}
use Rattle.steps.specs.Samples.{clip_of}
use Rattle.screen_bytes.proofs.Byte.{byte-exactly, byte-within}
use Rattle.screen_bytes.proofs.Clipped.{clipped-is}
use Rattle.screen_bytes.specs.Screen.{Shows, screen_byte}

pub shows-exactly : (x : Float) (b : ℕ) → (b ≡ screen_byte x) ↔ Shows x b
unfolding screen_byte
shows-exactly x b = byte-exactly (clip_of x) (clipped-is x) b

pub within : (x : Float) → screen_byte x ≤ 255
unfolding screen_byte
within x = byte-within (clip_of x) (clipped-is x)
