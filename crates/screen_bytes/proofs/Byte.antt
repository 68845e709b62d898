-- The rule of a clipped sample holds of exactly one number, which is at most 255.
-- By cases on the sample: of the whole numbers one is nearest a fraction (`Closest`), and the fraction is at most 255 (`Clipped`).
use Prim.Native.Nat.{ℕ, ◌*◌, ◌≤◌, ◌<◌}
use mathlib.Core.Path.{◌≡◌, refl, sym, ◌∙◌}
use mathlib.Core.Logic.{◌↔◌, ◌⊎◌, inl, inr}
use mathlib.Core.Bool.{true, false}
use native.Mathlib.Nat.{mul-le-mul_right}
use native.Mathlib.Omega.{arith}
use lib.Ieee.{Float, nan, inf, fin, up, down}
use lib.Ieee.Fits.{down_pos}
use lib.Ieee.Nearest.{closest}
use Rattle.binary32.proofs.Size.{split_le}
use Rattle.screen_bytes.proofs.Clipped.{Clipped, clipped-le, none}
use Rattle.screen_bytes.proofs.Closest.{closest_exactly, closest_nearest}
use Rattle.screen_bytes.specs.Screen.{ByteOf, Nearest, nearest_byte}

zero-nearest : (n d : ℕ) → n ≡ 0 → Nearest n d 0
zero-nearest n d e = record { near = omega arith; even = λ _. refl }

pub byte-exactly : (v : Float) → Clipped v → (b : ℕ) → (b ≡ nearest_byte v) ↔ ByteOf v b
byte-exactly nan c b = (λ e. e, λ e. e)
byte-exactly (inf s) c b = absurd c
byte-exactly (fin true m e) c b =
    let n = m * up e * 255 in
    let z : 0 ≡ closest n (down e) = (closest_exactly n (down e) 0 (down_pos e)).1 (zero-nearest n (down e) (none (m * up e) 255 (none m (up e) c))) in
    (λ h. (c, h ∙ sym z), λ h. h.1 ∙ z)
byte-exactly (fin false m e) c b = closest_exactly (m * up e * 255) (down e) b (down_pos e)

-- 256 lies more than 1/2 above 255
under : (n d b : ℕ) → 0 < d → n ≤ d → Nearest (n * 255) d b → (b ≤ 255) ⊎ (255 < b) → b ≤ 255
under n d b p h k (inl l) = l
under n d b p h k (inr l) = let t = k.near in let u : 256 * d ≤ b * d = mul-le-mul_right d l in absurd (omega arith)

pub byte-within : (v : Float) → Clipped v → nearest_byte v ≤ 255
byte-within nan c = omega arith
byte-within (inf s) c = absurd c
byte-within (fin s m e) c =
    let b = closest (m * up e * 255) (down e) in
    under (m * up e) (down e) b (down_pos e) (clipped-le s m e c) (closest_nearest (m * up e * 255) (down e) (down_pos e)) (split_le b 255)
