-- `Means` holds of exactly the known firmwares and their weights.
-- A known firmware is 4, or lies from 1 to 3.
use Prim.Native.Nat.{ℕ}
use mathlib.Core.Path.{◌≡◌, refl}
use mathlib.Core.Bool.{Bool, true, false}
use mathlib.Core.Logic.{◌↔◌}
use native.Mathlib.Omega.{arith}
use borrow.Author.Tests.{eqb-false, eqb-true, le-leb, leb-true, ne_eqb}
use lib.Dec.{eqb, leb}
use Rattle.notation.specs.Choice.{when◌then◌else◌}
use Rattle.notation.proofs.Tests.{both-exactly}
use Rattle.ycbcr_weights.specs.Weights.{bt709, t871}
use Rattle.ycbcr_weights.specs.declared.Weights.{Weights}
use Rattle.ycbcr_firmware.specs.Firmware.{Meant, Means, four, known_firmware, to_three, weights_of}

pub means_exactly : (firmware : ℕ) (w : Weights) → Means firmware w ↔ ((known_firmware firmware ≡ true) × (w ≡ weights_of firmware))
means_exactly firmware w = (told, λ h. by (eqb firmware 4) refl h.0 h.1)
  where
    told : {firmware : ℕ} {w : Weights} → Means firmware w → (known_firmware firmware ≡ true) × (w ≡ weights_of firmware)
    told (to_three {firmware} low high) = (rw (le-leb 1 firmware low, le-leb firmware 4 (omega arith)), rw (ne_eqb firmware 4 (λ e. omega arith)))
    told four = (refl, refl)

    by : (is-four : Bool) → eqb firmware 4 ≡ is-four → known_firmware firmware ≡ true → w ≡ (when is-four then bt709 else t871) → Means firmware w
    by true e known is = rw (eqb-true firmware 4 e, is) four
    by false e known is =
        let h = (both-exactly {a = leb 1 firmware} {b = leb firmware 4} (leb-true 1 firmware, le-leb 1 firmware) (leb-true firmware 4, le-leb firmware 4)).0 known in
        let n = eqb-false firmware 4 e in
        rw is (to_three h.0 (omega arith))

-- a firmware is known exactly where it means weights
pub known_exactly : (firmware : ℕ) → (known_firmware firmware ≡ true) ↔ Meant firmware
known_exactly firmware = (λ e. (weights_of firmware, (means_exactly firmware (weights_of firmware)).1 (e, refl)), λ m. ((means_exactly firmware m.0).0 m.1).0)
