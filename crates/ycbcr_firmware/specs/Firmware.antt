-- "The caller names the firmware; 1 to 3 means T.871, 4 means BT.709, on both the float and the byte entry." (02, W7). Definitions and relations only.
use Rattle.std.specs.Prelude.{ℕ, ◌≤◌, Bool, ◌&&◌, eqb, leb}
use Rattle.notation.specs.Choice.{when◌then◌else◌}
use Rattle.ycbcr_weights.specs.Weights.{t871, bt709}
use Rattle.ycbcr_weights.specs.declared.Weights.{Weights}

-- in words: this firmware means these weights
pub data Means : ℕ → Weights → Type 0 where
  to_three : {firmware : ℕ} → 1 ≤ firmware → firmware ≤ 3 → Means firmware t871
  four : Means 4 bt709

-- it means some
abbrev pub Meant : ℕ → Type 0
Meant firmware = (w : Weights) × Means firmware w

-- whether it does
abbrev pub known_firmware : ℕ → Bool
known_firmware firmware = leb 1 firmware && leb firmware 4

-- the weights; for a firmware that is refused they are not looked at
abbrev pub weights_of : ℕ → Weights
weights_of firmware = when eqb firmware 4 then bt709 else t871
