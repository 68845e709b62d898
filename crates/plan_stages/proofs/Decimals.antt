-- Each constant of the stages is the f32 nearest its decimal in 01.
-- One claim over a list of rows, which antt computes.
use mathlib.Core.Path.{refl}
use mathlib.Core.List.{List, [], ◌∷◌}
use lib.Ieee.{round, of_bits, div}
use Rattle.notation.proofs.Decimals.{Row, ◌is◌over◌, AreNearest}
use Rattle.plan_stages.specs.Stages.{screen_peak, near_from, hlg_peak, near_to, curve_peak, factor, hlg_factor}

abbrev pub decimals : List Row
decimals =
    (screen_peak is 255 over 1)
    ∷ (near_from is 999 over 1)
    ∷ (hlg_peak is 1000 over 1)
    ∷ (near_to is 1001 over 1)
    ∷ (curve_peak is 300 over 1)
    ∷ (factor is 3 over 10)
    ∷ (hlg_factor is 1 over 10)
    ∷ []

pub nearest-decimals : AreNearest decimals
unfolding of_bits round div
nearest-decimals = refl
