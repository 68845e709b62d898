-- Each constant of XYB is the f32 nearest its decimal.
-- One claim over a list of rows, which antt computes.
use mathlib.Core.Path.{refl}
use mathlib.Core.List.{List, [], ◌∷◌}
use lib.Ieee.{round, of_bits, div}
use Rattle.notation.proofs.Decimals.{Row, ◌is◌over◌, AreNearest}
use Rattle.step_xyb.specs.Xyb.{full}

abbrev pub decimals : List Row
decimals = (full is 255 over 1) ∷ []

pub nearest-decimals : AreNearest decimals
unfolding of_bits round div
nearest-decimals = refl
