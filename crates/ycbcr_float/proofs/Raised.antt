-- What the steps make of a piece with the offset on its luma is what `rgb_by` makes of the piece.
-- Row by row, by the definitions.
use Rattle.std.proofs.Common.{◌≡◌, List, [], ◌∷◌, map, refl, ap}
use lib.Ieee.{Float}
use Rattle.ciexyz.specs.declared.Vec3.{Vec3}
use Rattle.channels.specs.Channels.{channels, each, triples, v0_of, v1_of, v2_of}
use Rattle.ycbcr_float.specs.declared.Constants.{Constants}
use Rattle.ycbcr_float.specs.Ycbcr.{raised, rgb_by}
use Rattle.ycbcr_float.specs.Steps.{rgb_raised}

rows : (k : Constants) (x y z : List Float) → map (rgb_raised k) (triples x (map raised y) z) ≡ map (rgb_by k) (triples x y z)
unfolding rgb_raised rgb_by
rows k [] y z = refl
rows k (a ∷ x) [] z = refl
rows k (a ∷ x) (b ∷ y) [] = refl
rows k (a ∷ x) (b ∷ y) (c ∷ z) = λ i. rgb_by k (record { v0 = a; v1 = b; v2 = c }) ∷ rows k x y z i

pub each-raised : (k : Constants) (x y z : List Float) → each (rgb_raised k) (channels x (map raised y) z) ≡ each (rgb_by k) (channels x y z)
each-raised k x y z = ap (λ (ts : List Vec3). channels (map v0_of ts) (map v1_of ts) (map v2_of ts)) (rows k x y z)
