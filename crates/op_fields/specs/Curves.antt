-- "Curves: 0 Gamma, 1 Gamma inverted, 2 Bt709, 3 Unknown, 4 Linear, 5 Srgb, 6 Pq, 7 Dci, 8 Hlg." (01, Plan block). Definitions only.
use Rattle.std.specs.Prelude.{ℕ, true, false, List, [], ◌∷◌, get_or}
use Rattle.notation.specs.Choice.{when◌then◌else◌}
use Rattle.op.specs.declared.Curve.{Curve}
use Rattle.op.specs.declared.Curve.TheVariants as C

abbrev pub curve_number : Curve → ℕ
curve_number (C.Gamma g inverted) = when inverted then 1 else 0
curve_number C.Bt709 = 2
curve_number C.Unknown = 3
curve_number C.Linear = 4
curve_number C.Srgb = 5
curve_number C.Pq = 6
curve_number C.Dci = 7
curve_number C.Hlg = 8

-- `g`, 0 for a curve that has none
abbrev pub gamma_of : Curve → ℕ
gamma_of (C.Gamma g inverted) = g
gamma_of C.Bt709 = 0
gamma_of C.Unknown = 0
gamma_of C.Linear = 0
gamma_of C.Srgb = 0
gamma_of C.Pq = 0
gamma_of C.Dci = 0
gamma_of C.Hlg = 0

-- the curve of a number, with the `g` of a Gamma; Hlg for every number above 8
abbrev pub curves : ℕ → List Curve
curves g = C.Gamma g false ∷ C.Gamma g true ∷ C.Bt709 ∷ C.Unknown ∷ C.Linear ∷ C.Srgb ∷ C.Pq ∷ C.Dci ∷ C.Hlg ∷ []

unfoldable pub curve_numbered : ℕ → ℕ → Curve
curve_numbered n g = get_or (curves g) n C.Hlg
