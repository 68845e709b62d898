-- A curve and its number: the one is built again from the other, both ways.
-- By computing, curve by curve and number by number.
use Prim.Native.Nat.{ℕ, zero, suc, ◌≤◌}
use mathlib.Core.Path.{◌≡◌, refl}
use mathlib.Core.Bool.{true, false}
use mathlib.Core.List.{map}
use native.Mathlib.Omega.{arith}
use lib.ListN.{drop, get_or-map}
use Rattle.notation.proofs.Tables.{at_most}
use Rattle.op.specs.declared.Curve.{Curve}
use Rattle.op.specs.declared.Curve.TheVariants as C
use Rattle.op_fields.specs.Curves.{curve_number, gamma_of, curves, curve_numbered}

pub curve_back : (c : Curve) → curve_numbered (curve_number c) (gamma_of c) ≡ c
unfolding curve_numbered
curve_back (C.Gamma g true) = refl
curve_back (C.Gamma g false) = refl
curve_back C.Bt709 = refl
curve_back C.Unknown = refl
curve_back C.Linear = refl
curve_back C.Srgb = refl
curve_back C.Pq = refl
curve_back C.Dci = refl
curve_back C.Hlg = refl

-- the numbers 0 to 8
pub number_back : (n g : ℕ) → n ≤ 8 → curve_number (curve_numbered n g) ≡ n
unfolding curve_numbered
number_back zero g h = refl
number_back (suc zero) g h = refl
number_back (suc (suc zero)) g h = refl
number_back (suc (suc (suc zero))) g h = refl
number_back (suc (suc (suc (suc zero)))) g h = refl
number_back (suc (suc (suc (suc (suc zero))))) g h = refl
number_back (suc (suc (suc (suc (suc (suc zero)))))) g h = refl
number_back (suc (suc (suc (suc (suc (suc (suc zero))))))) g h = refl
number_back (suc (suc (suc (suc (suc (suc (suc (suc zero)))))))) g h = refl
number_back (suc (suc (suc (suc (suc (suc (suc (suc (suc n))))))))) g h = absurd (omega arith)

-- and `g`, which is 0 but for the two Gammas
pub gamma-back : (n g : ℕ) → (2 ≤ n → g ≡ 0) → gamma_of (curve_numbered n g) ≡ g
unfolding curve_numbered
gamma-back zero g h = refl
gamma-back (suc zero) g h = refl
gamma-back (suc (suc n)) g h =
    let others = drop 2 (curves g) in
    omega (arith, h (omega arith), get_or-map gamma_of others n C.Hlg, at_most (map gamma_of others) n)
