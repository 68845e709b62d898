-- "Fused: the exact product plus addend, rounded once, ties to even; infinities, NaN and zero signs as in IEEE 754
-- fused_multiply_add." (01, Samples). Definitions only.
-- A finite float is `fin s m e`, the number m * 2 ^ e with the sign s; 2 ^ e is the fraction up e / down e (`lib.Ieee`).
use Rattle.std.specs.Prelude.{ℕ, ◌*◌, Bool, eqb, Float}
use Rattle.std.specs.Bool.{beq}
use Rattle.std.specs.Float.{nan, inf, fin, binary32}
use Rattle.std.specs.Float.Ieee.{unlike, up, down, sum}
use Rattle.notation.specs.Choice.{when◌then◌else◌}

-- The exact product ±p / q plus c. `sum` works out the exact sum of two fractions over one divisor and rounds it once, ties to even;
-- of an exact zero sum the sign is negative where both parts are, and positive otherwise.
unfoldable pub plus : Bool → ℕ → ℕ → Float → Float
plus s p q nan = nan
plus s p q (inf t) = inf t
plus s p q (fin t n d) = sum binary32 s (p * down d) t (n * up d * q) (q * down d)

-- An infinite product plus c: infinities of unlike signs have no sum.
unfoldable pub plus_inf : Bool → Float → Float
plus_inf s nan = nan
plus_inf s (inf t) = when beq s t then inf s else nan
plus_inf s (fin t n d) = inf s

-- a * b + c. An infinity times a zero is a NaN, whatever c is.
unfoldable pub fused : Float → Float → Float → Float
unfolding plus plus_inf
fused nan b c = nan
fused (inf s) nan c = nan
fused (inf s) (inf t) c = plus_inf (unlike s t) c
fused (inf s) (fin t n d) c = when eqb n 0 then nan else plus_inf (unlike s t) c
fused (fin s m e) nan c = nan
fused (fin s m e) (inf t) c = when eqb m 0 then nan else plus_inf (unlike s t) c
fused (fin s m e) (fin t n d) c = plus (unlike s t) (m * up e * (n * up d)) (down e * down d) c
