-- `fused` where an operand is not finite.
-- By cases: of a product that is not finite the two operations give what the one gives; a finite product plus an infinity or a NaN is that.
use mathlib.Core.Path.{refl, ◌≡◌}
use mathlib.Core.Bool.{Bool, beq, cond, false, not, true}
use lib.Dec.{T, eqb}
use lib.Ieee.{Float, add, binary32, fin, inf, mul, nan}
use lib.Ieee.Scale.{finite}
use Rattle.notation.specs.Choice.{when◌then◌else◌}
use Rattle.fused.specs.Fused.{fused, plus, plus_inf}

inf_plus : (s : Bool) (c : Float) → add binary32 (inf s) c ≡ plus_inf s c
unfolding add plus_inf
inf_plus s nan = refl
inf_plus s (inf t) = same (beq s t)
  where
    same : (b : Bool) → cond b (inf s) nan ≡ (when b then inf s else nan)
    same true = refl
    same false = refl
inf_plus s (fin t n d) = refl

choice_plus : (b s : Bool) (c : Float) → add binary32 (cond b nan (inf s)) c ≡ (when b then nan else plus_inf s c)
choice_plus true s c = unfold add in refl
choice_plus false s c = inf_plus s c

pub first-inf : (a b c : Float) → T (not (finite a)) → add binary32 (mul binary32 a b) c ≡ fused a b c
unfolding mul fused
first-inf nan b c h = unfold add in refl
first-inf (inf s) nan c h = unfold add in refl
first-inf (inf s) (inf t) c h = inf_plus (not (beq s t)) c
first-inf (inf s) (fin t n d) c h = choice_plus (eqb n 0) (not (beq s t)) c
first-inf (fin s m e) b c h = absurd h

pub second-inf : (a b c : Float) → T (not (finite b)) → add binary32 (mul binary32 a b) c ≡ fused a b c
unfolding mul fused
second-inf nan b c h = unfold add in refl
second-inf (inf s) b c h = first-inf (inf s) b c tt
second-inf (fin s m e) nan c h = unfold add in refl
second-inf (fin s m e) (inf t) c h = choice_plus (eqb m 0) (not (beq s t)) c
second-inf (fin s m e) (fin t n d) c h = absurd h

-- a finite product plus an infinity
pub third-inf : (a b c : Float) → T (finite a) → T (finite b) → T (not (finite c)) → c ≡ fused a b c
unfolding fused plus
third-inf nan b c p q r = absurd p
third-inf (inf s) b c p q r = absurd p
third-inf (fin s m e) nan c p q r = absurd q
third-inf (fin s m e) (inf t) c p q r = absurd q
third-inf (fin s m e) (fin t n d) nan p q r = refl
third-inf (fin s m e) (fin t n d) (inf u) p q r = refl
third-inf (fin s m e) (fin t n d) (fin u k i) p q r = absurd r
