-- Zeros, infinities and NaN are their own cube roots.
-- By cases on the float.
use mathlib.Core.Path.{ap, ◌∙◌, ◌≡◌}
use mathlib.Core.Bool.{Bool, beq, false, not, true}
use Prim.Native.Nat.{◌*◌, ◌^◌, suc, zero, ℕ}
use native.Mathlib.Nat.{le_of_eq, lt_irrefl, lt_of_lt_of_le, mul-pos, zero-lt-suc, zero-mul}
use lib.Dec.{T}
use lib.Pow.{pow_pos}
use lib.Ieee.{Float, down, fin, inf, nan}
use lib.Ieee.Fits.{and_i, up_pos}
use lib.Ieee.Scale.{finite}
use Rattle.binary32.proofs.Apart.{IsFinite}
use Rattle.cbrt.specs.Root.{is_root}

beq-self : (s : Bool) → T (beq s s)
beq-self true = tt
beq-self false = tt

pub self_root : (x : Float) → T (not (finite x)) → T (is_root x x)
unfolding is_root
self_root nan h = tt
self_root (inf s) h = beq-self s
self_root (fin s m e) h = absurd h

pub zero-root : {x : Float} {s : Bool} {d p : ℕ} → IsFinite x s d p → d ≡ 0 → T (is_root x x)
unfolding is_root
zero-root {x = nan} f z = absurd f.value
zero-root {x = inf t} f z = absurd f.value
zero-root {x = fin t zero e} f z = and_i (beq t t) true (beq-self t) tt
zero-root {x = fin t (suc m) e} {d = d} {p = p} f z =
    absurd (lt_irrefl 0 (lt_of_lt_of_le (mul-pos (mul-pos (zero-lt-suc m) (up_pos e)) (pow_pos 149))
    (le_of_eq (f.value.1 ∙ ap (λ (x : ℕ). x * 2 ^ p * down e) z ∙ ap (λ (x : ℕ). x * down e) (zero-mul (2 ^ p)) ∙ zero-mul (down e)))))
