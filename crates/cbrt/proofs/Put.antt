-- The sign and the magnitude of a rounded root, put together, are the nearest f32.
-- The magnitude is that of q * 2 ^ (a + 76) units, which are far from overflow.
use mathlib.Core.Path.{ap, subst, ◌∙◌, ◌≡◌}
use mathlib.Core.Logic.{inr}
use mathlib.Core.Bool.{Bool}
use Prim.Native.Nat.{◌*◌, ◌+◌, ◌<◌, ◌^◌, ℕ, ◌≤◌}
use native.Mathlib.Nat.{lt_of_le_of_lt, mul-le-mul_right, mul-pos}
use native.Mathlib.Omega.{arith}
use lib.Dec.{T}
use lib.Pow.{pow-add, pow-lt, pow_pos}
use lib.Ieee.{Float, binary32, fits, units}
use lib.Ieee.Bits.{of_bits-fits}
use lib.Ieee.Exact.{HasValue, units_val}
use Rattle.binary32.proofs.Apart.{IsFinite}
use Rattle.binary32.proofs.Pattern.{together, with_sign-is}
use Rattle.binary32.specs.Pattern.{sign_bit, with_sign}
use Rattle.cbrt.proofs.Near.{root_holds}
use Rattle.cbrt.specs.Root.{is_root}
use Rattle.cbrt.specs.Steps.{Rounded, Scaled}

module _ (s : Bool) (g a r : ℕ) (w : Rounded g a r) (l : a ≤ 92) where
  is-units : with_sign s r ≡ units binary32 s w.q (a + 76)
  is-units = ap (with_sign s) w.is ∙ together s w.q (a + 76) w.q_le (omega arith) (inr w.q_ge)

  has_value : HasValue (with_sign s r) s (w.q * 2 ^ (a + 76)) (2 ^ 149)
  has_value = rw is-units (units_val binary32 s w.q (a + 76) (lt_of_le_of_lt (mul-le-mul_right (2 ^ (a + 76)) w.q_le) (subst (λ (x : ℕ). x < 2 ^ 277) (pow-add 2 24 (a + 76)) (pow-lt (room a l)))))
    where
      room : (a : ℕ) → a ≤ 92 → 24 + (a + 76) < 277
      room a h = omega arith

  pub fits-put : T (fits binary32 (with_sign s r))
  fits-put = rw (with_sign-is s r (omega (arith, w.is, w.q_le))) (of_bits-fits binary32 (sign_bit s + r))

  pub root-put : (x : Float) (d p : ℕ) → IsFinite x s d p → 0 < d → Scaled (d * 2 ^ p) g a → T (is_root x (with_sign s r))
  root-put x d p f h c = root_holds x (with_sign s r) s (d * 2 ^ p) g a w.q (mul-pos h (pow_pos p)) f.value c w.q_ge w.low w.high has_value
