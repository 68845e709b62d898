-- From a number of 62 digits to its f32, at each size: past the largest, normal, subnormal, nearer to 0.
-- `round` cuts 38 digits, more where the result is subnormal; the magnitude is k * 2 ^ 23 + q.
use mathlib.Core.Path.{ap, refl, sym, ◌∙◌, ◌≡◌}
use mathlib.Core.Logic.{inl, inr}
use mathlib.Core.Bool.{Bool}
use Prim.Native.Nat.{◌*◌, ◌+◌, ◌-◌, ◌<◌, ◌^◌, ℕ, ◌≤◌}
use native.Mathlib.Nat.{add_comm, le-div_iff_mul-le, lt_of_lt_of_le, mul_assoc, zero-add}
use native.Mathlib.Omega.{arith}
use lib.Dec.{lit≤}
use lib.Pow.{pow-add, pow_mono, pow_pos}
use lib.Ieee.{binary32, round}
use lib.Ieee.Nearest.{closest}
use lib.Ieee.Scale.{round_same}
use Rattle.binary32.proofs.Pattern.{infinity, together, units_over}
use Rattle.binary32.specs.Pattern.{with_sign}
use Rattle.rounding.proofs.Closest.{closest_ge, closest_le, closest_zero}
use Rattle.rounding.proofs.Rounding.{round_final}
use Rattle.fused.specs.Steps.{Topped}

module _ (s : Bool) (m e : ℕ) (lo : 0x2000_0000_0000_0000 ≤ m) (hi : m < 0x4000_0000_0000_0000) where
  q_ge : 0x80_0000 ≤ closest m (2 ^ 38)
  q_ge = closest_ge m 38 0x80_0000 ((le-div_iff_mul-le (pow_pos 38)).1 lo)

  pub q_le : closest m (2 ^ 38) ≤ 0x100_0000
  q_le = closest_le m 38 24 hi

  pub over : 488 ≤ e → with_sign s 0x7f80_0000 ≡ round binary32 s (m * 2 ^ e) (2 ^ 421)
  over h = infinity s ∙ sym (round_final s m e 38 (e - 234) lo hi (omega arith) (omega arith) ∙ units_over s (closest m (2 ^ 38)) (e - 234) q_ge (omega arith))

  pub normal : 234 ≤ e → e < 488 → with_sign s ((e - 234) * 0x80_0000 + closest m (2 ^ 38)) ≡ round binary32 s (m * 2 ^ e) (2 ^ 421)
  normal h k = together s (closest m (2 ^ 38)) (e - 234) q_le (omega arith) (inr q_ge) ∙ sym (round_final s m e 38 (e - 234) lo hi (omega arith) (omega arith))

  pub sub-le : e < 234 → closest m (2 ^ (272 - e)) ≤ 0x100_0000
  sub-le h = closest_le m (272 - e) 24 (lt_of_lt_of_le hi (pow_mono (room e h)))
    where
      room : (e : ℕ) → e < 234 → 62 ≤ 24 + (272 - e)
      room e h = omega arith

  pub subnormal : e < 234 → with_sign s (closest m (2 ^ (272 - e))) ≡ round binary32 s (m * 2 ^ e) (2 ^ 421)
  subnormal h =
      let q = closest m (2 ^ (272 - e)) in
      ap (with_sign s) (sym (zero-add q))
      ∙ together s q 0 (sub-le h) (lit≤ tt) (inl refl)
      ∙ sym (round_final s m e (272 - e) 0 lo hi (omega arith) (omega arith))

  pub nothing : e < 209 → with_sign s 0 ≡ round binary32 s (m * 2 ^ e) (2 ^ 421)
  nothing h =
      ap (with_sign s) (sym (closest_zero m (2 ^ (272 - e)) (lt_of_lt_of_le (twice m hi) (pow_mono (room e h)))))
      ∙ subnormal (omega arith)
    where
      twice : (m : ℕ) → m < 0x4000_0000_0000_0000 → m * 2 < 0x8000_0000_0000_0000
      twice m h = omega arith

      room : (e : ℕ) → e < 209 → 63 ≤ 272 - e
      room e h = omega arith

-- ---- `top`
pub topped : (n e m f : ℕ) → Topped n e m f → m * 2 ^ f ≡ n * 2 ^ (e + 62)
topped n e m f t =
    ap (λ (x : ℕ). x * 2 ^ f) t.m_is
    ∙ mul_assoc n (2 ^ t.z) (2 ^ f)
    ∙ ap (λ (x : ℕ). n * x) (sym (pow-add 2 t.z f) ∙ ap (λ (x : ℕ). 2 ^ x) (add_comm t.z f ∙ t.f_is))

pub settle : (s : Bool) (n e m f : ℕ) → Topped n e m f → round binary32 s (m * 2 ^ f) (2 ^ 421) ≡ round binary32 s (n * 2 ^ e) (2 ^ 359)
settle s n e m f t =
    round_same binary32 s (m * 2 ^ f) (2 ^ 421) (n * 2 ^ e) (2 ^ 359) (pow_pos 421) (pow_pos 359)
    (ap (λ (x : ℕ). x * 2 ^ 359) (topped n e m f t ∙ ap (λ (x : ℕ). n * x) (pow-add 2 e 62) ∙ sym (mul_assoc n (2 ^ e) (2 ^ 62)))
    ∙ mul_assoc (n * 2 ^ e) (2 ^ 62) (2 ^ 359)
    ∙ ap (λ (x : ℕ). n * 2 ^ e * x) (sym (pow-add 2 62 359)))
