-- A loop that rewrites three equally long channels in step, each triple of samples by f, ends with `each f`.
-- The loop argument is `Across`'s, in place and at f32.
use Prim.Native.Nat.{◌+◌, ◌<◌, ℕ, ◌≤◌}
use mathlib.Core.Path.{ap, refl, subst, ◌≡◌}
use mathlib.Core.List.{List, map}
use native.Mathlib.Omega.{arith}
use lib.ListN.{get_or, length, set}
use lib.Ieee.{Float, nan}
use Rattle.notation.proofs.Rewriting.{read}
use Rattle.ciexyz.specs.declared.Vec3.{Vec3}
use Rattle.channels.specs.Channels.{EquallyLong, channels, each, v0_of, v1_of, v2_of, vec}
use Rattle.channels.proofs.Across.{Across, Row, across_begun, across-ended, in_place_step}
use Rattle.channels.proofs.Rows.{rows_agree}

abbrev pub samples : Row Float Vec3
samples = record { of = vec; e0 = v0_of; e1 = v1_of; e2 = v2_of }

-- the three channels at place i
abbrev pub Stepped : (Vec3 → Vec3) → List Float → List Float → List Float → ℕ → List Float → List Float → List Float → Type 0
Stepped f x y z i a b c = Across samples f x y z x y z i a b c

pub steps_begun : (f : Vec3 → Vec3) (x y z : List Float) → EquallyLong (channels x y z) → Stepped f x y z 0 x y z
steps_begun f x y z e = across_begun samples f x y z x y z (record { as_y = e.0; as_z = e.1; as_r = refl; as_g = e.0; as_b = e.1 })

module _ {f : Vec3 → Vec3} {x y z a b c : List Float} {i : ℕ} (s : Stepped f x y z i a b c) where
  pub stepped : (v : Vec3) → i < length x → v ≡ f (vec (get_or a i nan) (get_or b i nan) (get_or c i nan)) → Stepped f x y z (i + 1) (set a i v.v0) (set b i v.v1) (set c i v.v2)
  stepped v h w = in_place_step s nan v h w

  -- what is read at place i is the row that was there
  pub still-row : i < length x → vec (get_or a i nan) (get_or b i nan) (get_or c i nan) ≡ vec (get_or x i nan) (get_or y i nan) (get_or z i nan)
  still-row h =
      let l = s.as_long in
      let hy : i < length y = omega arith in
      let hz : i < length z = omega arith in
      rw (read s.on_r nan h, read s.on_g nan hy, read s.on_b nan hz)

  pub steps-ended : length x ≤ i → channels a b c ≡ each f (channels x y z)
  steps-ended h = let e = across-ended s h in rw (e.0, e.1, e.2)

-- two functions that agree on every row
pub each-agrees : (f g : Vec3 → Vec3) (x y z : List Float) → EquallyLong (channels x y z) → ((i : ℕ) → i < length x → f (vec (get_or x i nan) (get_or y i nan) (get_or z i nan)) ≡ g (vec (get_or x i nan) (get_or y i nan) (get_or z i nan)))
    → each f (channels x y z) ≡ each g (channels x y z)
each-agrees f g x y z e h = ap (λ (ts : List Vec3). channels (map v0_of ts) (map v1_of ts) (map v2_of ts)) (rows_agree vec f g nan x y z e.0 e.1 h)

-- the same place, said otherwise
pub at_place : {f : Vec3 → Vec3} {x y z a b c : List Float} {i j : ℕ} → i ≡ j → Stepped f x y z i a b c → Stepped f x y z j a b c
at_place {f} {x} {y} {z} {a} {b} {c} e s = subst (λ (k : ℕ). Stepped f x y z k a b c) e s
