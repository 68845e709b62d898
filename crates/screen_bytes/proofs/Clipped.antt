-- What clipping leaves of a sample: a NaN, minus zero, or a number from 0 to 1; and of an f32 an f32.
-- By the two tests of `clip_of`, and by cases on a float that passed both.
use Prim.Native.Nat.{ℕ, zero as 0ℕ, suc, ◌+◌, ◌*◌, ◌≤◌, ◌<◌}
use mathlib.Core.Path.{◌≡◌, refl, ap, ◌∙◌}
use mathlib.Core.Bool.{Bool, true, false, true≢false}
use native.Mathlib.Nat.{zero-mul}
use native.Mathlib.Omega.{arith}
use borrow.Author.Tests.{ltb-false}
use lib.Dec.{T}
use lib.IntN.{ℤ}
use lib.Ieee.{Float, nan, inf, fin, binary32, up, down, lt, fits, of_bits}
use lib.Ieee.Bits.{of_bits-fits}
use lib.Ieee.Fits.{up_pos}
use Rattle.notation.specs.F32.{zero, one}
use Rattle.notation.specs.Choice.{when◌then◌else◌}
use Rattle.steps.specs.Samples.{clip_of}

abbrev pub Clipped : Float → Type 0
Clipped nan = T true
Clipped (inf s) = T false
Clipped (fin true m e) = m ≡ 0
Clipped (fin false m e) = m * up e ≤ down e

pub none : (m u : ℕ) → m ≡ 0 → m * u ≡ 0
none m u e = ap (λ (x : ℕ). x * u) e ∙ zero-mul u

no_digits : (m u z : ℕ) → 0 < u → m * u * 1 + z ≤ 0 → m ≡ 0
no_digits 0ℕ u z p h = refl
no_digits (suc m) u z p h = absurd (omega arith)

-- neither below 0 nor above 1
stays : (x : Float) → lt x zero ≡ false → lt one x ≡ false → Clipped x
unfolding lt of_bits
stays nan h k = tt
stays (inf true) h k = absurd (true≢false h)
stays (inf false) h k = absurd (true≢false k)
stays (fin true m e) h k = no_digits m (up e) (0 * 1 * down e) (up_pos e) (ltb-false 0 (m * up e * 1 + 0 * 1 * down e) h)
stays (fin false m e) h k = let l = ltb-false (1 * 1 * down e) (m * up e * 1) k in omega arith

pub clipped-is : (x : Float) → Clipped (clip_of x)
unfolding of_bits
clipped-is x = by (lt x zero) (lt one x) refl refl
  where
    by : (s t : Bool) → lt x zero ≡ s → lt one x ≡ t → Clipped (when s then zero else when t then one else x)
    by true t h k = omega arith
    by false true h k = omega arith
    by false false h k = stays x h k

pub clipped-le : (s : Bool) (m : ℕ) (e : ℤ) → Clipped (fin s m e) → m * up e ≤ down e
clipped-le true m e c = omega (arith, none m (up e) c)
clipped-le false m e c = c

pub clipped-fits : (x : Float) → T (fits binary32 x) → T (fits binary32 (clip_of x))
clipped-fits x f = by (lt x zero) (lt one x)
  where
    by : (s t : Bool) → T (fits binary32 (when s then zero else when t then one else x))
    by true t = of_bits-fits binary32 0
    by false true = of_bits-fits binary32 0x3f80_0000
    by false false = f
