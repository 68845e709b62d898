-- What holds of each of the kinds 0 to 9, and of every number past them, holds of every number.
-- By cases; and what so is known by computing: the kind and the values of an op that values build.
use Prim.Native.Nat.{ℕ, zero, suc, ◌≤◌}
use mathlib.Core.Path.{◌≡◌, refl}
use mathlib.Core.List.{List, [], ◌∷◌, map}
use native.Mathlib.Omega.{arith}
use lib.ListN.{replicate}
use Rattle.notation.specs.F32 as F32
use Rattle.op_fields.specs.Layouts.{Field, float, flag, curve, layout_of}
use Rattle.op_fields.specs.Parts.{kind_of, values_of, cell, value_of, parts_of, float_in, flag_in, curve_in, value_from, op_by, blank_parts}
use Rattle.op_fields.specs.declared.Value.{Value}
use Rattle.op_fields.specs.declared.Value.TheVariants.{Float as the_float, Flag as the_flag, Curve as the_curve}

abbrev pub ten_from : ℕ → ℕ
ten_from n = suc (suc (suc (suc (suc (suc (suc (suc (suc (suc n)))))))))

pub each : (P : ℕ → Type 0) → P 0 → P 1 → P 2 → P 3 → P 4 → P 5 → P 6 → P 7 → P 8 → P 9 → ((n : ℕ) → P (ten_from n)) → (kind : ℕ) → P kind
each P a b c d e f g h i j k zero = a
each P a b c d e f g h i j k (suc zero) = b
each P a b c d e f g h i j k (suc (suc zero)) = c
each P a b c d e f g h i j k (suc (suc (suc zero))) = d
each P a b c d e f g h i j k (suc (suc (suc (suc zero)))) = e
each P a b c d e f g h i j k (suc (suc (suc (suc (suc zero))))) = f
each P a b c d e f g h i j k (suc (suc (suc (suc (suc (suc zero)))))) = g
each P a b c d e f g h i j k (suc (suc (suc (suc (suc (suc (suc zero))))))) = h
each P a b c d e f g h i j k (suc (suc (suc (suc (suc (suc (suc (suc zero)))))))) = i
each P a b c d e f g h i j k (suc (suc (suc (suc (suc (suc (suc (suc (suc zero))))))))) = j
each P a b c d e f g h i j k (suc (suc (suc (suc (suc (suc (suc (suc (suc (suc n)))))))))) = k n

-- a value taken as that of a field
abbrev pub taken : Field → Value → Value
taken float v = the_float (float_in v)
taken flag v = the_flag (flag_in v)
taken curve v = the_curve (curve_in v)

-- the values from place i on, taken as those of these fields
abbrev pub taken_from : List Field → ℕ → List Value → List Value
taken_from [] i vs = []
taken_from (f ∷ fs) i vs = taken f (value_from vs i) ∷ taken_from fs (suc i) vs

module _ (vs : List Value) where
  pub kind-is : (kind : ℕ) → kind ≤ 9 → kind_of (op_by kind vs) ≡ kind
  kind-is = each (λ k. k ≤ 9 → kind_of (op_by k vs) ≡ k) (λ h. refl) (λ h. refl) (λ h. refl) (λ h. refl) (λ h. refl) (λ h. refl) (λ h. refl) (λ h. refl) (λ h. refl) (λ h. refl) (λ n h. absurd (omega arith))

  pub kind-same : (ws : List Value) (kind : ℕ) → kind_of (op_by kind vs) ≡ kind_of (op_by kind ws)
  kind-same ws = each (λ k. kind_of (op_by k vs) ≡ kind_of (op_by k ws)) refl refl refl refl refl refl refl refl refl refl (λ n. refl)

  pub values-are : (kind : ℕ) → values_of (op_by kind vs) ≡ taken_from (layout_of kind) 0 vs
  values-are = each (λ k. values_of (op_by k vs) ≡ taken_from (layout_of k) 0 vs) refl refl refl refl refl refl refl refl refl refl (λ n. refl)

-- the op of blank values
pub blanks_are : (kind : ℕ) → parts_of (op_by kind (map value_of (replicate 9 (cell (the_float F32.zero))))) ≡ blank_parts kind
blanks_are = each (λ k. parts_of (op_by k (map value_of (replicate 9 (cell (the_float F32.zero))))) ≡ blank_parts k) refl refl refl refl refl refl refl refl refl refl (λ n. refl)
