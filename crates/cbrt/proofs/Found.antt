-- The root that `is_root` describes is the one that `cbrt_of` finds.
-- The search meets a pattern of which `is_root` holds, since the root has one; and of two roots both are the same.
use mathlib.Core.Path.{subst, sym, ◌≡◌}
use mathlib.Core.Bool.{Bool}
use Prim.Native.Nat.{zero-le, ℕ}
use native.Mathlib.Nat.{lt_of_lt_of_le}
use lib.Dec.{T, lit≤}
use lib.Ieee.{Float, binary32, fits, of_bits, to_bits}
use lib.Ieee.Bits.{of_bits-fits, of_bits-to_bits, to_bits-lt}
use Rattle.notation.specs.First.{first}
use Rattle.notation.proofs.First.{first_found}
use Rattle.cbrt.proofs.Unique.{root_unique}
use Rattle.cbrt.specs.Root.{cbrt_of, is_root}

pub cbrt-is : (x r : Float) → T (fits binary32 x) → T (fits binary32 r) → T (is_root x r) → r ≡ cbrt_of x
unfolding cbrt_of
cbrt-is x r f g h =
    let p : ℕ → Bool = λ b. is_root x (of_bits binary32 b) in
    let b = to_bits binary32 r in
    let k : T (p b) = subst (λ (y : Float). T (is_root x y)) (sym (of_bits-to_bits binary32 r g)) h in
    let found = (first_found p 0x1_0000_0000 0 b zero-le (lt_of_lt_of_le (to_bits-lt binary32 r g) (lit≤ tt)) k).0 in
    root_unique x r (of_bits binary32 (first p 0x1_0000_0000 0)) f g (of_bits-fits binary32 (first p 0x1_0000_0000 0)) h found
