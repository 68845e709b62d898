-- `scaled` writes a size as g * 8 ^ a.
-- The place is three times its third and what that leaves; each turn of the loop moves one factor of 8 from a to g.
use Prim.Native.Nat.{◌<◌, ℕ, ◌≤◌}
use native.Mathlib.Nat.{mul-pos}
use native.Mathlib.Omega.{arith}
use lib.Pow.{pow_pos}
use Rattle.cbrt.proofs.Scaling.{a_pos, eight_times, left_lt, lift_step, shift-lt, shift_same}
use Rattle.cbrt.proofs.scale.scaled.Goals.{In-loop-g}
use Rattle.cbrt.proofs.scale.scaled.Goals as goal

-- g is too small only while a is not 0
a-left : (c : In-loop-g) → 0 < c.loop-g.a
a-left c =
    a_pos _ _ _ (mul-pos c.requires.0 (pow_pos c.args.place)) c.loop-g-test.true c.loop-g.invariant.2

below-512 : {p : ℕ} → p ≤ 253 → p < 512
below-512 h = omega arith

pub overflow_shl-g-2 : goal.overflow_shl-g-2
overflow_shl-g-2 c = left_lt _ _ c.requires.2 (omega arith) (omega arith)

pub loop-g-init : goal.loop-g-init
loop-g-init c =
    let d = c.args.digits in
    let p = c.args.place in
    let k = below-512 c.requires.2 in
    (shift-lt d p c.requires.1 k, omega arith, shift_same d p c.requires.1 k)

pub overflow_sub-a : goal.overflow_sub-a
overflow_sub-a c = a-left (goal.at.overflow_sub-a c).In-loop-g

pub loop-g-smaller : goal.loop-g-smaller
loop-g-smaller c = omega (arith, a-left (goal.at.loop-g-smaller c).In-loop-g)

pub loop-g-preserved : goal.loop-g-preserved
loop-g-preserved c =
    let e = eight_times c.loop-g.g c.loop-g-test.true in
    (omega arith, omega arith, rw e (lift_step _ _ _ (a-left (goal.at.loop-g-preserved c).In-loop-g) c.loop-g.invariant.2))
