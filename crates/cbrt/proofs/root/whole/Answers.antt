-- `whole` is the whole cube root of h * 2 ^ 24.
-- The whiteboard says so of the digits taken in: of none, of each three more, and of all of them.
use Prim.Native.Nat.{◌<◌}
use native.Mathlib.Omega.{arith}
use Rattle.cbrt.proofs.Digits.{digit-0, digit-1, shifts, Small, small}
use Rattle.cbrt.proofs.root.whole.Goals.{In-loop-taken, else-trial-remainder, then-trial-remainder}
use Rattle.cbrt.proofs.root.whole.Goals as goal

-- in the loop there is a three to take in, and what is kept is small
to_take : (c : In-loop-taken) → c.loop-taken._taken < 25
to_take c = omega (arith, c.loop-taken-test.true)

kept : (c : In-loop-taken) → Small c.loop-taken.y c.loop-taken.square c.loop-taken.remainder c.loop-taken.rest
kept c = small c.requires c.loop-taken.invariant (to_take c)

pub overflow_add-remainder : goal.overflow_add-remainder
overflow_add-remainder c = omega (arith, kept (goal.at.overflow_add-remainder c).In-loop-taken)

pub overflow_add-trial : goal.overflow_add-trial
overflow_add-trial c = omega (arith, kept (goal.at.overflow_add-trial c).In-loop-taken)

pub overflow_add-trial-in-loop-taken : goal.overflow_add-trial-in-loop-taken
overflow_add-trial-in-loop-taken c = omega (arith, kept (goal.at.overflow_add-trial-in-loop-taken c).In-loop-taken)

pub overflow_add-trial-in-loop-taken-2 : goal.overflow_add-trial-in-loop-taken-2
overflow_add-trial-in-loop-taken-2 c = omega (arith, kept (goal.at.overflow_add-trial-in-loop-taken-2 c).In-loop-taken)

pub overflow_add-trial-in-loop-taken-3 : goal.overflow_add-trial-in-loop-taken-3
overflow_add-trial-in-loop-taken-3 c = omega (arith, kept (goal.at.overflow_add-trial-in-loop-taken-3 c).In-loop-taken)

pub overflow_add-square : goal.overflow_add-square
overflow_add-square c = omega (arith, kept (goal.at.overflow_add-square c).In-loop-taken)

pub overflow_add-square-then-trial-remainder : goal.overflow_add-square-then-trial-remainder
overflow_add-square-then-trial-remainder c = omega (arith, kept (goal.at.overflow_add-square-then-trial-remainder c).In-loop-taken)

pub overflow_add-y : goal.overflow_add-y
overflow_add-y c = omega (arith, kept (goal.at.overflow_add-y c).In-loop-taken)

pub loop-taken-preserved : goal.loop-taken-preserved
loop-taken-preserved c =
    let i = c.loop-taken.invariant in
    let l = (goal.at.loop-taken-preserved c).In-loop-taken in
    let s = shifts (kept l) in
    elim c.if-trial-remainder.branch [
      | then-trial-remainder w ↦ rw (w.y-is, w.square-is, w.remainder-is) (digit-1 i (to_take l) s.y_1 s.y_2 s.square_2 s.square_3 s.remainder_3 s.rest_3 w.if-trial-remainder.true)
      | else-trial-remainder w ↦ rw (w.y-is, w.square-is, w.remainder-is) (digit-0 i (to_take l) s.y_1 s.y_2 s.square_2 s.square_3 s.remainder_3 s.rest_3 w.if-trial-remainder.false)
    ]
