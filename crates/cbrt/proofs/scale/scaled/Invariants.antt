-- `scaled` writes a size as g * 8 ^ a.
-- The place is three times its third and what that leaves; each turn of the loop moves one factor of 8 from a to g.
use mathlib.Core.Path.{◌≡◌}
use Prim.Native.Nat.{◌*◌, ◌<◌, ◌^◌, ◌≤◌}
use Rattle.cbrt.specs.Root.{cube}
use Rattle.cbrt.proofs.scale.scaled.Given as goal

abbrev pub invariant-loop-g : goal.invariant-loop-g
invariant-loop-g l = (l.g < 0x800_0000) × (l.a ≤ 92) × (l.digits * 2 ^ l.place * 0x200_0000 ≡ l.g * cube (2 ^ l.a))

abbrev pub decreases-loop-g : goal.decreases-loop-g
decreases-loop-g l = l.a
