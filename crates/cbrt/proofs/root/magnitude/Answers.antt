-- `magnitude` is that of the rounded root.
-- The whole root w has 25 digits; q = (w + 1) / 2 has 2 q - 1 ≤ w and w + 1 ≤ 2 q + 1, so the cubes of its half steps enclose the number.
use mathlib.Core.Path.{◌≡◌}
use Prim.Native.Nat.{◌%◌, ◌*◌, ◌+◌, ◌-◌, ◌/◌, ◌<◌, ℕ, ◌≤◌}
use native.Mathlib.Nat.{le_of_lt, le_trans}
use native.Mathlib.Omega.{arith}
use Rattle.cbrt.proofs.Cubes.{cube-lt, cube-mono}
use Rattle.cbrt.specs.Root.{cube}
use Rattle.cbrt.specs.Steps.{WholeRoot}
use Rattle.cbrt.proofs.root.magnitude.Goals.{After-whole-w}
use Rattle.cbrt.proofs.root.magnitude.Goals as goal

-- the shift loses no digit
whole-root : (c : After-whole-w) → WholeRoot (c.args.g * 0x1_0000_0000_0000) c.whole-w.result
whole-root c =
    let g = c.args.g in
    let e : g * 0x100_0000 % 0x1_0000_0000_0000_0000 * 0x100_0000 ≡ g * 0x1_0000_0000_0000 = omega (arith, c.requires) in
    rw e at c.whole-w.ensures

-- the root has 25 digits
w-lt : (g w : ℕ) → g < 0x800_0000 → cube w ≤ g * 0x1_0000_0000_0000 → w < 0x200_0000
w-lt g w h k = cube-lt w 0x200_0000 (g * 0x1_0000_0000_0000) k (omega arith)

w-ge : (g w : ℕ) → 0x100_0000 ≤ g → g * 0x1_0000_0000_0000 < cube (w + 1) → 0x100_0000 < w + 1
w-ge g w h k = cube-lt 0x100_0000 (w + 1) (g * 0x1_0000_0000_0000) (omega arith) k

pub overflow_add-q : goal.overflow_add-q
overflow_add-q c = omega (arith, w-lt _ _ c.requires.1 (whole-root (goal.at.overflow_add-q c).After-whole-w).low)

pub overflow_add-result-2 : goal.overflow_add-result-2
overflow_add-result-2 c = omega (arith, w-lt _ _ c.requires.1 (whole-root (goal.at.overflow_add-result-2 c).After-whole-w).low)

pub returns : goal.returns
returns c =
    let g = c.args.g in
    let p = c.requires in
    let w = c.whole-w.result in
    let i = whole-root (goal.at.returns c).After-whole-w in
    let q = (w + 1) / 2 in
    let lt = w-lt g w p.1 i.low in
    let ge = w-ge g w p.0 i.high in
    let lo : 2 * q - 1 ≤ w = omega arith in
    let hi : w + 1 ≤ 2 * q + 1 = omega arith in
    record {
      q = q;
      q_ge = omega arith;
      q_le = omega arith;
      low = le_trans (cube-mono lo) i.low;
      high = le_trans (le_of_lt i.high) (cube-mono hi);
      is = omega arith;
    }
