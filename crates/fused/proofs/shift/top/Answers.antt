-- `top` shifts a number up to 62 digits.
-- The count of leading zeros is the shift, less the two that stay.
use mathlib.Core.Path.{sym}
use Prim.Native.Nat.{◌-◌}
use native.Mathlib.Nat.{le_of_eq, le_trans, lt_of_le_of_lt}
use native.Mathlib.Omega.{arith}
use lib.Count.{count_leading_zeros}
use Rattle.fused.proofs.Shifts.{lead}
use Rattle.fused.proofs.shift.top.Goals as goal

pub overflow_sub-z : goal.overflow_sub-z
overflow_sub-z c = (lead _ c.requires.0 c.requires.1).two

pub returns-clause-size : goal.returns-clause-size
returns-clause-size c =
    let l = lead c.args.x.m c.requires.0 c.requires.1 in
    record {
      z = count_leading_zeros 64 c.args.x.m - 2;
      m_ge = le_trans l.ge (le_of_eq (sym l.same));
      m_lt = lt_of_le_of_lt (le_of_eq l.same) l.lt;
      m_is = l.same;
      f_is = omega (arith, l.most);
    }
