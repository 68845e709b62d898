-- `read_ops` meets its contract.
-- What is read from here, put behind what is read already, is what the whole is.
use Prim.Native.Nat.{◌-◌, ◌<◌}
use mathlib.Core.Path.{◌≡◌, ◌∙◌}
use native.Mathlib.Omega.{arith}
use lib.ListN.{drop}
use Rattle.block_read.specs.Block.{head_of}
use Rattle.block_read.proofs.Turn.{begun, begun_kept, pushed_kept, goes, fits, stops, ends}
use Rattle.block_read.proofs.read_ops.Goals as goal

pub loop-i-init : goal.loop-i-init
loop-i-init c =
    let a = c.args in
    let e : a.count - 0 ≡ a.count = omega arith in
    let f = c.requires.1 in (
      rw c.head_of-used.ensures c.requires.0,
      rw (c.empty-plan.ensures, c.head_of-used.ensures, e) (begun a.version a.start a.count (drop (head_of a.version) a.s.now) f),
      rw c.empty-plan.ensures (begun_kept a.start a.count f),
    )

pub overflow_add-used : goal.overflow_add-used
overflow_add-used c =
    let v = c.loop-i in
    let a = c.args in
    let h : v.i < a.count = omega arith in
    omega (arith, fits a.s.now a.version v.used a.count v.i v.plan h c.read_op.ensures c.in-Ok.is v.invariant.0)

pub returns-in-Err : goal.returns-in-Err
returns-in-Err c =
    let v = c.loop-i in
    let a = c.args in
    let h : v.i < a.count = omega arith in
    stops a.s.now a.version v.used a.count v.i v.plan h c.read_op.ensures c.in-Err.is c.refused_by.ensures ∙ v.invariant.1

pub loop-i-preserved : goal.loop-i-preserved
loop-i-preserved c =
    let v = c.loop-i in
    let a = c.args in
    let h : v.i < a.count = omega arith in (
      fits a.s.now a.version v.used a.count v.i v.plan h c.read_op.ensures c.in-Ok.is v.invariant.0,
      goes a.s.now a.version v.used a.count v.i v.plan h c.read_op.ensures c.in-Ok.is c.push-plan.ensures ∙ v.invariant.1,
      pushed_kept v.plan _ c.push-plan.ensures,
    )

pub returns : goal.returns
returns c =
    let a = c.args in
    let v = c.loop-i in
    ends a.s.now a.version v.used a.count v.i v.plan (omega arith) v.invariant.2 ∙ v.invariant.1
