-- `push` meets its contract.
-- 10 refuses the list or the longer one, or the op goes into the slot behind the last.
use Prim.Native.Nat.{◌≤◌, ◌<◌}
use mathlib.Core.Path.{◌≡◌, sym, ◌∙◌}
use mathlib.Core.Bool.{true}
use native.Mathlib.Omega.{arith}
use lib.ListN.{length}
use Rattle.list.specs.Lists.{ops_of, lawful}
use Rattle.list.proofs.Owned.{as_many, thirty_two}
use Rattle.list.proofs.Formed.{lawful-exactly}
use Rattle.list.proofs.Building.{refused, no_room, counted, next-end, pushes, one_more}
use Rattle.list.proofs.push.Goals as goal
use Rattle.list.proofs.push.Goals.{then-not-lawful-via-then-not-lawful, then-not-lawful-via-else-not-lawful+then-plan-eq32}

pub returns-then-not-lawful : goal.returns-then-not-lawful
returns-then-not-lawful c =
    let p = c.args.plan in
    c.empty.ensures ∙ elim c.then-not-lawful.branch [
      | then-not-lawful-via-then-not-lawful w ↦ refused p (sym c.lawful.ensures ∙ w.if-not-lawful.true) _
      | then-not-lawful-via-else-not-lawful+then-plan-eq32 w ↦
          let full : p.count ≡ 32 = w.if-plan-eq32.true in
          no_room p c.args.op (counted p (thirty_two p c.well_formed.0) (omega arith) ∙ full)
    ]

pub padded-longer-requires : goal.padded-longer-requires
padded-longer-requires c =
    let p = c.args.plan in
    let k = (lawful-exactly p).0 (sym c.lawful.ensures ∙ c.if-not-lawful.false) in
    let n = as_many p c.well_formed.0 k.0.1 in
    (rw n k.0.1, rw n k.1)

pub offset_bounds-longer-plan : goal.offset_bounds-longer-plan
offset_bounds-longer-plan c =
    let at_most : c.args.plan.count ≤ 32 = ((lawful-exactly c.args.plan).0 (sym c.lawful.ensures ∙ c.if-not-lawful.false)).0.1 in
    omega arith

pub returns : goal.returns
returns c =
    let p = c.args.plan in
    let o = c.args.op in
    let l : lawful p ≡ true = sym c.lawful.ensures ∙ c.if-not-lawful.false in
    let at_most : p.count ≤ 32 = ((lawful-exactly p).0 l).0.1 in
    let n = c.if-plan-eq32.false in
    let b : p.count < 32 = omega arith in
    let e : length (ops_of p) ≡ p.count = counted p (thirty_two p c.well_formed.0) at_most in
    let h : length (ops_of p) < 32 = omega arith in
    rw (c.padded-longer.ensures, c.led_to.ensures)
    (one_more p.start (ops_of p) o p.count _ e b (next-end p o l b) ∙ pushes p o l h)
