-- `cbrt` answers the f32 nearest the root.
-- The size is scaled to g * 8 ^ a, the root of g is rounded to 24 digits, and the magnitude puts it together with the sign.
use mathlib.Core.Path.{subst, sym, ◌∙◌, ◌≡◌}
use native.Mathlib.Omega.{arith}
use lib.Dec.{T}
use lib.Ieee.{Float, binary32, fits}
use Rattle.binary32.proofs.Apart.{IsFinite, is_finite, not_finite}
use Rattle.cbrt.proofs.Found.{cbrt-is}
use Rattle.cbrt.proofs.Put.{fits-put, root-put}
use Rattle.cbrt.proofs.Self.{self_root, zero-root}
use Rattle.cbrt.specs.Root.{cbrt_of, is_root}
use Rattle.cbrt.proofs.cbrt.Goals.{In-Finite}
use Rattle.cbrt.proofs.cbrt.Goals as goal

-- x by its digits and its place
parts : (c : In-Finite) → IsFinite c.args.x c.in-Finite.negative c.in-Finite.digits c.in-Finite.place
parts c = is_finite _ _ _ _ (subst T (sym c.well_formed.0.1) tt) (sym c.in-Finite.is ∙ c.take_apart.ensures)

record Answered (x r : Float) : Type 0 where
  is : T (is_root x r)
  value : r ≡ cbrt_of x

-- a root that fits is the one that `cbrt_of` finds
found : (x r : Float) → T (fits binary32 x) → T (fits binary32 r) → T (is_root x r) → Answered x r
found x r f g h = record { is = h; value = cbrt-is x r f g h }

pub returns-in_default : goal.returns-in_default
returns-in_default c =
    let f = found _ _ (subst T (sym c.well_formed.0.1) tt) (subst T (sym c.well_formed.0.1) tt) (self_root c.args.x (not_finite c.args.x _ c.take_apart.ensures c.in_default.not-Finite)) in
    record { nearest = f.is; value = f.value }

pub returns-then-digits-eq0 : goal.returns-then-digits-eq0
returns-then-digits-eq0 c =
    let f = found _ _ (subst T (sym c.well_formed.0.1) tt) (subst T (sym c.well_formed.0.1) tt) (zero-root (parts (goal.at.returns-then-digits-eq0 c).In-Finite) c.if-digits-eq0.true) in
    record { nearest = f.is; value = f.value }

pub scaled-size-requires : goal.scaled-size-requires
scaled-size-requires c =
    let p = parts (goal.at.scaled-size-requires c).In-Finite in
    (omega (arith, c.if-digits-eq0.false), p.few, p.bounded)

pub returns : goal.returns
returns c =
    let p = parts (goal.at.returns c).In-Finite in
    let k = c.scaled-size.ensures in
    let s = c.in-Finite.negative in
    let w = c.magnitude.ensures in
    let f = found c.args.x _ (subst T (sym c.well_formed.0.1) tt) (fits-put s _ _ _ w k.a_le) (root-put s _ _ _ w k.a_le c.args.x _ _ p (omega (arith, c.if-digits-eq0.false)) k) in
    rw c.put_together.ensures (record { nearest = f.is; value = f.value })
