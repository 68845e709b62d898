-- `whole::added` is the fused product and sum.
-- Where all three are finite, their digits and places go into `added`; else the laws of `Special` answer.
use mathlib.Core.Path.{subst, sym, ◌∙◌}
use native.Mathlib.Omega.{arith}
use lib.Dec.{T}
use Rattle.binary32.proofs.Apart.{IsFinite, finite_of, is_finite, not_finite}
use Rattle.fused.proofs.Product.{by_digits, product_lt}
use Rattle.fused.proofs.Special.{first-inf, second-inf, third-inf}
use Rattle.fused.proofs.whole.added.Goals.{In-Finite, In-Finite-take_apart, In-Finite-take_apart-2}
use Rattle.fused.proofs.whole.added.Goals as goal

-- the three as their digits and places; that the format holds an f32 is told by owning it
first : (c : In-Finite) → IsFinite c.args.a c.in-Finite.s c.in-Finite.m c.in-Finite.i
first c = is_finite _ _ _ _ (subst T (sym c.well_formed.0.1) tt) (sym c.in-Finite.is ∙ c.take_apart.ensures)

second : (c : In-Finite-take_apart) → IsFinite c.args.b c.in-Finite-take_apart.t c.in-Finite-take_apart.n c.in-Finite-take_apart.j
second c = is_finite _ _ _ _ (subst T (sym c.well_formed.1.0.1) tt) (sym c.in-Finite-take_apart.is ∙ c.take_apart-2.ensures)

third : (c : In-Finite-take_apart-2) → IsFinite c.args.c c.in-Finite-take_apart-2.u c.in-Finite-take_apart-2.o c.in-Finite-take_apart-2.k
third c = is_finite _ _ _ _ (subst T (sym c.well_formed.1.1.0.1) tt) (sym c.in-Finite-take_apart-2.is ∙ c.take_apart-3.ensures)

pub returns-in_default : goal.returns-in_default
returns-in_default c = first-inf _ _ _ (not_finite c.args.a _ c.take_apart.ensures c.in_default.not-Finite)

pub returns-in_default-take_apart : goal.returns-in_default-take_apart
returns-in_default-take_apart c = second-inf _ _ _ (not_finite c.args.b _ c.take_apart-2.ensures c.in_default-take_apart.not-Finite)

pub returns-in_default-take_apart-2 : goal.returns-in_default-take_apart-2
returns-in_default-take_apart-2 c =
    let z = goal.at.returns-in_default-take_apart-2 c in
    third-inf _ _ _ (finite_of (first z.In-Finite)) (finite_of (second z.In-Finite-take_apart))
    (not_finite c.args.c _ c.take_apart-3.ensures c.in_default-take_apart-2.not-Finite)

pub overflow_mul-product : goal.overflow_mul-product
overflow_mul-product c =
    let z = goal.at.overflow_mul-product c in
    omega (arith, product_lt _ _ (first z.In-Finite).few (second z.In-Finite-take_apart).few)

pub overflow_add-product : goal.overflow_add-product
overflow_add-product c =
    let z = goal.at.overflow_add-product c in
    omega (arith, (first z.In-Finite).bounded, (second z.In-Finite-take_apart).bounded)

pub overflow_add-addend : goal.overflow_add-addend
overflow_add-addend c =
    let z = goal.at.overflow_add-addend c in
    omega (arith, (third z.In-Finite-take_apart-2).bounded)

pub added-requires : goal.added-requires
added-requires c =
    let z = goal.at.added-requires c in
    let x = first z.In-Finite in
    let y = second z.In-Finite-take_apart in
    let v = third z.In-Finite-take_apart-2 in
    (product_lt _ _ x.few y.few, omega arith, omega arith, omega arith)

pub returns : goal.returns
returns c =
    let z = goal.at.returns c in
    let x = first z.In-Finite in
    let y = second z.In-Finite-take_apart in
    let v = third z.In-Finite-take_apart-2 in
    c.added.ensures ∙ by_digits _ _ _ _ _ _ _ _ _ _ _ _ x.value y.value v.value
