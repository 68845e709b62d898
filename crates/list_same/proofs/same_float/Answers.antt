-- `list_same::same_float` meets its contract.
-- A NaN is the same as a NaN alone; two others are equal where their bits are.
use mathlib.Core.Path.{sym, subst, ◌∙◌}
use lib.Dec.{T}
use Rattle.list_same.proofs.Comparing.{first-nan, second-nan, by_bits}
use Rattle.list_same.proofs.same_float.Goals as goal

pub returns-then-is_nan : goal.returns-then-is_nan
returns-then-is_nan c = c.is_nan-then-is_nan.ensures.value ∙ first-nan c.args.a c.args.b (sym c.is_nan.ensures.value ∙ c.if-is_nan.true)

pub returns-then-is_nan-2 : goal.returns-then-is_nan-2
returns-then-is_nan-2 c = second-nan c.args.a c.args.b (sym c.is_nan.ensures.value ∙ c.if-is_nan.false) (sym c.is_nan-2.ensures.value ∙ c.if-is_nan-2.true)

pub returns : goal.returns
returns c = by_bits c.args.a c.args.b (subst T (sym c.well_formed.0.1) tt) (subst T (sym c.well_formed.1.0.1) tt)
