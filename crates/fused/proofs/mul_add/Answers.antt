-- `mul_add` is the fused product and sum.
-- Where the sum at f64 is clear, cutting it is one rounding (`Twice`); else the form by whole numbers answers.
use mathlib.Core.Path.{◌∙◌, subst, sym}
use lib.Dec.{T}
use Rattle.rounding.specs.Steps.{Narrows, sum_of}
use Rattle.fused.specs.Fused.{fused}
use Rattle.fused.proofs.Twice.{clear_fused}
use Rattle.fused.proofs.mul_add.Goals.{Then-is_clear}
use Rattle.fused.proofs.mul_add.Goals as goal

-- that the format holds an f32 is told by owning it
cut : (c : Then-is_clear) → Narrows (sum_of c.args.a c.args.b c.args.c) (fused c.args.a c.args.b c.args.c)
cut c =
    clear_fused c.args.a c.args.b c.args.c (subst T (sym c.well_formed.0.1) tt) (subst T (sym c.well_formed.1.0.1) tt) (subst T (sym c.well_formed.1.1.0.1) tt) (c.is_clear.ensures c.if-is_clear.true)

pub narrow-requires : goal.narrow-requires
narrow-requires c = (cut (goal.at.narrow-requires c).Then-is_clear).single

pub returns-then-is_clear : goal.returns-then-is_clear
returns-then-is_clear c = c.narrow.ensures ∙ (cut (goal.at.returns-then-is_clear c).Then-is_clear).is
