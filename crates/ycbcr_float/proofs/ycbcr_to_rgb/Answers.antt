-- `ycbcr_to_rgb` converts each triple where `judge` lets it, and changes nothing where it does not.
-- The answer Ok gives the lengths; the constants are those of the firmware's weights, and of the window (`Factors`).
use Rattle.std.proofs.Common.{sym, ap, ◌∙◌, subst}
use Rattle.ycbcr_float.specs.Ycbcr.{constants_of}
use Rattle.ycbcr_float.specs.Steps.{Factors}
use Rattle.ycbcr_float.proofs.Factors.{factors_of_lem}
use Rattle.ycbcr_float.proofs.ycbcr_to_rgb.Goals as goal

pub rgb_each-requires-clause-factors : goal.rgb_each-requires-clause-factors
rgb_each-requires-clause-factors c = subst Factors (sym (c.constants_of-k.ensures ∙ ap constants_of c.weights_of.ensures)) (factors_of_lem c.args.firmware)
