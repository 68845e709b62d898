-- `plan_stages::tone::tone_map` meets its contract.
-- Each return follows the test that led to it.
use mathlib.Core.List.{[], ◌∷◌}
use Rattle.list.proofs.Building.{appended-append}
use Rattle.plan_stages.proofs.tone.tone_map.Goals as goal

pub returns : goal.returns
returns c =
    rw (← c.is_tone_mapped.ensures, c.if-not-is_tone_mapped.false, c.gamut_map.ensures, c.push-mapped.ensures, c.tone_map_op.ensures, c.hdr_params-hdr_params.ensures, c.own_luminances.ensures)
    (appended-append _ (_ ∷ []) _)
