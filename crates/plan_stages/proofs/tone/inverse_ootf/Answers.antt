-- `plan_stages::tone::inverse_ootf` meets its contract.
-- Each return follows the test that led to it.
use mathlib.Core.List.{[], ◌∷◌}
use Rattle.list.proofs.Building.{appended-append}
use Rattle.plan_stages.proofs.tone.inverse_ootf.Goals as goal

pub returns : goal.returns
returns c =
    rw (← c.near_thousand.ensures, c.if-near_thousand.false, c.push.ensures, c.push-mapped.ensures, c.hdr_params.ensures, c.tone_map_op.ensures, c.hdr_params-from.ensures, c.own_luminances-luminances.ensures)
    (appended-append _ (_ ∷ []) (_ ∷ []))
