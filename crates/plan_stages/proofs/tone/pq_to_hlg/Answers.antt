-- `plan_stages::tone::pq_to_hlg` meets its contract.
-- The ops of its steps, one after the other, are those of `pq_to_hlg_ops`.
use Rattle.notation.specs.F32.{bits}
use Rattle.list.proofs.Building.{appended-append}
use Rattle.plan_stages.specs.Stages.{inverse_ootf_ops, gamut_map_ops}
use Rattle.plan_stages.proofs.tone.pq_to_hlg.Goals as goal

pub returns : goal.returns
returns c =
    let a = c.args in
    rw (← c.is_pq_to_hlg.ensures, c.if-not-is_pq_to_hlg.false, c.gamut_map.ensures, c.inverse_ootf.ensures)
    (appended-append a.out (inverse_ootf_ops a.current a.settings) (gamut_map_ops a.current (bits 0x3dcc_cccd)))
