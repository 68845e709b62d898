-- `triangle_of` answers `triangle_points`.
-- Each arm knows its case of the primaries, and each call's result stands for its meaning.
use Rattle.ciexyz.proofs.consts.triangle_of.Goals as goal

pub returns-in-Srgb : goal.returns-in-Srgb
returns-in-Srgb c = rw c.in-Srgb.is

pub returns-in-Bt2100 : goal.returns-in-Bt2100
returns-in-Bt2100 c = rw c.in-Bt2100.is

pub returns-in-P3 : goal.returns-in-P3
returns-in-P3 c = rw c.in-P3.is

pub returns-in-Custom : goal.returns-in-Custom
returns-in-Custom c =
    rw (
      c.in-Custom.is,
      c.point.ensures,
      c.point-in-Custom.ensures,
      c.point-in-Custom-2.ensures,
    )
