-- The width that ops lead to, one after the other; 0 where one of them needs another width than the one that it finds. Definitions only.
use Rattle.std.specs.Prelude.{ℕ, List, [], ◌∷◌}
use Rattle.notation.specs.Choice.{when◌then◌else◌}
use Rattle.op.specs.Widths.{fits_at, gives_of}
use Rattle.op.specs.declared.Op.{Op}

-- of ops that are entered at width w
abbrev pub end_from : ℕ → List Op → ℕ
end_from w [] = w
end_from w (o ∷ os) = when fits_at o w then end_from (gives_of o w) os else 0
