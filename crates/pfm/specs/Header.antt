-- The header of a portable float map, byte by byte: "PF" for three channels or "Pf" for one, the width, the height, and a scale that is negative where
-- samples are little-endian; white space between them, and one white space behind the scale. Definitions only.
use Rattle.std.specs.Prelude.{ℕ, ◌+◌, ◌-◌, ◌*◌, Bool, true, false, not, ◌&&◌, ◌||◌, List, [], ◌∷◌, eqb, leb, ltb}
use Rattle.notation.specs.Choice.{when◌then◌else◌}
use Rattle.pfm.specs.declared.headers.Header.{Header}
use Rattle.pfm.specs.declared.headers.Numbers.{Numbers}
use Rattle.pfm.specs.declared.headers.Size.{Size}
use Rattle.pfm.specs.declared.headers.Size.TheVariants.{Grows, Waits, Ends, Wrong}
use Rattle.pfm.specs.declared.headers.Stage.{Stage}
use Rattle.pfm.specs.declared.headers.Stage.TheVariants.{Start, Kind, Marked, BeforeWidth, Width, BeforeHeight, Height, BeforeScale, Whole, Fraction, Done, NotPfm, BadSize, BadScale}

abbrev pub is_digit : ℕ → Bool
is_digit c = leb 48 c && leb c 57

-- space, and from tab to carriage return
abbrev pub is_space : ℕ → Bool
is_space c = eqb c 32 || (leb 9 c && leb c 13)

-- white space before a number is passed over, and behind it ends it; no size is 0
abbrev pub space_by : Bool → ℕ → Size
space_by begun n = when not begun then Waits else when eqb n 0 then Wrong else Ends

-- a digit makes ten times the number and itself, up to 2^31 - 1
abbrev pub size_by : Bool → ℕ → ℕ → Size
size_by begun n c =
    when is_space c then space_by begun n
    else when ltb c 48 then Wrong
    else when ltb 57 c then Wrong
    else when ltb 0x7fff_ffff (10 * n + (c - 48)) then Wrong
    else Grows (10 * n + (c - 48))

abbrev pub at : Stage → Numbers → Header
at stage n = record { stage = stage; numbers = n }

-- "PF" or "Pf"
abbrev pub on_start : Numbers → ℕ → Header
on_start n c = at (when eqb c 80 then Kind else NotPfm) n

abbrev pub with_channels : Numbers → ℕ → Numbers
with_channels n k = record { channels = k; width = n.width; height = n.height; little = n.little; nonzero = n.nonzero; sized = n.sized; used = n.used }

abbrev pub on_kind : Numbers → ℕ → Header
on_kind n c =
    when eqb c 70 then at Marked (with_channels n 3)
    else when eqb c 102 then at Marked (with_channels n 1)
    else at NotPfm n

abbrev pub on_marked : Numbers → ℕ → Header
on_marked n c = at (when is_space c then BeforeWidth else NotPfm) n

abbrev pub on_width : Numbers → Size → Header
on_width n (Grows w) = at Width (record { channels = n.channels; width = w; height = n.height; little = n.little; nonzero = n.nonzero; sized = n.sized; used = n.used })
on_width n Waits = at BeforeWidth n
on_width n Ends = at BeforeHeight n
on_width n Wrong = at BadSize n

-- `place` is the place behind the byte
abbrev pub on_height : Numbers → ℕ → Size → Header
on_height n place (Grows h) = at Height (record { channels = n.channels; width = n.width; height = h; little = n.little; nonzero = n.nonzero; sized = n.sized; used = n.used })
on_height n place Waits = at BeforeHeight n
on_height n place Ends = at BeforeScale (record { channels = n.channels; width = n.width; height = n.height; little = n.little; nonzero = n.nonzero; sized = place; used = n.used })
on_height n place Wrong = at BadSize n

-- the scale: digits, of which one is not 0, and white space behind them
abbrev pub on_scale : Numbers → ℕ → ℕ → Stage → Header
on_scale n place c stage =
    when is_digit c then at stage (record { channels = n.channels; width = n.width; height = n.height; little = n.little; nonzero = n.nonzero || not (eqb c 48); sized = n.sized; used = n.used })
    else when not (is_space c) then at BadScale n
    else when not n.nonzero then at BadScale n
    else at Done (record { channels = n.channels; width = n.width; height = n.height; little = n.little; nonzero = n.nonzero; sized = n.sized; used = place })

-- a point among them
abbrev pub on_whole : Numbers → ℕ → ℕ → Header
on_whole n place c = when eqb c 46 then at Fraction n else on_scale n place c Whole

-- and a minus before them
abbrev pub on_sign : Numbers → ℕ → ℕ → Header
on_sign n place c =
    when is_space c then at BeforeScale n
    else when eqb c 45 then at Whole (record { channels = n.channels; width = n.width; height = n.height; little = true; nonzero = n.nonzero; sized = n.sized; used = n.used })
    else on_whole n place c

abbrev pub step_by : Stage → Header → ℕ → ℕ → Header
step_by Start h place c = on_start h.numbers c
step_by Kind h place c = on_kind h.numbers c
step_by Marked h place c = on_marked h.numbers c
step_by BeforeWidth h place c = on_width h.numbers (size_by false 0 c)
step_by Width h place c = on_width h.numbers (size_by true h.numbers.width c)
step_by BeforeHeight h place c = on_height h.numbers place (size_by false 0 c)
step_by Height h place c = on_height h.numbers place (size_by true h.numbers.height c)
step_by BeforeScale h place c = on_sign h.numbers place c
step_by Whole h place c = on_whole h.numbers place c
step_by Fraction h place c = on_scale h.numbers place c Fraction
step_by Done h place c = h
step_by NotPfm h place c = h
step_by BadSize h place c = h
step_by BadScale h place c = h

abbrev pub step_of : Header → ℕ → ℕ → Header
step_of h place c = step_by h.stage h place c

abbrev pub begun : Header
begun = at Start (record { channels = 0; width = 0; height = 0; little = false; nonzero = false; sized = 0; used = 0 })

-- byte after byte; what is behind the header changes nothing
abbrev pub header_from : Header → ℕ → List ℕ → Header
header_from h place [] = h
header_from h place (c ∷ s) = header_from (step_of h (place + 1) c) (place + 1) s

unfoldable pub header_of : List ℕ → Header
header_of s = header_from begun 0 s
