-- "how many samples in the channels within its given width are infinite or NaN after it. .. counts are held at 2^64 - 1. The number is defined from the
-- samples left." (02, W4). Definitions only.
use Rattle.std.specs.Prelude.{ℕ, ◌+◌, Bool, true, false, List, [], ◌∷◌, leb, Ok, Err, Float}
use Rattle.std.specs.Float.{nan, inf, fin}
use Rattle.notation.specs.Choice.{when◌then◌else◌}
use Rattle.channels.specs.Channels.{Channels, where_equal}
use Rattle.channels.specs.Stepping.{Stepping, step_of}
use Rattle.bad_samples.specs.declared.Stepped.{Stepped}

-- "infinite or NaN"
abbrev pub is_bad : Float → Bool
is_bad nan = true
is_bad (inf s) = true
is_bad (fin s m e) = false

-- how many of a channel's samples
abbrev pub one_if_bad : Float → ℕ
one_if_bad x = when is_bad x then 1 else 0

abbrev pub bad_in : List Float → ℕ
bad_in [] = 0
bad_in (x ∷ xs) = one_if_bad x + bad_in xs

-- "in the channels within its given width"
abbrev pub bad_if : Bool → List Float → ℕ
bad_if inside xs = when inside then bad_in xs else 0

abbrev pub bad_within : ℕ → Channels → ℕ
bad_within w s = bad_if (leb 1 w) s.a + bad_if (leb 2 w) s.b + bad_if (leb 3 w) s.c

-- "counts are held at 2^64 - 1"
abbrev pub held : ℕ → ℕ
held n = when leb n 0xffff_ffff_ffff_ffff then n else 0xffff_ffff_ffff_ffff

-- the number that is reported of channels that are left
abbrev pub count_of : ℕ → Channels → ℕ
count_of w s = held (bad_within w s)

-- "Each carried op's own step is to report" it of the channels left, within the width that it gives; a refused step reports 0
abbrev pub report_of : Stepping → Channels → Stepped
report_of (Ok w) left = record { answer = Ok w; bad = count_of w left }
report_of (Err e) left = record { answer = Err e; bad = 0 }

-- of a step that gives width w, and by which f is made of equally long channels
abbrev pub stepped_of : ℕ → (Channels → Channels) → Channels → Stepped
stepped_of w f s = report_of (step_of w s) (where_equal f s)
