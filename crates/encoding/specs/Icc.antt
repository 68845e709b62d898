-- "ICC channel count of a byte slice: under 20 bytes 3; else bytes 16 to 19 `GRAY` 1, `CMYK` 4, others 3." (01, Samples)
use Rattle.std.specs.Prelude.{ℕ, Bool, List, eqb, ltb, length, take, drop}
use Rattle.notation.specs.Choice.{when◌then◌else◌}
use Rattle.notation.specs.Text.{ascii}
use Rattle.list_same.specs.Same.{same_all}

abbrev pub gray : List ℕ
gray = ascii "GRAY"

abbrev pub cmyk : List ℕ
cmyk = ascii "CMYK"

-- whether bytes 16 to 19 of a profile are these
abbrev pub signature_is : List ℕ → List ℕ → Bool
signature_is s profile = same_all eqb (take 4 (drop 16 profile)) s

abbrev pub icc_channels : List ℕ → ℕ
icc_channels profile =
    when ltb (length profile) 20 then 3
    else when signature_is gray profile then 1
    else when signature_is cmyk profile then 4
    else 3
