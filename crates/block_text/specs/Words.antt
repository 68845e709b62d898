-- What the lines are made of: the names of the ops, and numbers in decimal. (01, Plan block; 02, W10). Definitions only.
use Rattle.std.specs.Prelude.{ℕ, ◌+◌, ◌/◌, ◌%◌, List, [], ◌∷◌, ◌++◌, ltb}
use Rattle.notation.specs.Choice.{when◌then◌else◌}
use Rattle.notation.specs.Text.{ascii}
use Rattle.op.specs.Retired.{is_retired}
use Rattle.op.specs.declared.Op.{Op}
use Rattle.op.specs.declared.Op.TheVariants as O

-- "| kind | op |"
abbrev pub name_of : Op → List ℕ
name_of (O.XybToMixedLms bias intensity) = ascii "XybToMixedLms"
name_of (O.LumaToXyz illuminant) = ascii "LumaToXyz"
name_of O.XyzToLuma = ascii "XyzToLuma"
name_of (O.Matrix m) = ascii "Matrix"
name_of (O.TransferFunction curve params inverse) = ascii "TransferFunction"
name_of (O.HlgInverseOotf params) = ascii "HlgInverseOotf"
name_of (O.ToneMapRec2408 params display detect) = ascii "ToneMapRec2408"
name_of (O.ToneMapLumaRec2408 params display detect) = ascii "ToneMapLumaRec2408"
name_of (O.GamutMap luminances factor) = ascii "GamutMap"
name_of O.Clip = ascii "Clip"

-- "the list program adds the word `retired` after the op's name" (02, W10)
abbrev pub mark_of : Op → List ℕ
mark_of o = when is_retired o then ascii " retired" else []

abbrev pub title_of : Op → List ℕ
title_of o = name_of o ++ mark_of o

-- the digit `0` to `9` of a number below ten
abbrev pub digit : ℕ → ℕ
digit d = 48 + d

-- a number below a hundred, as all are that are printed
abbrev pub decimal : ℕ → List ℕ
decimal n = when ltb n 10 then digit n ∷ [] else digit (n / 10) ∷ digit (n % 10) ∷ []

-- words and then a number; the same as the end of a line
abbrev pub counted : List ℕ → ℕ → List ℕ
counted words n = words ++ decimal n

abbrev pub ending : List ℕ → ℕ → List ℕ
ending words n = counted words n ++ ascii "\n"
