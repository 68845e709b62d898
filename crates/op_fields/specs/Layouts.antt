-- "then ops: a kind byte and its fields in f32 unless said" (01, Plan block): the fields of each kind. Definitions only.
use Rattle.std.specs.Prelude.{ℕ, List, [], ◌∷◌, ◌++◌, get_or, replicate}

-- a float, a flag, or "curve u8, g u32"
pub data Field : Type 0 where
  float : Field
  flag : Field
  curve : Field

abbrev pub floats : ℕ → List Field
floats n = replicate n float

-- "Params: three luminances, intensity, min_nits."
abbrev pub params : List Field
params = floats 5

-- the fields of the kinds 0 to 9
abbrev pub layouts : List (List Field)
layouts =
    floats 4  -- "XybToMixedLms: biases, intensity"
    ∷ floats 2  -- "LumaToXyz: x, y"
    ∷ []  -- "XyzToLuma"
    ∷ floats 9  -- "Matrix, by rows"
    ∷ (curve ∷ flag ∷ params)  -- "TransferFunction: curve u8, g u32, inverse u8, params"
    ∷ params  -- "HlgInverseOotf: params"
    ∷ (params ++ (float ∷ flag ∷ []))  -- "ToneMapRec2408 ..: params, display, detect u8"
    ∷ (params ++ (float ∷ flag ∷ []))  -- "ToneMapLumaRec2408 .."
    ∷ floats 4  -- "GamutMap: luminances, factor"
    ∷ []  -- "Clip"
    ∷ []

abbrev pub layout_of : ℕ → List Field
layout_of kind = get_or layouts kind []
