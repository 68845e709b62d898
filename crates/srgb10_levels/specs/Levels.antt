-- "f32 levels divided by 65535" (02, W9). Definitions only.
use Rattle.std.specs.Prelude.{ℕ, Float}
use Rattle.notation.specs.F32.{◌/f◌, as_f32}
use Rattle.srgb10.specs.Codes.{level_of}

unfoldable pub divided_level : ℕ → Float
divided_level c = as_f32 (level_of c) /f as_f32 65535
