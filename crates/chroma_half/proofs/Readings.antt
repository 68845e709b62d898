-- Lines worked out by hand: both ends, halves upward both ways, an odd last byte, and a line that does not come back.
-- Computed.
use mathlib.Core.Path.{◌≡◌, refl}
use mathlib.Core.List.{[], ◌∷◌}
use Rattle.nearest.specs.Nearest.{byte_of}
use Rattle.chroma_half.specs.Widening.{mix_of, widened}
use Rattle.chroma_half.specs.Narrowing.{mean_of, narrowed}

-- 255/4 is 63.75, 765/4 is 191.25
pub two_widened : widened (0 ∷ 255 ∷ []) 4 ≡ 0 ∷ 64 ∷ 191 ∷ 255 ∷ []
unfolding mix_of byte_of
two_widened = refl

-- 2/4 and 6/4 are halves
pub halves_widened : widened (0 ∷ 2 ∷ 0 ∷ []) 5 ≡ 0 ∷ 1 ∷ 2 ∷ 2 ∷ 1 ∷ []
unfolding mix_of byte_of
halves_widened = refl

pub one_widened : widened (7 ∷ []) 1 ≡ 7 ∷ []
unfolding mix_of byte_of
one_widened = refl

pub three_narrowed : narrowed (0 ∷ 1 ∷ 255 ∷ []) ≡ 1 ∷ 255 ∷ []
unfolding mean_of byte_of
three_narrowed = refl

-- of unequal bytes something else may come back: (0 + 64)/2 and (191 + 255)/2
pub not_back : narrowed (widened (0 ∷ 255 ∷ []) 4) ≡ 32 ∷ 223 ∷ []
unfolding mix_of mean_of byte_of
not_back = refl
