-- "Equivalence: `is_equivalent`, enum case." (01, Planning)
use Rattle.std.specs.Prelude.{◌≡◌, Bool, ◌&&◌, ◌||◌, ◌⊎◌}
use Rattle.list_same.specs.Same.{same_curve}
use Rattle.encoding.specs.Named.{same_space, same_intent, same_white, same_primaries}
use Rattle.encoding.specs.declared.ColourSpace.TheVariants as S
use Rattle.encoding.specs.declared.EnumColourEncoding.{EnumColourEncoding}

-- the test: the same colour space, and either Xyb, or the same intent, white point, curve and, but for Grey, primaries
abbrev pub same_rest : EnumColourEncoding → EnumColourEncoding → Bool
same_rest me other =
    same_intent me.rendering_intent other.rendering_intent
    && same_white me.white_point other.white_point
    && same_curve me.tf other.tf
    && (same_space me.colour_space S.Grey || same_primaries me.primaries other.primaries)

abbrev pub equivalent : EnumColourEncoding → EnumColourEncoding → Bool
equivalent me other =
    same_space me.colour_space other.colour_space
    && (same_space me.colour_space S.Xyb || same_rest me other)

-- the same in words
pub data Equivalent (me other : EnumColourEncoding) : Type 0 where
  both_xyb : me.colour_space ≡ other.colour_space → me.colour_space ≡ S.Xyb → Equivalent me other
  alike : me.colour_space ≡ other.colour_space
      → me.rendering_intent ≡ other.rendering_intent
      → me.white_point ≡ other.white_point
      → me.tf ≡ other.tf
      → (me.colour_space ≡ S.Grey) ⊎ (me.primaries ≡ other.primaries)
      → Equivalent me other
