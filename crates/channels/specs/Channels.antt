-- "A run is always lent three channels" (01, Widths); "`&mut [&mut [f32]]` becomes three lent slices", "`zip` over channels becomes an
-- index over equal lengths" (01, What must change shape). Definitions only.
use Rattle.std.specs.Prelude.{ℕ, ◌≡◌, Bool, ◌&&◌, List, [], ◌∷◌, map, eqb, length, Float}
use Rattle.notation.specs.Choice.{when◌then◌else◌}
use Rattle.ciexyz.specs.declared.Vec3.{Vec3}

-- the three channels, by 01's names
pub record Channels : Type 0 where
  pub a : List Float
  pub b : List Float
  pub c : List Float

abbrev pub channels : List Float → List Float → List Float → Channels
channels a b c = record { a = a; b = b; c = c }

-- whether the three are equally long: the test, and in words
abbrev pub same_lengths : ℕ → ℕ → ℕ → Bool
same_lengths a b c = eqb a b && eqb a c

abbrev pub equally_long : Channels → Bool
equally_long s = same_lengths (length s.a) (length s.b) (length s.c)

abbrev pub EquallyLong : Channels → Type 0
EquallyLong s = (length s.b ≡ length s.a) × (length s.c ≡ length s.a)

-- what f makes of equally long channels; of others "no buffer changed" (01, Refusal numbers, 4)
abbrev pub where_equal : (Channels → Channels) → Channels → Channels
where_equal f s = when equally_long s then f s else s

-- what `row` makes of the elements at each place, as far as all three lists go
abbrev pub zip3 : {A R : Type 0} → (A → A → A → R) → List A → List A → List A → List R
zip3 row [] ys zs = []
zip3 row (x ∷ xs) [] zs = []
zip3 row (x ∷ xs) (y ∷ ys) [] = []
zip3 row (x ∷ xs) (y ∷ ys) (z ∷ zs) = row x y z ∷ zip3 row xs ys zs

-- the samples at each place
abbrev pub vec : Float → Float → Float → Vec3
vec x y z = record { v0 = x; v1 = y; v2 = z }

abbrev pub triples : List Float → List Float → List Float → List Vec3
triples = zip3 vec

abbrev pub v0_of : Vec3 → Float
v0_of v = v.v0

abbrev pub v1_of : Vec3 → Float
v1_of v = v.v1

abbrev pub v2_of : Vec3 → Float
v2_of v = v.v2

-- each triple of samples by f
abbrev pub each : (Vec3 → Vec3) → Channels → Channels
each f s =
    let ts = map f (triples s.a s.b s.c) in
    channels (map v0_of ts) (map v1_of ts) (map v2_of ts)
