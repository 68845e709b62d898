-- "Merging the second beforehand may differ, since float products regroup" (02, W12): two lists for which it does, in one float.
-- Each is computed.
use mathlib.Core.Path.{◌≡◌, refl}
use mathlib.Core.Bool.{false}
use mathlib.Core.List.{[], ◌∷◌}
use lib.Ieee.{add, mul, of_bits}
use Rattle.notation.specs.F32.{bits}
use Rattle.ciexyz.specs.Matrix.{product}
use Rattle.list.specs.Lists.{is_true, ops_of}
use Rattle.list_same.specs.Same.{same_list}
use Rattle.list_merge.specs.Merge.{merge_of}
use Rattle.list_join.specs.Join.{join_of}
use Rattle.theorem_joined.specs.Pair.{first, second, scaled}

-- 0.7 (0.3 0.1): what the join of both merges to
pub as_they_are : ops_of (merge_of (join_of first second).plan).plan ≡ scaled (bits 0x3cac_0831) ∷ []
unfolding is_true product of_bits mul add
as_they_are = refl

-- (0.7 0.3) 0.1: what the join of the first and of the merged second merges to
pub second-before : ops_of (merge_of (join_of first (merge_of second).plan).plan).plan ≡ scaled (bits 0x3cac_0832) ∷ []
unfolding is_true product of_bits mul add
second-before = refl

pub they_differ : same_list (merge_of (join_of first (merge_of second).plan).plan).plan (merge_of (join_of first second).plan).plan ≡ false
unfolding is_true product of_bits mul add
they_differ = refl
