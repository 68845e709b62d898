-- "variants holding arrays hold a record of nine or three floats" (01, What must change shape): C hands the array, and this is the record. Definitions
-- only.
use Rattle.std.specs.Prelude.{List, get_or, Float}
use Rattle.std.specs.Float.{nan}
use Rattle.ciexyz.specs.Matrix.{by_rows}
use Rattle.ciexyz.specs.declared.Mat3.{Mat3}
use Rattle.ciexyz.specs.declared.Vec3.{Vec3}
use Rattle.channels.specs.Channels.{vec}

-- the three floats of an array, which has them all
abbrev pub vector_of : List Float → Vec3
vector_of v = vec (get_or v 0 nan) (get_or v 1 nan) (get_or v 2 nan)

-- the nine, "by rows" (01, Plan block)
abbrev pub matrix_of : List Float → Mat3
matrix_of m =
    by_rows
    (vec (get_or m 0 nan) (get_or m 1 nan) (get_or m 2 nan))
    (vec (get_or m 3 nan) (get_or m 4 nan) (get_or m 5 nan))
    (vec (get_or m 6 nan) (get_or m 7 nan) (get_or m 8 nan))
