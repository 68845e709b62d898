-- The settings of fourteen floats and two flags: "nine floats of the inverse opsin matrix by rows, three biases, intensity_target, min_nits; a flag is
-- on where it is not 0". Definitions only.
use Rattle.std.specs.Prelude.{ℕ, ◌+◌, not, List, eqb, Float, get_or}
use Rattle.std.specs.Float.{nan}
use Rattle.ciexyz.specs.Matrix.{by_rows}
use Rattle.ciexyz.specs.declared.Vec3.{Vec3}
use Rattle.encoding.specs.declared.Settings.{Settings}

abbrev pub float_at : List Float → ℕ → Float
float_at xs i = get_or xs i nan

abbrev pub vec3_at : List Float → ℕ → Vec3
vec3_at xs i = record { v0 = float_at xs i; v1 = float_at xs (i + 1); v2 = float_at xs (i + 2) }

abbrev pub settings_of : List Float → ℕ → ℕ → Settings
settings_of xs detect pq = record {
  inv_mat = by_rows (vec3_at xs 0) (vec3_at xs 3) (vec3_at xs 6);
  opsin_bias = vec3_at xs 9;
  intensity_target = float_at xs 12;
  min_nits = float_at xs 13;
  detect_peak = not (eqb detect 0);
  from_pq = not (eqb pq 0);
}
