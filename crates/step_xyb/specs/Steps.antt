-- What the private steps of XYB's loop promise each other. Nothing that the crate promises outside rests on believing this page.
use Rattle.std.specs.Prelude.{true, ℕ, ◌*◌, ◌^◌, ◌<◌, ◌≤◌, List, T, length, get_or, Float}
use Rattle.std.specs.Float.{binary32, nan}
use Rattle.std.specs.Float.Ieee.{fits, le}
use Rattle.std.specs.Float.Ieee.Exact.{HasValue}
use Rattle.notation.specs.F32.{◌+f◌, ◌-f◌, ◌*f◌, bits}
use Rattle.fused.specs.Fused.{fused}
use Rattle.channels.specs.Channels.{vec}
use Rattle.ciexyz.specs.declared.Vec3.{Vec3}

-- `mixed` in two steps: l, m and s, each less the root of its bias,
unfoldable pub shifted : Vec3 → Vec3 → Vec3
shifted roots xyb =
    vec
    (xyb.v1 +f xyb.v0 -f roots.v0)
    (xyb.v1 -f xyb.v0 -f roots.v1)
    (xyb.v2 -f roots.v2)

abbrev pub squared : Float → Float
squared g = g *f g

-- and from there on
unfoldable pub cubed : Float → Float → Float → Float
cubed bias scale g = fused (squared g) g bias *f scale

-- a g of the window: from 1/8 to 4
abbrev pub least : Float
least = bits 0x3e00_0000

abbrev pub most : Float
most = bits 0x4080_0000

pub record Within (g : Float) : Type 0 where
  pub single : T (fits binary32 g)
  pub from : T (le least g)
  pub to : T (le g most)

abbrev pub AllWithin : List Float → Type 0
AllWithin g = (k : ℕ) → k < length g → Within (get_or g k nan)

-- a bias of the window: negative, of a size from 2 ^ -15 to 2 ^ -8, by its digits and their place
pub record Bias (c : Float) : Type 0 where
  pub O : ℕ
  pub k : ℕ
  pub value : HasValue c true (O * 2 ^ k) (2 ^ 149)
  pub some : 0 < O
  pub few : O ≤ 0x100_0000
  pub from : 111 ≤ k
  pub to : k ≤ 117

abbrev pub Biases : Vec3 → Type 0
Biases bias = Bias bias.v0 × Bias bias.v1 × Bias bias.v2
