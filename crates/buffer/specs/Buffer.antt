-- Bytes in a lent buffer: from a place on, and all else as it was. Definitions only.
use Rattle.std.specs.Prelude.{ℕ, ◌+◌, ◌≤◌, ◌≡◌, Bool, List, ◌++◌, leb, length, take, drop}
use Rattle.notation.specs.Choice.{when◌then◌else◌}

-- whether there is room for s from a place on
abbrev pub has_room : List ℕ → ℕ → List ℕ → Bool
has_room old at s = leb (at + length s) (length old)

-- the buffer with s from that place on, and the place behind it; where there is no room, nothing is put
abbrev pub placed : List ℕ → ℕ → List ℕ → List ℕ
placed old at s = when has_room old at s then take at old ++ s ++ drop (at + length s) old else old

abbrev pub behind : List ℕ → ℕ → List ℕ → ℕ
behind old at s = when has_room old at s then at + length s else at

-- ---- the same where there is room, as relations

pub record Room (old : List ℕ) (at : ℕ) (s : List ℕ) : Type 0 where
  pub enough : at + length s ≤ length old

-- s was put into a buffer from a place on, and r is the place behind it
pub record Put (old : List ℕ) (at : ℕ) (s new : List ℕ) (r : ℕ) : Type 0 where
  pub next : r ≡ at + length s
  pub contents : new ≡ take at old ++ s ++ drop (at + length s) old

-- the text stands at the front of the buffer, the rest of which is as it was, and r is how long it is
pub record Listed (text old new : List ℕ) (r : ℕ) : Type 0 where
  pub size : r ≡ length text
  pub contents : new ≡ text ++ drop (length text) old
