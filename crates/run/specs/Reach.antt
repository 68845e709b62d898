-- What demand 3 speaks of: channels that agree within a width. Relations only.
use Rattle.std.specs.Prelude.{ℕ, ◌≤◌, ◌≡◌}
use Rattle.channels.specs.Channels.{Channels}

-- the channels within the width w are the same in s and in t
pub record Agree (w : ℕ) (s t : Channels) : Type 0 where
  pub on_a : 1 ≤ w → s.a ≡ t.a
  pub on_b : 2 ≤ w → s.b ≡ t.b
  pub on_c : 3 ≤ w → s.c ≡ t.c
