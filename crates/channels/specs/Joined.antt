-- Channels one after the other: "the accepted strips joined" (02, W1). Definitions only.
use Rattle.std.specs.Prelude.{List, [], ◌∷◌, ◌++◌}
use Rattle.channels.specs.Channels.{Channels, channels}

abbrev pub join : Channels → Channels → Channels
join s t = channels (s.a ++ t.a) (s.b ++ t.b) (s.c ++ t.c)

abbrev pub join_all : List Channels → Channels
join_all [] = channels [] [] []
join_all (s ∷ ss) = join s (join_all ss)
