-- Sequences of calls, each on the state that the one before left: what they answer, and what the strips leave. Definitions and relations only.
use Rattle.std.specs.Prelude.{ℕ, List, [], ◌∷◌}
use Rattle.notation.specs.Choice.{when◌then◌else◌}
use Rattle.notation.specs.declared.Answer.{Answer}
use Rattle.channels.specs.Channels.{Channels, EquallyLong, equally_long}
use Rattle.list.specs.Lists.{ops_of, Lawful}
use Rattle.list.specs.Fits.{Fits}
use Rattle.list.specs.declared.Plan.{Plan}
use Rattle.run_check.specs.Carried.{AllCarried}
use Rattle.run_check.specs.Judging as Judging
use Rattle.run_strips.specs.Machine.{paper, open_of, strip_of, left_of, close_of}
use Rattle.run_strips.specs.declared.State.{State}

pub data Call : Type 0 where
  opens : Plan → Call
  gives : Channels → Call
  closes : Call

abbrev pub after : State → Call → State
after z (opens p) = (open_of z p).state
after z (gives s) = (strip_of z s).state
after z closes = (close_of z).state

abbrev pub told : State → Call → Answer
told z (opens p) = Judging.paper (open_of z p).answer
told z (gives s) = paper (strip_of z s).answer
told z closes = paper (close_of z).answer

abbrev pub after_all : State → List Call → State
after_all z [] = z
after_all z (k ∷ ks) = after_all (after z k) ks

abbrev pub told_all : State → List Call → List Answer
told_all z [] = []
told_all z (k ∷ ks) = told z k ∷ told_all (after z k) ks

-- strips as they are left, one after the other
abbrev pub left_all : State → List Channels → List Channels
left_all z [] = []
left_all z (s ∷ ss) = left_of z s ∷ left_all (after z (gives s)) ss

-- "the accepted strips": those whose lengths are equal; as they are given, and as they are left
abbrev pub accepted : List Channels → List Channels
accepted [] = []
accepted (s ∷ ss) = when equally_long s then s ∷ accepted ss else accepted ss

abbrev pub accepted_left : State → List Channels → List Channels
accepted_left z [] = []
accepted_left z (s ∷ ss) = when equally_long s then left_of z s ∷ accepted_left (after z (gives s)) ss else accepted_left (after z (gives s)) ss

-- ---- in words

-- a run is open that ends at width w
abbrev pub OpenAt : State → ℕ → Type 0
OpenAt z w = Lawful z.plan × Fits z.plan.start (ops_of z.plan) w × AllCarried (ops_of z.plan)

pub data AllEquallyLong : List Channels → Type 0 where
  none : AllEquallyLong []
  more : {s : Channels} {ss : List Channels} → EquallyLong s → AllEquallyLong ss → AllEquallyLong (s ∷ ss)

-- calls of which none is an opening
pub data NoOpening : List Call → Type 0 where
  none : NoOpening []
  strip : {s : Channels} {ks : List Call} → NoOpening ks → NoOpening (gives s ∷ ks)
  close : {ks : List Call} → NoOpening ks → NoOpening (closes ∷ ks)

-- this answer, and no other
pub data AllAre (a : Answer) : List Answer → Type 0 where
  none : AllAre a []
  more : {rest : List Answer} → AllAre a rest → AllAre a (a ∷ rest)
