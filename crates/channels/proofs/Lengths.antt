-- The test of three lengths holds exactly where they are equal; and `each f` leaves equal lengths.
-- By the test's two comparisons; by the length of a mapped list.
use Prim.Native.Nat.{ℕ}
use mathlib.Core.Path.{sym, ◌∙◌, ◌≡◌}
use mathlib.Core.Bool.{true}
use mathlib.Core.Logic.{◌↔◌}
use mathlib.Core.List.{map}
use borrow.Author.Tests.{eq-eqb, eqb-true}
use lib.Dec.{eqb}
use lib.ListN.{length, length-map}
use Rattle.notation.proofs.Tests.{both-exactly}
use Rattle.ciexyz.specs.declared.Vec3.{Vec3}
use Rattle.channels.specs.Channels.{Channels, EquallyLong, each, equally_long, same_lengths, triples, v0_of, v1_of, v2_of}

pub lengths_exactly : (l m n : ℕ) → (same_lengths l m n ≡ true) ↔ ((m ≡ l) × (n ≡ l))
lengths_exactly l m n = both-exactly (same m) (same n)
  where
    same : (k : ℕ) → (eqb l k ≡ true) ↔ (k ≡ l)
    same k = (λ e. sym (eqb-true l k e), λ e. eq-eqb l k (sym e))

pub equal_exactly : (s : Channels) → (equally_long s ≡ true) ↔ EquallyLong s
equal_exactly s = lengths_exactly (length s.a) (length s.b) (length s.c)

-- each triple gives one sample to each channel
pub each-even : (f : Vec3 → Vec3) (s : Channels) → EquallyLong (each f s)
each-even f s = let ts = map f (triples s.a s.b s.c) in (length-map ts v1_of ∙ sym (length-map ts v0_of), length-map ts v2_of ∙ sym (length-map ts v0_of))
