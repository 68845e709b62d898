-- Bytes that are put one behind the other are put as one.
-- What the first put leaves before and behind its end is known, and the second begins there.
use Prim.Native.Nat.{ℕ, ◌+◌, ◌≤◌, ◌<◌}
use mathlib.Core.Path.{◌≡◌, refl, sym, ap, ◌∙◌}
use mathlib.Core.List.{List, [], ◌++◌, append_assoc, append-nil}
use native.Mathlib.Omega.{arith}
use lib.ListN.{length, take, drop, length-append, length-drop, take-append-drop}
use lib.Seq.{length-take-le, take_at, drop_at, drop-drop}
use borrow.Author.Tests.{lt-leb}
use Rattle.buffer.specs.Buffer.{placed, behind, Room, Put}

head : (old : List ℕ) (at : ℕ) (s : List ℕ) → Room old at s → length (take at old ++ s) ≡ at + length s
head old at s room =
    let e = room.enough in
    omega (arith, length-append (take at old) s, length-take-le at old (omega arith))

pub kept : {old : List ℕ} {at : ℕ} {s new : List ℕ} {r : ℕ} → Room old at s → Put old at s new r → length new ≡ length old
kept {old} {at} {s} room p =
    let e = room.enough in
    ap length p.contents
    ∙ omega (arith, length-append (take at old ++ s) (drop (at + length s) old), head old at s room, length-drop (at + length s) old)

-- without room `put` answers the place, and leaves the buffer
pub no_room : (old : List ℕ) (at : ℕ) (s : List ℕ) → length old < at + length s → (at ≡ behind old at s) × (old ≡ placed old at s)
no_room old at s h = let b = lt-leb (at + length s) (length old) h in (rw b, rw b)

-- nothing
pub none : {old : List ℕ} {at : ℕ} → at ≤ length old → Put old at [] old at
none {old} {at} h = record { next = omega arith; contents = sym (rw (append-nil (take at old), at-end) (take-append-drop at old)) }
  where
    at-end : at + 0 ≡ at
    at-end = omega arith

module _ {old : List ℕ} {at : ℕ} (s t : List ℕ) (room : Room old at (s ++ t)) where
  pub first : Room old at s
  first = record { enough = omega (arith, length-append s t, room.enough) }

  module _ {mid : List ℕ} {m : ℕ} (p : Put old at s mid m) where
    pub rest : Room mid m t
    rest = record { enough = omega (arith, length-append s t, kept first p, p.next, room.enough) }

    pub both : {new : List ℕ} {r : ℕ} → Put mid m t new r → Put old at (s ++ t) new r
    both {new} {r} q = record { next = omega (arith, length-append s t, p.next, q.next); contents = q.contents ∙ joined }
      where
        before : take m mid ≡ take at old ++ s
        before = rw (p.contents, p.next) (take_at (take at old ++ s) (drop (at + length s) old) (at + length s) (head old at s first))

        behind : drop m mid ≡ drop (at + length s) old
        behind = rw (p.contents, p.next) (drop_at (take at old ++ s) (drop (at + length s) old) (at + length s) (head old at s first))

        place : at + length s + length t ≡ at + length (s ++ t)
        place = omega (arith, length-append s t)

        joined : take m mid ++ t ++ drop (m + length t) mid ≡ take at old ++ (s ++ t) ++ drop (at + length (s ++ t)) old
        joined = rw (before, sym (drop-drop (length t) m mid), behind, drop-drop (length t) (at + length s) old, place, append_assoc (take at old) s t)

-- on the way: what is left to put, t, is put from here as s is from the beginning
pub record Goes (old : List ℕ) (at : ℕ) (s mid : List ℕ) (m : ℕ) (t : List ℕ) : Type 0 where
  pub same : length mid ≡ length old
  pub room : Room mid m t
  pub finish : {new : List ℕ} {r : ℕ} → Put mid m t new r → Put old at s new r

pub begun : {old : List ℕ} {at : ℕ} {s : List ℕ} → Room old at s → Goes old at s old at s
begun room = record { same = refl; room = room; finish = λ p. p }

module _ {old : List ℕ} {at : ℕ} {s mid : List ℕ} {m : ℕ} (t u : List ℕ) (g : Goes old at s mid m (t ++ u)) where
  pub next : Room mid m t
  next = first t u g.room

  pub further : {new : List ℕ} {r : ℕ} → Put mid m t new r → Goes old at s new r u
  further p = record { same = kept next p ∙ g.same; room = rest t u g.room p; finish = λ q. g.finish (both t u g.room p q) }

pub ended : {old : List ℕ} {at : ℕ} {s mid : List ℕ} {m : ℕ} → Goes old at s mid m [] → Put old at s mid m
ended g = let h = g.room.enough in g.finish (none (omega arith))
