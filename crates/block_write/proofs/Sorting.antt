-- Writing answers by the first cause in the order 10, 8, 9, 15, 12 that holds, and by no other; the paper's number tells which.
-- By the five tests, each of which holds exactly where its words do.
use Rattle.std.specs.Prelude.{Ok, Err}
use Prim.Native.Nat.{ℕ, ◌<◌}
use mathlib.Core.Path.{◌≡◌, refl, ap, sym, subst, ◌∙◌}
use mathlib.Core.Bool.{Bool, true, false}
use mathlib.Core.Logic.{◌↔◌}
use mathlib.Core.List.{[], ◌∷◌}
use native.Mathlib.Omega.{arith}
use borrow.Author.Tests.{ltb-true, ltb-false}
use lib.Dec.{eqb, ltb}
use lib.ListN.{length}
use Rattle.notation.specs.Choice.{when◌then◌else◌}
use Rattle.notation.specs.Answers.{answer}
use Rattle.notation.specs.Order.{FirstOf, none, this, later}
use Rattle.notation.specs.declared.Answer.{Answer}
use Rattle.notation.proofs.Order.{one-given}
use Rattle.notation.proofs.Tests.{fails_exactly}
use Rattle.list.specs.Lists.{lawful, Lawful, Unlawful}
use Rattle.list.specs.declared.Plan.{Plan}
use Rattle.list.proofs.Formed.{lawful-exactly, unlawful-exactly, never_both}
use Rattle.block_read.specs.Block.{known_version}
use Rattle.block_read.specs.Refusals.{Known}
use Rattle.block_read.proofs.Versions.{known_exactly}
use Rattle.block_write.specs.Bytes.{block_of}
use Rattle.block_write.specs.Writing.{paper, bad_list, retired_list, writing_of}
use Rattle.block_write.specs.Refusals.{Cause, Given}
use Rattle.block_write.specs.Writing.{Writing}
use Rattle.block_write.specs.declared.WriteError.TheVariants.{Malformed, WrongVersion, BadField, Retired, NoRoom}
use Rattle.block_write.proofs.Badness.{bad_exactly, has_retired}

pub other : (v w : Writing) → ¬ ((paper v).number ≡ (paper w).number) → ¬ (v ≡ w)
other v w n e = n (rw e)

-- of two statements of which a test tells, one holds where the other does not
otherwise : {a : Bool} {P N : Type 0} → ((a ≡ true) ↔ P) → ((a ≡ false) ↔ N) → ¬ N → P
otherwise {a} {P} {N} f g n = by a f g
  where
    by : (a : Bool) → ((a ≡ true) ↔ P) → ((a ≡ false) ↔ N) → P
    by true f g = f.0 refl
    by false f g = absurd (n (g.0 refl))

pub otherwise_lawful : (p : Plan) → ¬ Unlawful p → Lawful p
otherwise_lawful p = otherwise (lawful-exactly p) (unlawful-exactly p)

pub otherwise_known : (v : ℕ) → ¬ (¬ Known v) → Known v
otherwise_known v = otherwise (known_exactly v) (fails_exactly (known_exactly v))

module _ (p : Plan) (v : ℕ) where
  -- the answer of a number
  abbrev pub by_number : ℕ → Writing
  by_number n = when eqb n 10 then (Err Malformed) else when eqb n 8 then (Err WrongVersion) else when eqb n 9 then (Err BadField) else when eqb n 15 then (Err Retired) else when eqb n 12 then (Err NoRoom) else Ok (length (block_of v p))

  abbrev pub Named : Writing → Type 0
  Named writing = by_number (paper writing).number ≡ writing

  module _ (room : ℕ) where
    -- behind the tests for 10 and 8
    pub past-eight : {writing : Writing} → Lawful p → Known v → FirstOf (Cause p v room) (Ok (length (block_of v p))) ((Err BadField) ∷ (Err Retired) ∷ (Err NoRoom) ∷ []) writing → Given p v room writing
    past-eight l k rest = later (never_both p l) (later {a = (Err WrongVersion)} (λ n. n k) rest)

    told : Given p v room (writing_of p v room) × Named (writing_of p v room)
    unfolding writing_of
    told = by (lawful p) (known_version v) (bad_list p) (retired_list p) (ltb room (length (block_of v p))) refl refl refl refl refl
      where
        enough : ltb room (length (block_of v p)) ≡ false → ¬ (room < length (block_of v p))
        enough z h = let k = ltb-false room (length (block_of v p)) z in omega arith

        -- behind the test for 9
        past-nine : {writing : Writing} → lawful p ≡ true → known_version v ≡ true → bad_list p ≡ false
            → FirstOf (Cause p v room) (Ok (length (block_of v p))) ((Err Retired) ∷ (Err NoRoom) ∷ []) writing → Given p v room writing
        past-nine x q y rest = past-eight ((lawful-exactly p).0 x) ((known_exactly v).0 q) (later ((fails_exactly (bad_exactly p)).0 y) rest)

        by : (a k b r c : Bool) → lawful p ≡ a → known_version v ≡ k → bad_list p ≡ b → retired_list p ≡ r → ltb room (length (block_of v p)) ≡ c
            → Given p v room (writing_of p v room) × Named (writing_of p v room)
        by false k b r c x q y t z = rw x (this ((unlawful-exactly p).0 x), refl)
        by true false b r c x q y t z = rw (x, q) (later (never_both p ((lawful-exactly p).0 x)) (this ((fails_exactly (known_exactly v)).0 q)), refl)
        by true true true r c x q y t z = rw (x, q, y) (past-eight ((lawful-exactly p).0 x) ((known_exactly v).0 q) (this ((bad_exactly p).0 y)), refl)
        by true true false true c x q y t z = rw (x, q, y, t) (past-nine x q y (this ((has_retired p).0 t)), refl)
        by true true false false true x q y t z =
            rw (x, q, y, t, z) (past-nine x q y (later ((fails_exactly (has_retired p)).0 t) (this (ltb-true room (length (block_of v p)) z))), refl)
        by true true false false false x q y t z = rw (x, q, y, t, z) (past-nine x q y (later ((fails_exactly (has_retired p)).0 t) (later (enough z) none)), refl)

    pub exactly : (writing : Writing) → Named writing → (paper (writing_of p v room) ≡ paper writing) ↔ Given p v room writing
    exactly writing n = (
      λ e. subst (Given p v room) (sym told.1 ∙ ap (λ (a : Answer). by_number a.number) e ∙ n) told.0,
      λ g. ap paper (one-given told.0 g),
    )

    pub given : Given p v room (writing_of p v room)
    given = told.0

    -- what is written is as long as the block
    pub done-is : {n : ℕ} → Given p v room (Ok n) → length (block_of v p) ≡ n
    done-is (later u (later k (later b (later r (later s none))))) = refl

    pub is_whole : paper (writing_of p v room) ≡ answer 0 0 0 → writing_of p v room ≡ Ok (length (block_of v p))
    is_whole e = sym told.1 ∙ ap (λ (a : Answer). by_number a.number) e
