-- Each answer is given exactly when W3, W8 and W10 say, in the order 10, 8, 9, 15, 12; and what the buffer holds then.
-- One answer is given, the first in the order whose cause holds (Sorting); what is left goes by the answer.
use Rattle.std.specs.Prelude.{Ok, Err}
use Prim.Native.Nat.{ℕ, ◌≤◌, ◌<◌}
use mathlib.Core.Path.{◌≡◌, refl, ap, subst, ◌∙◌}
use mathlib.Core.Logic.{◌↔◌}
use mathlib.Core.List.{List, [], ◌∷◌}
use native.Mathlib.Omega.{arith}
use lib.ListN.{length, take, drop}
use lib.Seq.{take_at, drop_at}
use Rattle.notation.specs.Answers.{answer}
use Rattle.notation.specs.Order.{FirstOf, none, this, later}
use Rattle.notation.proofs.Order.{one-given, caused, passed}
use Rattle.list.specs.Lists.{Lawful, Unlawful}
use Rattle.list.specs.declared.Plan.{Plan}
use Rattle.list.proofs.Formed.{never_both}
use Rattle.block_read.specs.Refusals.{Known}
use Rattle.block_write.specs.Bytes.{block_of}
use Rattle.block_write.specs.Writing.{paper, length_of, writing_of, left_by, left_of}
use Rattle.block_write.specs.Refusals.{BadList, RetiredList, Cause, Given}
use Rattle.block_write.specs.Writing.{Writing}
use Rattle.block_write.specs.declared.WriteError.TheVariants.{Malformed, WrongVersion, BadField, Retired, NoRoom}
use Rattle.block_write.proofs.Lengths.{at_most}
use Rattle.block_write.proofs.Sorting.{otherwise_lawful, otherwise_known, past-eight, exactly, given, done-is, is_whole, other}

module _ (p : Plan) (v room : ℕ) where
  abbrev whole : Writing
  whole = Ok (length (block_of v p))

  -- the answer, with its length, is the one that the words give, and no other
  pub given-exactly : (writing : Writing) → (writing_of p v room ≡ writing) ↔ Given p v room writing
  given-exactly writing = (λ e. subst (Given p v room) e (given p v room), one-given (given p v room))

  -- an answer behind the tests for 10 and 8
  passes : {writing : Writing} → Given p v room writing → ¬ ((Err Malformed) ≡ writing) → ¬ ((Err WrongVersion) ≡ writing)
      → Lawful p × Known v × FirstOf (Cause p v room) whole ((Err BadField) ∷ (Err Retired) ∷ (Err NoRoom) ∷ []) writing
  passes g n m =
      let h = passed g n in
      let k = passed h.1 m in
      (otherwise_lawful p h.0, otherwise_known v k.0, k.1)

  -- 10 exactly when the start width is not 1 or 3, the count is above 32, or the end width is false
  pub ten-exactly : (paper (writing_of p v room) ≡ answer 10 0 0) ↔ Unlawful p
  ten-exactly = (λ e. caused ((exactly p v room (Err Malformed) refl).0 e) (other whole (Err Malformed) (omega arith)), λ u. (exactly p v room (Err Malformed) refl).1 (this u))

  -- 8 exactly when the list is lawful, and the version is not 1 or 2
  pub eight-exactly : (paper (writing_of p v room) ≡ answer 8 0 0) ↔ (Lawful p × (¬ Known v))
  eight-exactly = (
    λ e. let g = (exactly p v room (Err WrongVersion) refl).0 e in
        (otherwise_lawful p (passed g (other (Err Malformed) (Err WrongVersion) (omega arith))).0, caused g (other whole (Err WrongVersion) (omega arith))),
    λ h. (exactly p v room (Err WrongVersion) refl).1 (later (never_both p h.0) (this h.1)),
  )

  -- 9 exactly when the list is lawful, the version is 1 or 2, and an op of the list has a bad field
  pub nine-exactly : (paper (writing_of p v room) ≡ answer 9 0 0) ↔ (Lawful p × Known v × BadList p)
  nine-exactly = (
    λ e. let g = (exactly p v room (Err BadField) refl).0 e in
        let h = passes g (other (Err Malformed) (Err BadField) (omega arith)) (other (Err WrongVersion) (Err BadField) (omega arith)) in
        (h.0, h.1, caused g (other whole (Err BadField) (omega arith))),
    λ h. (exactly p v room (Err BadField) refl).1 (past-eight p v room h.0 h.1 (this h.2)),
  )

  -- 15 exactly when the list is lawful, the version is 1 or 2, none of the fields is bad, and an op of the list has the Unknown curve
  pub fifteen-exactly : (paper (writing_of p v room) ≡ answer 15 0 0) ↔ (Lawful p × Known v × (¬ BadList p) × RetiredList p)
  fifteen-exactly = (
    λ e. let g = (exactly p v room (Err Retired) refl).0 e in
        let h = passes g (other (Err Malformed) (Err Retired) (omega arith)) (other (Err WrongVersion) (Err Retired) (omega arith)) in
        (h.0, h.1, (passed h.2 (other (Err BadField) (Err Retired) (omega arith))).0, caused g (other whole (Err Retired) (omega arith))),
    λ h. (exactly p v room (Err Retired) refl).1 (past-eight p v room h.0 h.1 (later h.2 (this h.3))),
  )

  -- 12 exactly when the list is lawful, the version is 1 or 2, none of the fields is bad, no curve is retired, and the buffer is shorter than the block
  pub twelve-exactly : (paper (writing_of p v room) ≡ answer 12 0 0) ↔ (Lawful p × Known v × (¬ BadList p) × (¬ RetiredList p) × (room < length (block_of v p)))
  twelve-exactly = (
    λ e. let g = (exactly p v room (Err NoRoom) refl).0 e in
        let h = passes g (other (Err Malformed) (Err NoRoom) (omega arith)) (other (Err WrongVersion) (Err NoRoom) (omega arith)) in
        let k = passed h.2 (other (Err BadField) (Err NoRoom) (omega arith)) in
        (h.0, h.1, k.0, (passed k.1 (other (Err Retired) (Err NoRoom) (omega arith))).0, caused g (other whole (Err NoRoom) (omega arith))),
    λ h. (exactly p v room (Err NoRoom) refl).1 (past-eight p v room h.0 h.1 (later h.2 (later h.3 (this h.4)))),
  )

  -- 0 otherwise
  pub zero-exactly : (paper (writing_of p v room) ≡ answer 0 0 0) ↔ (Lawful p × Known v × (¬ BadList p) × (¬ RetiredList p) × (length (block_of v p) ≤ room))
  zero-exactly = (
    λ e. let h = passes ((exactly p v room whole refl).0 e) (other (Err Malformed) whole (omega arith)) (other (Err WrongVersion) whole (omega arith)) in
        let k = passed h.2 (other (Err BadField) whole (omega arith)) in
        let m = passed k.1 (other (Err Retired) whole (omega arith)) in
        let n = (passed m.1 (other (Err NoRoom) whole (omega arith))).0 in
        (h.0, h.1, k.0, m.0, enough n),
    λ h. let l = h.4 in (exactly p v room whole refl).1 (past-eight p v room h.0 h.1 (later h.2 (later h.3 (later (short l) none)))),
  )
    where
      enough : ¬ (room < length (block_of v p)) → length (block_of v p) ≤ room
      enough n = omega arith

      short : length (block_of v p) ≤ room → ¬ (room < length (block_of v p))
      short h k = omega arith

  -- a buffer of 1,192 bytes is never too short
  pub never-twelve : 1192 ≤ room → ¬ (paper (writing_of p v room) ≡ answer 12 0 0)
  never-twelve h e =
      let t = twelve-exactly.0 e in
      let k = t.4 in
      omega (arith, at_most p v t.0)

module _ (p : Plan) (v : ℕ) (old : List ℕ) where
  -- the length used, and the bytes so far: the block, "mark first"
  pub writes-the-block : paper (writing_of p v (length old)) ≡ answer 0 0 0
      → (length_of (writing_of p v (length old)) ≡ length (block_of v p)) × (take (length (block_of v p)) (left_of p v old) ≡ block_of v p)
  writes-the-block e =
      let d = is_whole p v (length old) e in
      (ap length_of d, ap (λ (w : Writing). take (length (block_of v p)) (left_by w (block_of v p) old)) d ∙ take_at (block_of v p) (drop (length (block_of v p)) old) (length (block_of v p)) refl)

  -- "Bytes past that length stay as they were."
  pub past-stays : drop (length_of (writing_of p v (length old))) (left_of p v old) ≡ drop (length_of (writing_of p v (length old))) old
  past-stays = by (writing_of p v (length old)) (given p v (length old))
    where
      by : (w : Writing) → Given p v (length old) w → drop (length_of w) (left_by w (block_of v p) old) ≡ drop (length_of w) old
      by (Ok n) g = drop_at (block_of v p) (drop n old) n (done-is p v (length old) g)
      by (Err e) g = refl

  -- a refusal "gives length 0 and leaves the buffer untouched"
  pub refused-untouched : ¬ (paper (writing_of p v (length old)) ≡ answer 0 0 0) → (length_of (writing_of p v (length old)) ≡ 0) × (left_of p v old ≡ old)
  refused-untouched n = by (writing_of p v (length old)) n
    where
      by : (w : Writing) → ¬ (paper w ≡ answer 0 0 0) → (length_of w ≡ 0) × (left_by w (block_of v p) old ≡ old)
      by (Ok k) n = absurd (n refl)
      by (Err e) n = (refl, refl)
