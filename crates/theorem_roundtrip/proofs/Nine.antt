-- "9 for a list the reader would refuse by 9" (W3): of lists whose end width is true the writer refuses by 9, in either version, exactly those of
-- which the reader refuses by 9 the bytes that the layout gives, whatever follows them; and so for 10. By what the reader makes of those bytes (Laid).
use Prim.Native.Nat.{ℕ}
use mathlib.Core.Path.{◌≡◌, refl, ap}
use mathlib.Core.Bool.{Bool, true, false}
use mathlib.Core.Logic.{◌↔◌, inl, ⊎_elim}
use mathlib.Core.List.{List, ◌++◌}
use native.Mathlib.Omega.{arith}
use Rattle.notation.specs.Answers.{answer}
use Rattle.list.specs.Lists.{well_formed, Unformed, True, Lawful}
use Rattle.list.specs.declared.Plan.{Plan}
use Rattle.list.proofs.Formed.{formed-exactly, unformed-exactly}
use Rattle.list.proofs.Judging.{apart}
use Rattle.block_read.specs.Block.{paper as reading_paper, read_of}
use Rattle.block_read.specs.Refusals.{Known}
use Rattle.block_read.specs.declared.Block.{Block}
use Rattle.block_write.specs.Bytes.{block_of}
use Rattle.block_write.specs.Writing.{paper, bad_list, writing_of}
use Rattle.block_write.proofs.Badness.{bad_exactly}
use Rattle.block_write.proofs.Exactly.{ten-exactly, nine-exactly}
use Rattle.theorem_roundtrip.specs.Typed.{Typed}
use Rattle.theorem_roundtrip.proofs.Laid.{is-malformed, is_read, is-bad}

module _ (v : ℕ) (k : Known v) (p : Plan) (y : Typed p) (true-end : True p) (room : ℕ) (t : List ℕ) where
  data Ways : Type 0 where
    malformed : Unformed p.start p.count → Ways
    bad : Lawful p → bad_list p ≡ true → Ways
    good : Lawful p → bad_list p ≡ false → Ways

  ways : Ways
  ways = by (well_formed p.start p.count) (bad_list p) refl refl
    where
      by : (a b : Bool) → well_formed p.start p.count ≡ a → bad_list p ≡ b → Ways
      by false b e f = malformed ((unformed-exactly p.start p.count).0 e)
      by true true e f = bad ((formed-exactly p.start p.count).0 e, true-end) f
      by true false e f = good ((formed-exactly p.start p.count).0 e, true-end) f

  read-good : Lawful p → bad_list p ≡ false → reading_paper (read_of (block_of v p ++ t)).answer ≡ answer 0 0 0
  read-good l f = ap (λ (b : Block). reading_paper b.answer) (is_read v k p t y l f)

  pub nine-as-reading : (paper (writing_of p v room) ≡ answer 9 0 0) ↔ (reading_paper (read_of (block_of v p ++ t)).answer ≡ answer 9 0 0)
  nine-as-reading = (λ e. let h = (nine-exactly p v room).0 e in is-bad v k p t y h.0 ((bad_exactly p).1 h.2), back ways)
    where
      back : Ways → reading_paper (read_of (block_of v p ++ t)).answer ≡ answer 9 0 0 → paper (writing_of p v room) ≡ answer 9 0 0
      back (malformed u) e = apart e (is-malformed v k p t u) (omega arith)
      back (bad l f) e = (nine-exactly p v room).1 (l, k, (bad_exactly p).0 f)
      back (good l f) e = apart e (read-good l f) (omega arith)

  pub ten-as-reading : (paper (writing_of p v room) ≡ answer 10 0 0) ↔ (reading_paper (read_of (block_of v p ++ t)).answer ≡ answer 10 0 0)
  ten-as-reading = (λ e. is-malformed v k p t (⊎_elim (λ u. u) (λ n. absurd (n true-end)) ((ten-exactly p v room).0 e)), back ways)
    where
      back : Ways → reading_paper (read_of (block_of v p ++ t)).answer ≡ answer 10 0 0 → paper (writing_of p v room) ≡ answer 10 0 0
      back (malformed u) e = (ten-exactly p v room).1 (inl u)
      back (bad l f) e = apart e (is-bad v k p t y l f) (omega arith)
      back (good l f) e = apart e (read-good l f) (omega arith)
