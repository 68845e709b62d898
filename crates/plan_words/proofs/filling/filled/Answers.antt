-- `filled` is what a text gives, byte after byte.
-- What is left to read, from where the loop is, gives what the whole does.
use Rattle.std.proofs.Common.{◌≡◌, ℕ, ◌+◌, ◌<◌, List, length, get_or, drop, sym, ap, ◌∙◌, arith, eq-eqb, ne_eqb, le-leb}
use borrow.Author.Tests.{lt-leb}
use Rattle.notation.proofs.Elements.{next}
use Rattle.plan_words.specs.Filling.{filled_from, filling_by, slice, word_by}
use Rattle.plan_words.specs.declared.filling.Filling.{Filling}
use Rattle.plan_words.proofs.Slices.{none, one_more}
use Rattle.plan_words.proofs.filling.filled.Goals as goal
use Rattle.plan_words.proofs.filling.filled.Goals.{then-c-le32+then-c-eq10, then-c-le32+else-c-eq10, else-c-le32}

-- the next byte, and those behind it
onward : (s : List ℕ) (m : Filling) (w : List ℕ) (i : ℕ) → i < length s
    → filled_from m i w (drop i s) ≡ filled_from (filling_by m i w (get_or s i 0)) (i + 1) (word_by w (get_or s i 0)) (drop (i + 1) s)
onward s m w i h = ap (filled_from m i w) (next s i 0 h)

pub loop-i-preserved : goal.loop-i-preserved
loop-i-preserved c =
    let t = c.loop-i in
    let s = c.args.s.now in
    let o = sym (onward s t.m (slice t.start t.i s) t.i c.loop-i-test.true) ∙ t.invariant.0 in
    elim c.if-c-le32.branch [
      | then-c-le32+then-c-eq10 w ↦
          let e = rw (le-leb _ _ w.if-c-le32.true, eq-eqb _ _ w.if-c-eq10.true) at o in
          (rw (w.m-is, w.start-is, w.line_ended-m.ensures, w.up_to-m.ensures, none (t.i + 1) (t.i + 1) s (omega arith)) e, omega arith)
      | then-c-le32+else-c-eq10 w ↦
          let e = rw (le-leb _ _ w.if-c-le32.true, ne_eqb _ _ w.if-c-eq10.false) at o in
          (rw (w.m-is, w.start-is, w.up_to-m.ensures, none (t.i + 1) (t.i + 1) s (omega arith)) e, omega arith)
      | else-c-le32 w ↦
          let e = rw (lt-leb _ _ w.if-c-le32.false) at o in
          (rw (w.m-is, w.start-is, one_more t.start t.i s t.invariant.1 c.loop-i-test.true) e, omega arith)
    ]
