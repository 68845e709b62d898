-- `number_in` finds a word's number in a table.
-- What is left of the table, from where the loop is, gives what the whole does.
use Rattle.std.proofs.Common.{◌≡◌, ◌+◌, false, arith, rules, eq-eqb, ne_eqb}
use Rattle.notation.proofs.Elements.{next}
use Rattle.plan_words.specs.Filling.{slice}
use Rattle.plan_words.specs.Words.{same_word}
use Rattle.plan_words.proofs.Slices.{none, one_more}
use Rattle.plan_words.proofs.words.number_in.Goals as goal
use Rattle.plan_words.proofs.words.number_in.Goals.{then-c-eq32+else-eq, else-c-eq32}

pub loop-i-preserved : goal.loop-i-preserved
loop-i-preserved c =
    let t = c.loop-i in
    let s = c.args.table.now in
    elim c.if-c-eq32.branch [
      | then-c-eq32+else-eq w ↦
          let f : same_word c.args.w.now (slice t.start t.i s) ≡ false = search rules in
          let e = rw (next s t.i 0 c.loop-i-test.true, eq-eqb _ _ w.if-c-eq32.true, f) at t.invariant.0 in
          (rw (w.number-is, w.start-is, none (t.i + 1) (t.i + 1) s (omega arith)) (omega (arith, e)), omega arith, omega arith)
      | else-c-eq32 w ↦
          let e = rw (next s t.i 0 c.loop-i-test.true, ne_eqb _ _ w.if-c-eq32.false) at t.invariant.0 in
          (rw (w.number-is, w.start-is, one_more t.start t.i s t.invariant.1 c.loop-i-test.true) e, omega arith, omega arith)
    ]
