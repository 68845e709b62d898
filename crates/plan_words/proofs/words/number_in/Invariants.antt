-- `number_in` finds a word's number in a table.
-- What is left of the table, from where the loop is, gives what the whole does.
use Rattle.std.proofs.Common.{◌≡◌, ◌+◌, ◌≤◌, [], drop}
use Rattle.plan_words.specs.Words.{place_in, words_from}
use Rattle.plan_words.specs.Filling.{slice}
use Rattle.plan_words.proofs.words.number_in.Given as goal

abbrev pub invariant-loop-i : goal.invariant-loop-i
invariant-loop-i l = (l.number + place_in (words_from (slice l.start l.i l.table) (drop l.i l.table)) l.w ≡ place_in (words_from [] l.table) l.w) × (l.start ≤ l.i) × (l.number ≤ l.i)
