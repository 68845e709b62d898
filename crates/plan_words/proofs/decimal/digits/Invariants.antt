-- `digits` reads the digits of a number.
-- What is left to read, from where the loop is, gives what the whole does.
use Rattle.std.proofs.Common.{◌≡◌, ◌≤◌, drop}
use Rattle.plan_words.specs.Decimal.{digits, digits_from}
use Rattle.plan_words.proofs.decimal.digits.Given as goal

abbrev pub invariant-loop-c : goal.invariant-loop-c
invariant-loop-c l = (digits_from l.n (drop l.c-index l.s) ≡ digits l.s) × (l.n ≤ 999_999_999)
