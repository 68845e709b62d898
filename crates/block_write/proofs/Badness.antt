-- The test for bad fields holds of a list exactly where one of its ops has a bad one, and that for the retired curve where one has it.
-- By the two kinds of bad values; of several, from the first on.
use mathlib.Core.Path.{◌≡◌, ◌∙◌}
use mathlib.Core.Bool.{true, false≢true}
use mathlib.Core.Logic.{◌↔◌}
use borrow.Author.Tests.{lt-ltb, ltb-true}
use lib.Ieee.{is_nan}
use Rattle.notation.proofs.Several.{any_exactly}
use Rattle.binary32.proofs.Nan.{is_nan_lem, nan_test}
use Rattle.op.proofs.Retired.{retired-exactly}
use Rattle.op_fields.specs.Curves.{gamma_of}
use Rattle.op_fields.specs.Parts.{values_of}
use Rattle.op_fields.specs.declared.Value.{Value}
use Rattle.op_fields.specs.declared.Value.TheVariants.{Float as the_float, Flag as the_flag, Curve as the_curve}
use Rattle.list.specs.Lists.{ops_of}
use Rattle.list.specs.declared.Plan.{Plan}
use Rattle.block_write.specs.Writing.{bad_value, bad_list, retired_list}
use Rattle.block_write.specs.Refusals.{Bad, not_a_number, g_out_of_range, BadList, RetiredList}

value_exactly : (v : Value) → (bad_value v ≡ true) ↔ Bad v
unfolding is_nan
value_exactly v = (read v, write)
  where
    read : (v : Value) → bad_value v ≡ true → Bad v
    read (the_float x) e = not_a_number (is_nan_lem x (nan_test x ∙ e))
    read (the_flag on) e = absurd (false≢true e)
    read (the_curve c) e = g_out_of_range (ltb-true 16_777_215 (gamma_of c) e)

    write : {v : Value} → Bad v → bad_value v ≡ true
    write (not_a_number e) = rw e
    write (g_out_of_range h) = lt-ltb _ _ h

pub bad_exactly : (p : Plan) → (bad_list p ≡ true) ↔ BadList p
bad_exactly p = any_exactly (λ o. any_exactly value_exactly (values_of o)) (ops_of p)

pub has_retired : (p : Plan) → (retired_list p ≡ true) ↔ RetiredList p
has_retired p = any_exactly retired-exactly (ops_of p)
