-- The byte behind the count is the width that the check tells: "a list that fails the check is written with end width 0" (W8).
-- It is the end width that the list holds, and a list that 10 does not refuse holds the true one.
use Rattle.std.specs.Prelude.{Err}
use Prim.Native.Nat.{ℕ}
use mathlib.Core.Path.{◌≡◌, ap, sym, ◌∙◌}
use Rattle.list.specs.Answer.{paper}
use Rattle.list.specs.Check.{check_of}
use Rattle.list.specs.Lists.{Lawful}
use Rattle.list.specs.declared.Plan.{Plan}
use Rattle.list.specs.Check.{Verdict}
use Rattle.list.specs.declared.CheckError.TheVariants.{Misfit}
use Rattle.list.proofs.Bounds.{misfit-lawful}
use Rattle.list.proofs.Ending.{told}
use Rattle.list.proofs.Formed.{lawful-exactly}
use Rattle.block_read.specs.Fields.{byte_at}
use Rattle.block_write.specs.Bytes.{block_of}

module _ (p : Plan) where
  pub tells-width : Lawful p → byte_at (block_of 2 p) 7 ≡ (paper (check_of p)).width
  tells-width l = sym (told p ∙ rw ((lawful-exactly p).1 l))

  pub failing-tells-zero : {i : ℕ} → check_of p ≡ (Err (Misfit i)) → byte_at (block_of 2 p) 7 ≡ 0
  failing-tells-zero e = tells-width (misfit-lawful p e) ∙ ap (λ (v : Verdict). (paper v).width) e
