-- A list that is read is lawful: no width check refuses it by 10; and the end width that version 2 tells is the list's.
-- Its start width and count are the block's, which the reader tested; its end width is worked out.
use Rattle.std.specs.Prelude.{Ok, Err}
use Prim.Native.Nat.{ℕ}
use mathlib.Core.Path.{◌≡◌, ap, sym, ◌∙◌}
use mathlib.Core.List.{List}
use Rattle.notation.specs.Answers.{answer}
use lib.ListN.{length}
use Rattle.list.specs.Lists.{plan_of, end_of, Formed, Lawful}
use Rattle.list.specs.Check.{check_of}
use Rattle.list.specs.Answer.{paper as verdict}
use Rattle.list.specs.declared.CheckError.TheVariants.{Malformed}
use Rattle.list.proofs.Building.{plan-true}
use Rattle.list.proofs.Exactly.{ten-exactly}
use Rattle.list.proofs.Formed.{never_both}
use Rattle.block_read.specs.Fields.{byte_at}
use Rattle.block_read.specs.Block.{version_of, paper, read_of}
use Rattle.block_read.specs.declared.Block.{Block}
use Rattle.block_read.proofs.Exactly.{exactly}
use Rattle.block_read.proofs.Judging.{is-done}
use Rattle.block_read.proofs.Versions.{truly-told}
use Rattle.block_read.proofs.Ways.{all_fit}

module _ (s : List ℕ) (e : paper (read_of s).answer ≡ answer 0 0 0) where
  pub lawful : Lawful (read_of s).plan
  lawful =
      let w = (exactly s (Ok tt)).0 e in
      let plan : (read_of s).plan ≡ plan_of (byte_at s 5) w.1.ops = ap (λ (b : Block). b.plan) (is-done s w.0 w.1.all w.2) in
      let formed : Formed (byte_at s 5) (length w.1.ops) = rw (all_fit w.1.all).0 w.0.formed in
      rw plan (formed, plan-true (byte_at s 5) w.1.ops)

  pub never-ten : ¬ (check_of (read_of s).plan ≡ (Err Malformed))
  never-ten h = never_both (read_of s).plan lawful ((ten-exactly (read_of s).plan).0 (ap verdict h))

  pub tells-end : (read_of s).version ≡ 2 → byte_at s 7 ≡ (read_of s).plan.end
  tells-end h =
      let w = (exactly s (Ok tt)).0 e in
      let d = is-done s w.0 w.1.all w.2 in
      let v : version_of s ≡ 2 = sym (ap (λ (b : Block). b.version) d) ∙ h in
      truly-told (version_of s) (byte_at s 7) (end_of (byte_at s 5) (byte_at s 6) w.1.ops) w.2 v
      ∙ sym (ap (λ (b : Block). b.plan.end) d ∙ ap (λ (n : ℕ). end_of (byte_at s 5) n w.1.ops) (all_fit w.1.all).0)
