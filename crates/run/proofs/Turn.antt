-- One turn of the loop over ops, from what the calls on the op leave and answer; and its end.
-- What remains from position i begins with the op in slot i.
use Prim.Native.Nat.{◌+◌, ◌<◌, ℕ, ◌≤◌}
use mathlib.Core.Path.{◌≡◌}
use mathlib.Core.List.{List, map}
use lib.ListN.{drop, get_or, length}
use Rattle.channels.specs.Channels.{Channels, EquallyLong, where_equal}
use Rattle.channels.proofs.Lengths.{equal_exactly}
use Rattle.op.specs.Widths.{gives_of}
use Rattle.run_op.specs.Apply.{after_op}
use Rattle.list.specs.Lists.{op_of}
use Rattle.list.specs.declared.Slot.{Slot}
use Rattle.list.proofs.Walk.{next-op, no_more}
use Rattle.run.specs.Run.{run_ops}

module _ (ss : List Slot) (i : ℕ) where
  pub runs_on : (d : Slot) → i < length ss → (w : ℕ) (s : Channels) {t : Channels} {v : ℕ} → EquallyLong s
      → t ≡ where_equal (after_op (op_of (get_or ss i d)) w) s → v ≡ gives_of (op_of (get_or ss i d)) w
      → run_ops v (drop (i + 1) (map op_of ss)) t ≡ run_ops w (drop i (map op_of ss)) s
  runs_on d h w s l e f = rw (next-op ss i d h, e, f, (equal_exactly s).1 l)

  pub run_ends : length ss ≤ i → (w : ℕ) (s : Channels) → s ≡ run_ops w (drop i (map op_of ss)) s
  run_ends h w s = rw (no_more ss i h)
