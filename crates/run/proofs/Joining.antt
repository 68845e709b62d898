-- A list of ops runs on joined channels as on each by itself, for channels equally long; and no samples stay no samples.
-- By induction on the ops; every op leaves equally long channels equally long.
use Prim.Native.Nat.{ℕ}
use mathlib.Core.Path.{◌≡◌, ap, refl, ◌∙◌}
use mathlib.Core.List.{List, [], ◌∷◌}
use Rattle.channels.specs.Channels.{Channels, EquallyLong, channels}
use Rattle.channels.specs.Joined.{join}
use Rattle.op.specs.Widths.{gives_of}
use Rattle.op.specs.declared.Op.{Op}
use Rattle.run_op.specs.Apply.{after_op}
use Rattle.run_op.proofs.Even.{after-even}
use Rattle.run_op.proofs.Joining.{after-joins, after_none}
use Rattle.run.specs.Run.{run_ops}

pub ops-join : (w : ℕ) (os : List Op) (s t : Channels) → EquallyLong s → run_ops w os (join s t) ≡ join (run_ops w os s) (run_ops w os t)
ops-join w [] s t e = refl
ops-join w (o ∷ os) s t e =
    ap (run_ops (gives_of o w) os) (after-joins o w s t e)
    ∙ ops-join (gives_of o w) os (after_op o w s) (after_op o w t) (after-even o w s e)

pub ops-none : (w : ℕ) (os : List Op) → run_ops w os (channels [] [] []) ≡ channels [] [] []
ops-none w [] = refl
ops-none w (o ∷ os) = ap (run_ops (gives_of o w) os) (after_none o w) ∙ ops-none (gives_of o w) os
