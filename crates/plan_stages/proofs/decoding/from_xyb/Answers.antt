-- `plan_stages::decoding::from_xyb` meets its contract.
-- Its two pushes are the ops of `from_xyb`.
use mathlib.Core.List.{[], ◌∷◌}
use Rattle.list.proofs.Building.{appended-append}
use Rattle.plan_stages.proofs.decoding.from_xyb.Goals as goal

pub returns : goal.returns
returns c = rw (c.push.ensures, c.push-lms.ensures) (appended-append _ (_ ∷ []) (_ ∷ []))
