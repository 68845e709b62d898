-- `main` is safe and ends.
-- What it writes lies within the buffer.
use Rattle.buffer.proofs.Within.{within, counts}
use Rattle.planlist.proofs.main.Goals as goal

pub slice_bounds-text-end : goal.slice_bounds-text-end
slice_bounds-text-end c = within c.list-size.ensures

pub slice_bounds-write_all-end : goal.slice_bounds-write_all-end
slice_bounds-write_all-end c = counts c.list-size.ensures
