-- `read` reads the header at the front of a slice.
-- What is left to read, from where the reading is, gives what the whole does; at the end nothing is left.
use Prim.Native.Nat.{◌≤◌}
use mathlib.Core.Path.{ap, sym, ◌∙◌}
use native.Mathlib.Omega.{arith}
use lib.ListN.{drop_of_length-le, length}
use Rattle.pfm.specs.Header.{header_from, header_of}
use Rattle.pfm.proofs.headers.read.Goals as goal

pub returns : goal.returns
unfolding header_of
returns c =
    let t = c.loop-i in
    let s = c.args.s.now in
    let h : length s ≤ t.i = omega arith in
    ap (header_from t.h t.i) (sym (drop_of_length-le s {i = t.i} h)) ∙ t.invariant
