-- `by_blocks` makes of a piece what `rgb_raised` makes of each triple.
-- Block by block is as place by place (`Pieces`), for the function `rgb_raised k`; each block is ready, and kept (`Blocks`).
use Prim.Native.Nat.{min}
use Rattle.std.proofs.Common.{◌+◌, ◌*◌, ◌<◌, ◌≤◌, ◌≡◌, length, ap, arith}
use Rattle.channels.proofs.InStep.{at_place, steps_begun}
use Rattle.channels.proofs.Pieces.{pieces-even, stepped-piece}
use Rattle.ycbcr_float.specs.Steps.{rgb_raised}
use Rattle.ycbcr_float.proofs.Blocks.{block-kept, block-ready}
use Rattle.ycbcr_float.proofs.piece.by_blocks.Goals as goal

pub loop-i-init : goal.loop-i-init
loop-i-init c =
    let s = c.requires.kept_value in
    (at_place (omega arith) (steps_begun (rgb_raised c.args.k) _ _ _ c.requires.equally_long), ap (λ t. length t.a) s, ap (λ t. length t.b) s, ap (λ t. length t.c) s)

pub block-requires : goal.block-requires
block-requires c =
    let l = c.loop-i in
    let m = c.next_piece.result in
    let n = length c.args.cb.now in
    let below : 32 * l.i < n = omega arith in
    let here : min (32 * l.i) n ≡ 32 * l.i = omega (arith, below) in
    let fits : 32 * l.i + m ≤ n = omega (arith, below, c.next_piece.ensures) in
    let v = at_place here l.invariant.0 in
    record {
      factors = c.requires.factors;
      equally_long = pieces-even v m fits;
      all_ready = block-ready v m fits c.requires.all_ready;
      kept_value = block-kept v m fits _ _ _ c.requires.kept_value;
    }

pub loop-i-preserved : goal.loop-i-preserved
loop-i-preserved c =
    let l = c.loop-i in
    let v = l.invariant in
    let t = c.block in
    let m = c.next_piece.result in
    let n = length c.args.cb.now in
    let below : 32 * l.i < n = omega arith in
    let here : min (32 * l.i) n ≡ 32 * l.i = omega (arith, below) in
    let fits : 32 * l.i + m ≤ n = omega (arith, below, c.next_piece.ensures) in
    let next : 32 * l.i + m ≡ min (32 * (l.i + 1)) n = omega (arith, below, c.next_piece.ensures) in
    (at_place next (stepped-piece (at_place here v.0) m fits t.new.cb t.new.y t.new.cr t.ensures), v.1, v.2, v.3)
