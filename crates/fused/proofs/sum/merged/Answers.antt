-- `merged` rounds the exact sum or difference, though the smaller part was jammed.
-- The laws of a jammed part stand in `Jammed`.
use mathlib.Core.Path.{ap, refl, sym, ◌∙◌, ◌≡◌}
use mathlib.Core.Logic.{inl}
use mathlib.Core.Bool.{Bool, beq, false, false≢true, not, true, true≢false}
use Prim.Native.Nat.{◌*◌, ◌^◌}
use native.Mathlib.Omega.{arith}
use lib.Dec.{lit≤}
use lib.Ieee.{binary32, round, sum, units}
use Rattle.binary32.proofs.Pattern.{together}
use Rattle.rounding.proofs.Sums.{sum_like}
use Rattle.fused.proofs.Jammed.{like-sum, none-sum, unlike-sum, w_le}
use Rattle.fused.proofs.sum.merged.Goals as goal

round-zero : (s : Bool) → round binary32 s 0 (2 ^ 359) ≡ units binary32 s 0 0
unfolding round
round-zero s = refl

-- what a test of two signs tells
same : (s t : Bool) → beq s t ≡ true → s ≡ t
same true true e = refl
same true false e = absurd (false≢true e)
same false true e = absurd (false≢true e)
same false false e = refl

other : (s t : Bool) → beq s t ≡ false → not s ≡ t
other true true e = absurd (true≢false e)
other true false e = refl
other false true e = refl
other false false e = absurd (true≢false e)

pub overflow_sub-x-else-x-w : goal.overflow_sub-x-else-x-w
overflow_sub-x-else-x-w c =
    let x = c.args.x in
    let y = c.args.y in
    w_le x.m y.m c.jam-w.result x.e y.e c.requires.0 c.requires.1 c.requires.2 c.jam-w.ensures c.requires.4

pub settled-requires-else-x-w : goal.settled-requires-else-x-w
settled-requires-else-x-w c =
    let x = c.args.x in
    let y = c.args.y in
    let w = w_le x.m y.m c.jam-w.result x.e y.e c.requires.0 c.requires.1 c.requires.2 c.jam-w.ensures c.requires.4 in
    omega (arith, w, c.if-x-w.false)

pub returns-then-x-y : goal.returns-then-x-y
returns-then-x-y c =
    let x = c.args.x in
    let y = c.args.y in
    c.settled.ensures
    ∙ like-sum x.m y.m c.jam-w.result x.e y.e c.requires.0 c.requires.1 c.requires.2 c.jam-w.ensures x.negative
    ∙ sym (sum_like binary32 x.negative (x.m * 2 ^ x.e) (y.m * 2 ^ y.e) (2 ^ 359))
    ∙ ap (λ (t : Bool). sum binary32 x.negative (x.m * 2 ^ x.e) t (y.m * 2 ^ y.e) (2 ^ 359)) (same _ _ c.if-x-y.true)

pub returns-then-x-w : goal.returns-then-x-w
returns-then-x-w c =
    let x = c.args.x in
    let y = c.args.y in
    c.put_together.ensures
    ∙ together false 0 0 (lit≤ tt) (lit≤ tt) (inl refl)
    ∙ sym (round-zero false)
    ∙ none-sum x.m y.m c.jam-w.result x.e y.e c.requires.0 c.requires.1 c.requires.2 c.jam-w.ensures x.negative c.if-x-w.true
    ∙ ap (λ (t : Bool). sum binary32 x.negative (x.m * 2 ^ x.e) t (y.m * 2 ^ y.e) (2 ^ 359)) (other _ _ c.if-x-y.false)

pub returns-else-x-w : goal.returns-else-x-w
returns-else-x-w c =
    let x = c.args.x in
    let y = c.args.y in
    c.settled-else-x-w.ensures
    ∙ unlike-sum x.m y.m c.jam-w.result x.e y.e c.requires.0 c.requires.1 c.requires.2 c.jam-w.ensures x.negative c.requires.4 c.if-x-w.false
    ∙ ap (λ (t : Bool). sum binary32 x.negative (x.m * 2 ^ x.e) t (y.m * 2 ^ y.e) (2 ^ 359)) (other _ _ c.if-x-y.false)
