-- `code` is the code whose entry is nearest.
-- The first entry above the level and the one before it have the level between them; above the last there is none, and at the first is 0.
use Prim.Native.Nat.{ℕ, ◌-◌, ◌≤◌, ◌<◌, min}
use mathlib.Core.Path.{◌≡◌}
use mathlib.Core.Bool.{true, false}
use mathlib.Core.List.{List}
use mathlib.Core.Logic.{◌⊎◌, inl, inr}
use native.Mathlib.Omega.{arith}
use borrow.Author.Tests.{leb-false, leb-true}
use lib.Dec.{leb, lit≤}
use lib.ListN.{get_or, length}
use Rattle.std.proofs.Common.{rules}
use Rattle.std.specs.List.Sorted.{IsPartitionPoint}
use Rattle.std.proofs.lemmas.List.Sorted.{IsNonDecreasingBy-from_default, IsPartitionedBy-leb, IsPartitionPoint-from_clause}
use Rattle.binary32.proofs.Size.{split_le}
use Rattle.srgb10.specs.Codes.{level_of}
use Rattle.srgb10.specs.Curve.{Whole}
use Rattle.srgb10.proofs.Around.{level-le, nearest-hi, nearest-lo}
use Rattle.srgb10.proofs.Back.{code_is}
use Rattle.srgb10.proofs.Levels.{entry-is, first-level, last_level}
use Rattle.srgb10.proofs.code.Goals as goal

-- the level v lies between the entries of hi - 1 and hi
record Between (s : List ℕ) (v hi : ℕ) : Type 0 where
  some : 0 < hi
  last : hi ≤ 1023
  lo-entry : get_or s (hi - 1) 0 ≡ level_of (hi - 1)
  hi-entry : get_or s hi 0 ≡ level_of hi
  low : level_of (hi - 1) ≤ v
  high : v ≤ level_of hi

between : (s : List ℕ) → Whole s → (v p : ℕ) → v ≤ 65535 → p ≤ length s → IsPartitionPoint (λ y. leb y v ≡ true) (λ y. leb y v ≡ false) s p → Between s v (min p 1023)
between s w v p small far point = by (split_le p 0) (split_le p 1023)
  where
    entry : (c : ℕ) → c ≤ 1023 → get_or s c 0 ≡ level_of c
    entry = entry-is s w

    by : (p ≤ 0) ⊎ (0 < p) → (p ≤ 1023) ⊎ (1023 < p) → Between s v (min p 1023)
    by (inl none) inside =
        let long = w.long in
        let above = leb-false (get_or s 0 0) v (point.1 0 0 (omega arith) (omega arith)) in
        absurd (omega (arith, entry 0 (lit≤ tt), first-level, above))
    by (inr some) (inl inside) =
        let long = w.long in
        let e : min p 1023 ≡ p = omega arith in
        let below = leb-true (get_or s (p - 1) 0) v (point.0 (p - 1) 0 (omega arith) (omega arith)) in
        let above = leb-false (get_or s p 0) v (point.1 p 0 (omega arith) (omega arith)) in
        let lo-entry = entry (p - 1) (omega arith) in
        let hi-entry = entry p inside in
        rw e (record { some = some; last = inside; lo-entry = lo-entry; hi-entry = hi-entry; low = omega arith; high = omega arith })
    by (inr some) (inr past) =
        let e : min p 1023 ≡ 1023 = omega arith in
        let below = leb-true (get_or s 1022 0) v (point.0 1022 0 (omega arith) (omega arith)) in
        let lo-entry = entry 1022 (lit≤ tt) in
        rw e (record { some = lit≤ tt; last = lit≤ tt; lo-entry = lo-entry; hi-entry = entry 1023 (lit≤ tt); low = omega arith; high = omega (arith, last_level) })

found : (c : goal.After-min-hi) → Between c.entries-levels.result c.args.level c.min-hi.result
found c =
    let s = c.entries-levels.result in
    let w = c.entries-levels.ensures in
    let v = c.args.level in
    let rises = IsNonDecreasingBy-from_default (λ x. x) s 0 (λ i j h k. let long = w.long in let e = entry-is s w i (omega arith) in let f = entry-is s w j (omega arith) in omega (arith, level-le i j h (omega arith))) in
    let point = IsPartitionPoint-from_clause (λ y. leb y v) s _ c.partition_point.ensures.partitioned (IsPartitionedBy-leb (λ x. x) s v rises) (λ a r q k. search rules) in
    rw c.min-hi.ensures (between s w v c.partition_point.result (omega arith) c.partition_point.ensures.bound point)

pub overflow_sub-lo : goal.overflow_sub-lo
overflow_sub-lo c = let b = found c in omega arith

pub overflow_sub-level : goal.overflow_sub-level
overflow_sub-level c = let b = found c in omega arith

pub overflow_sub-levels : goal.overflow_sub-levels
overflow_sub-levels c = let b = found c in omega arith

pub returns-then-level-levels : goal.returns-then-level-levels
returns-then-level-levels c =
    let b = found c.before in
    let hi = c.min-hi.result in
    let n = nearest-lo c.args.level (hi - 1) hi (omega arith) b.last b.low b.high (omega arith) in
    record { nearest = n; value = code_is _ _ n }

pub returns-else-level-levels : goal.returns-else-level-levels
returns-else-level-levels c =
    let b = found c.before in
    let hi = c.min-hi.result in
    let n = nearest-hi c.args.level (hi - 1) hi (omega arith) b.last b.low b.high (omega arith) in
    record { nearest = n; value = code_is _ _ n }
