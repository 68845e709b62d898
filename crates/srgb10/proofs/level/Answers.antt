-- `level` is the level of a code, of which the rule holds.
-- The table's entry is the code's level, and past its end there is 0.
use Prim.Native.Nat.{ℕ, ◌≤◌, ◌<◌}
use mathlib.Core.Path.{◌≡◌, sym, ◌∙◌}
use mathlib.Core.List.{List}
use mathlib.Core.Logic.{◌⊎◌, inl, inr}
use native.Mathlib.Omega.{arith}
use lib.ListN.{get_or, get_or-eq_default}
use Rattle.std.proofs.Common.{rules}
use Rattle.binary32.proofs.Size.{split_le}
use Rattle.srgb10.specs.Codes.{level_of}
use Rattle.srgb10.specs.Curve.{Whole}
use Rattle.srgb10.proofs.Levels.{entry-is, level-exactly, no_level}
use Rattle.srgb10.proofs.level.Goals as goal

entry_or_none : (s : List ℕ) → Whole s → (c : ℕ) → get_or s c 0 ≡ level_of c
entry_or_none s w c = by (split_le c 1023)
  where
    by : (c ≤ 1023) ⊎ (1023 < c) → get_or s c 0 ≡ level_of c
    by (inl h) = entry-is s w c h
    by (inr h) = let long = w.long in get_or-eq_default s 0 (omega arith) ∙ sym (no_level c h)

pub returns : goal.returns
returns c =
    let is : c.unwrap_or.result ≡ get_or c.entries-levels.result c.args.code 0 = search rules in
    let e = is ∙ entry_or_none c.entries-levels.result c.entries-levels.ensures c.args.code in
    record { nearest = λ h. (level-exactly _ _ h).0 e; value = e }
