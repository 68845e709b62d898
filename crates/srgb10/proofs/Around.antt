-- Two neighbouring codes whose entries have a level between them hold the nearest code; and each level has such neighbours.
-- From the strict rise of the entries.
use mathlib.Core.Path.{◌≡◌, ap}
use mathlib.Core.Logic.{◌⊎◌, inl, inr}
use Prim.Native.Nat.{ℕ, zero, suc, ◌+◌, ◌-◌, ◌≤◌, ◌<◌}
use native.Mathlib.Nat.{eq-or-lt_of_le, le_of_eq, le_of_lt}
use native.Mathlib.Omega.{arith}
use lib.Dec.{lit≤}
use Rattle.binary32.proofs.Size.{split_le}
use Rattle.srgb10.specs.Codes.{level_of, apart, Nearest}
use Rattle.srgb10.proofs.Levels.{first-level, last_level, levels_rise}

pub level-le : (c d : ℕ) → c ≤ d → d ≤ 1023 → level_of c ≤ level_of d
level-le c d h k = go (eq-or-lt_of_le h)
  where
    go : (c ≡ d) ⊎ (c < d) → level_of c ≤ level_of d
    go (inl e) = le_of_eq (ap level_of e)
    go (inr l) = le_of_lt (levels_rise c d l k)

module _ (v lo hi : ℕ) (next : hi ≡ lo + 1) (last : hi ≤ 1023) (low : level_of lo ≤ v) (high : v ≤ level_of hi) where
  pub nearest-lo : v - level_of lo ≤ level_of hi - v → Nearest v lo
  nearest-lo t = record {
    is_code = omega arith;
    none_nearer = λ c h. near c h (split_le c lo);
    none_below = λ c h. let l = levels_rise c lo h (omega arith) in omega arith;
  }
    where
      near : (c : ℕ) → c ≤ 1023 → (c ≤ lo) ⊎ (lo < c) → apart (level_of lo) v ≤ apart (level_of c) v
      near c h (inl l) = let k = level-le c lo l (omega arith) in omega arith
      near c h (inr l) = let k = level-le hi c (omega arith) h in omega arith

  pub nearest-hi : level_of hi - v < v - level_of lo → Nearest v hi
  nearest-hi t = record {
    is_code = omega arith;
    none_nearer = λ c h. near c h (split_le c lo);
    none_below = λ c h. let l = level-le c lo (omega arith) (omega arith) in omega arith;
  }
    where
      near : (c : ℕ) → c ≤ 1023 → (c ≤ lo) ⊎ (lo < c) → apart (level_of hi) v ≤ apart (level_of c) v
      near c h (inl l) = let k = level-le c lo l (omega arith) in omega arith
      near c h (inr l) = let k = level-le hi c (omega arith) h in omega arith

  nearest-of-two : (r : ℕ) × Nearest v r
  nearest-of-two = elim (split_le (v - level_of lo) (level_of hi - v)) [ inl t ↦ (lo, nearest-lo t) | inr t ↦ (hi, nearest-hi t) ]

-- going down from a code whose entry is not below the level
pub nearest-below : (v hi : ℕ) → hi ≤ 1023 → v ≤ level_of hi → (r : ℕ) × Nearest v r
nearest-below v zero h k = nearest-of-two v 0 1 (omega arith) (lit≤ tt) (omega (arith, first-level)) (omega (arith, levels_rise 0 1 (lit≤ tt) (lit≤ tt)))
nearest-below v (suc lo) h k = elim (split_le (level_of lo) v) [
  | inl l ↦ nearest-of-two v lo (suc lo) (omega arith) h l k
  | inr l ↦ nearest-below v lo (omega arith) (le_of_lt l)
]

pub has_nearest : (v : ℕ) → v ≤ 65535 → (r : ℕ) × Nearest v r
has_nearest v h = nearest-below v 1023 (lit≤ tt) (omega (arith, last_level))
