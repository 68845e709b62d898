-- The level of a code is the one level of the rule, and the levels rise strictly; a list of which the whole table's claim holds has these levels.
-- `Numbers` has a level for each code that passes: two tests over all of it, which are computed.
use mathlib.Core.Path.{◌≡◌, ◌∙◌, refl, subst, sym}
use mathlib.Core.List.{List}
use mathlib.Core.Logic.{◌↔◌, inl, inr}
use Prim.Native.Nat.{ℕ, zero-le, ◌≤◌, ◌<◌}
use native.Mathlib.Nat.{eq-or-lt_of_le, zero-add}
use native.Mathlib.Omega.{arith}
use borrow.Author.Tests.{le-leb, lt-leb}
use lib.Dec.{T, lit≤}
use lib.ListN.{get_or}
use lib.Seq.{ext_get_or}
use Rattle.notation.proofs.First.{first_found}
use Rattle.srgb10.specs.Codes.{level_of}
use Rattle.srgb10.specs.Curve.{IsLevel, Whole, near, right, rising, rising_from}
use Rattle.srgb10.proofs.Places.{right_at, rising-at}
use Rattle.srgb10.proofs.Rule.{near-exactly, one_level}
use Rattle.srgb10.proofs.Numbers.{table}

table-whole : Whole table
unfolding table near right rising rising_from
table-whole = record { long = refl; is_right = tt; rises = tt }

first_entry : get_or table 0 0 ≡ 0
unfolding table
first_entry = refl

last_entry : get_or table 1023 0 ≡ 65535
unfolding table
last_entry = refl

-- an entry of a whole table passes
entry-near : (s : List ℕ) → Whole s → (c : ℕ) → c ≤ 1023 → T (near c (get_or s c 0))
entry-near s w c h = rw zero-add at (right_at s 0 w.is_right c (omega (arith, w.long)))

passes_once : (c l m : ℕ) → T (near c l) → T (near c m) → l ≡ m
passes_once c l m p q = one_level c l m ((near-exactly c l).0 p) ((near-exactly c m).0 q)

-- the level that is looked for is the one that passes
level-is : (c l : ℕ) → c ≤ 1023 → l < 65536 → T (near c l) → level_of c ≡ l
unfolding level_of
level-is c l h k t = rw (le-leb c 1023 h) (passes_once c _ l (first_found (near c) 65536 0 l zero-le (omega arith) t).0 t)

level-entry : (c : ℕ) → c ≤ 1023 → level_of c ≡ get_or table c 0
level-entry c h = level-is c (get_or table c 0) h (small c h) (entry-near table table-whole c h)
  where
    small : (c : ℕ) → c ≤ 1023 → get_or table c 0 < 65536
    small c h = elim (eq-or-lt_of_le h) [
      | inl e ↦ rw e (omega (arith, last_entry))
      | inr l ↦ let k = rising-at table table-whole.rises c 1023 l (omega (arith, table-whole.long)) in omega (arith, last_entry)
    ]

level-near : (c : ℕ) → c ≤ 1023 → T (near c (level_of c))
level-near c h = rw (level-entry c h) (entry-near table table-whole c h)

-- the level of a code, and no other, is "the whole number nearest 65535 times the curve"
pub level-exactly : (c l : ℕ) → c ≤ 1023 → (l ≡ level_of c) ↔ IsLevel c l
level-exactly c l h = (
  λ e. subst (IsLevel c) (sym e) ((near-exactly c (level_of c)).0 (level-near c h)),
  λ i. passes_once c l (level_of c) ((near-exactly c l).1 i) (level-near c h),
)

-- "a single such code gives level 0"
pub no_level : (c : ℕ) → 1023 < c → level_of c ≡ 0
unfolding level_of
no_level c h = rw (lt-leb c 1023 h)

-- "The entries rise strictly"
pub levels_rise : (c d : ℕ) → c < d → d ≤ 1023 → level_of c < level_of d
levels_rise c d h k =
    let e = level-entry c (omega arith) in
    let f = level-entry d k in
    let l = rising-at table table-whole.rises c d h (omega (arith, table-whole.long)) in
    omega arith

pub first-level : level_of 0 ≡ 0
first-level = level-entry 0 (lit≤ tt) ∙ first_entry

pub last_level : level_of 1023 ≡ 65535
last_level = level-entry 1023 (lit≤ tt) ∙ last_entry

-- any list of which the claim holds has these levels, and so there is one
pub entry-is : (s : List ℕ) → Whole s → (c : ℕ) → c ≤ 1023 → get_or s c 0 ≡ level_of c
entry-is s w c h = passes_once c (get_or s c 0) (level_of c) (entry-near s w c h) (level-near c h)

pub one_table : (s t : List ℕ) → Whole s → Whole t → s ≡ t
one_table s t w v =
    ext_get_or 0 s t (w.long ∙ sym v.long) (λ c h. let k : c ≤ 1023 = omega (arith, w.long) in entry-is s w c k ∙ sym (entry-is t v c k))
