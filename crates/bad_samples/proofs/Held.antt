-- Counts that are held: one below the bound is itself, and a sum may be held at any time.
-- A number is at most the bound, or above it.
use Prim.Native.Nat.{ℕ, ◌+◌, ◌≤◌}
use mathlib.Core.Path.{◌≡◌, ap, refl, sym, ◌∙◌}
use mathlib.Core.Bool.{Bool, true, false}
use native.Mathlib.Omega.{arith}
use lib.Dec.{leb}
use borrow.Author.Tests.{le-leb, leb-false, leb-true}
use Rattle.notation.specs.Choice.{when◌then◌else◌}
use Rattle.bad_samples.specs.Bad.{held}

abbrev most : ℕ
most = 0xffff_ffff_ffff_ffff

pub small : (n : ℕ) → n ≤ 0xffff_ffff_ffff_ffff → held n ≡ n
small n h = rw (le-leb n most h)

pub large : (n : ℕ) → 0xffff_ffff_ffff_ffff ≤ n → held n ≡ 0xffff_ffff_ffff_ffff
large n h = by (leb n most) refl
  where
    by : (b : Bool) → leb n most ≡ b → (when b then n else most) ≡ most
    by true e = let l = leb-true n most e in omega (arith, h, l)
    by false e = refl

-- what was held before may be held again after more is added
pub held_more : (a b : ℕ) → held (held a + b) ≡ held (a + b)
held_more a b = by (leb a most) refl
  where
    by : (t : Bool) → leb a most ≡ t → held (held a + b) ≡ held (a + b)
    by true e = ap (λ (k : ℕ). held (k + b)) (small a (leb-true a most e))
    by false e =
        let l = leb-false a most e in
        ap (λ (k : ℕ). held (k + b)) (large a (omega (arith, l))) ∙ large (most + b) (omega arith) ∙ sym (large (a + b) (omega (arith, l)))

-- wherever in a sum it was held
pub held-inside : (a b c : ℕ) → held (a + held b + c) ≡ held (a + b + c)
held-inside a b c =
    let before : a + held b + c ≡ held b + (a + c) = omega arith in
    let after : b + (a + c) ≡ a + b + c = omega arith in
    ap held before ∙ held_more b (a + c) ∙ ap held after

pub held-within : (n : ℕ) → held n ≤ 0xffff_ffff_ffff_ffff
held-within n = by (leb n most) refl
  where
    by : (b : Bool) → leb n most ≡ b → held n ≤ most
    by true e = let l = leb-true n most e in rw e l
    by false e = rw e (omega arith)
