-- A line by an index rule has its length, and at each place what the rule says; and what is so is that line.
-- By induction on the length; two lists that agree at each place are equal.
use Prim.Native.Nat.{ℕ, zero, suc, ◌<◌}
use mathlib.Core.Path.{◌≡◌, refl, ap, sym, ◌∙◌}
use mathlib.Core.List.{List}
use native.Mathlib.Nat.{le_of_suc-le-suc, not-suc-le-zero}
use native.Mathlib.Omega.{arith}
use lib.ListN.{get_or, length}
use lib.Seq.{ext_get_or}
use Rattle.chroma_half.specs.Lines.{line}

pub length-line : (n : ℕ) (at : ℕ → ℕ) → length (line n at) ≡ n
length-line zero at = refl
length-line (suc n) at = ap suc (length-line n (λ i. at (suc i)))

pub line_at : (n : ℕ) (at : ℕ → ℕ) (i : ℕ) → i < n → get_or (line n at) i 0 ≡ at i
line_at zero at i h = absurd (not-suc-le-zero h)
line_at (suc n) at zero h = refl
line_at (suc n) at (suc i) h = line_at n (λ k. at (suc k)) i (le_of_suc-le-suc h)

pub line_is : (n : ℕ) (at : ℕ → ℕ) (s : List ℕ) → length s ≡ n → ((i : ℕ) → i < n → get_or s i 0 ≡ at i) → s ≡ line n at
line_is n at s l each = ext_get_or 0 s (line n at) (l ∙ sym (length-line n at)) (λ i h. let k : i < n = omega arith in each i k ∙ sym (line_at n at i k))
