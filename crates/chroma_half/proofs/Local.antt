-- A byte of the widened line depends on two of the line, so that a strip with one byte of each neighbour widens to what the whole line has there.
-- The index rule reads two places, and moves with the strip.
use Prim.Native.Nat.{ℕ, ◌+◌, ◌*◌, ◌/◌, ◌%◌, ◌<◌}
use mathlib.Core.Path.{◌≡◌, sym, ◌∙◌}
use mathlib.Core.Logic.{◌⊎◌, inl, inr}
use mathlib.Core.List.{List, ◌++◌}
use native.Mathlib.Omega.{arith}
use lib.ListN.{get_or, length, length-append, get_or-append}
use lib.Seq.{get_or-append-add}
use Rattle.chroma_half.specs.Widening.{MadeFrom, beside_of, widened, widened_at}
use Rattle.chroma_half.proofs.Lines.{line_at}
use Rattle.chroma_half.proofs.Rules.{widened-at}

pub depends_on_two :
    (c d : List ℕ) (m : ℕ) {j i k : ℕ} → length c ≡ length d → MadeFrom (length c) j i k → j < m → get_or c i 0 ≡ get_or d i 0 → get_or c k 0 ≡ get_or d k 0 →
    get_or (widened c m) j 0 ≡ get_or (widened d m) j 0
depends_on_two c d m {j} {i} {k} e made h p q = widened-at c m made h ∙ rw (p, q) (sym (widened-at d m (rw (sym e) made) h))

-- all of a strip's outputs but its first, where bytes stand before it, and its last, where bytes stand after it
pub strip :
    (before s after : List ℕ) (m j : ℕ) → j < 2 * length s → (0 < j) ⊎ (length before ≡ 0) → (j + 1 < 2 * length s) ⊎ (length after ≡ 0) → 2 * length before + j < m →
    get_or (widened (before ++ (s ++ after)) m) (2 * length before + j) 0 ≡ get_or (widened s (2 * length s)) j 0
strip before s after m j h p q l =
    line_at m (widened_at c) (2 * b + j) l ∙ rw (beside p q, half, at (j / 2) (omega arith), at (beside_of (length s) j) (omega arith)) (sym (line_at (2 * length s) (widened_at s) j h))
  where
    c : List ℕ
    c = before ++ (s ++ after)

    b : ℕ
    b = length before

    half : (2 * b + j) / 2 ≡ b + j / 2
    half = omega arith

    at : (i : ℕ) → i < length s → get_or c (b + i) 0 ≡ get_or s i 0
    at i k = get_or-append-add before (s ++ after) i 0 ∙ get_or-append s after 0 i k

    long : length c ≡ b + (length s + length after)
    long = length-append before (s ++ after) ∙ rw (length-append s after)

    side : (2 * b + j) % 2 ≡ j % 2
    side = omega arith

    beside : (0 < j) ⊎ (length before ≡ 0) → (j + 1 < 2 * length s) ⊎ (length after ≡ 0) → beside_of (length c) (2 * b + j) ≡ b + beside_of (length s) j
    beside (inl p) (inl q) = rw (long, half, side) (omega arith)
    beside (inl p) (inr q) = rw (long, half, side) (omega arith)
    beside (inr p) (inl q) = rw (long, half, side) (omega arith)
    beside (inr p) (inr q) = rw (long, half, side) (omega arith)
