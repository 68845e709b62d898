-- "narrowing a widened line of equal bytes returns that line" (02, W13), of either length.
-- A mix of equal bytes is that byte, and so is a mean.
use Prim.Native.Nat.{ℕ, ◌+◌, ◌*◌, ◌/◌, ◌<◌, ◌≤◌}
use mathlib.Core.Path.{◌≡◌, refl, sym, ◌∙◌}
use mathlib.Core.Bool.{Bool, true, false}
use mathlib.Core.List.{List}
use native.Mathlib.Omega.{arith}
use borrow.Author.Tests.{ltb-true}
use lib.Dec.{ltb}
use lib.ListN.{get_or, length, replicate, length-replicate, get_or-replicate}
use lib.Seq.{ext_get_or}
use Rattle.notation.specs.Choice.{when◌then◌else◌}
use Rattle.nearest.specs.Nearest.{byte_of}
use Rattle.chroma_half.specs.Twice.{FitsTwice}
use Rattle.chroma_half.specs.Widening.{beside_of, mix_of, widened, widened_at}
use Rattle.chroma_half.specs.Narrowing.{mean_of, narrowed, narrowed_at}
use Rattle.chroma_half.proofs.Lines.{length-line, line_at}
use Rattle.chroma_half.proofs.Twice.{halves_exactly, twice-exactly}

mix-same : (x : ℕ) → x ≤ 255 → mix_of x x ≡ x
unfolding mix_of byte_of
mix-same x h = omega arith

mean-same : (x : ℕ) → x ≤ 255 → mean_of x x ≡ x
unfolding mean_of byte_of
mean-same x h = omega arith

module _ (x n m : ℕ) (byte : x ≤ 255) (fits : FitsTwice n m) where
  half : n ≡ (m + 1) / 2
  half = (halves_exactly n m).0 ((twice-exactly n m).1 fits)

  long : length (widened (replicate n x) m) ≡ m
  long = length-line m (widened_at (replicate n x))

  pub equal-widened : (j : ℕ) → j < m → get_or (widened (replicate n x) m) j 0 ≡ x
  equal-widened j h =
      let c = replicate n x in
      let e = half in
      let l = length-replicate n x in
      let i : j / 2 < n = omega arith in
      let k : beside_of (length c) j < n = omega arith in
      line_at m (widened_at c) j h ∙ rw (get_or-replicate n (j / 2) x 0 i, get_or-replicate n (beside_of (length c) j) x 0 k) (mix-same x byte)

  -- whether or not a pair stands there
  narrowed-same : (i : ℕ) → 2 * i < m → narrowed_at (widened (replicate n x) m) i ≡ x
  narrowed-same i h = by (ltb (2 * i + 1) (length s)) refl
    where
      s : List ℕ
      s = widened (replicate n x) m

      by : (b : Bool) → ltb (2 * i + 1) (length s) ≡ b → (when b then mean_of (get_or s (2 * i) 0) (get_or s (2 * i + 1) 0) else get_or s (2 * i) 0) ≡ x
      by true e =
          let l = ltb-true (2 * i + 1) (length s) e in
          let k : 2 * i + 1 < m = omega (arith, long) in
          rw (equal-widened (2 * i) h, equal-widened (2 * i + 1) k) (mean-same x byte)
      by false e = equal-widened (2 * i) h

  pub equal-back : narrowed (widened (replicate n x) m) ≡ replicate n x
  equal-back =
      let s = widened (replicate n x) m in
      let l = long in
      let k : length (narrowed s) ≡ (length s + 1) / 2 = length-line ((length s + 1) / 2) (narrowed_at s) in
      let r : length (replicate n x) ≡ n = length-replicate n x in
      let e = half in
      ext_get_or 0 (narrowed s) (replicate n x) (omega arith) (λ i h.
      let below : i < (length s + 1) / 2 = omega arith in
      line_at ((length s + 1) / 2) (narrowed_at s) i below ∙ narrowed-same i (omega arith) ∙ sym (get_or-replicate n i x 0 (omega arith)))
