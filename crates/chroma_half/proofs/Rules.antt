-- `widened` and `narrowed` of a byte line are the lines of W13's words, and no others.
-- The words name for each output one byte and one neighbour, and one whole number is nearest what is made of them.
use Prim.Native.Nat.{ℕ, ◌+◌, ◌-◌, ◌*◌, ◌/◌, ◌%◌, ◌≤◌, ◌<◌}
use mathlib.Core.Path.{◌≡◌, ap, refl, ◌∙◌}
use mathlib.Core.Bool.{Bool, true, false}
use mathlib.Core.Logic.{◌↔◌}
use mathlib.Core.List.{List}
use native.Mathlib.Omega.{arith}
use borrow.Author.Tests.{eqb-false, eqb-true, le-ltb, lt-ltb, ltb-false, ltb-true}
use lib.Dec.{eqb, ltb}
use lib.ListN.{get_or, length}
use Rattle.nearest.specs.Nearest.{Fraction, Nearest, ⟨◌-◌⟩/◌, byte_of}
use Rattle.nearest.proofs.Exactly.{nearest-one}
use Rattle.chroma_half.specs.Lines.{ByteLine}
use Rattle.chroma_half.specs.Twice.{FitsTwice}
use Rattle.chroma_half.specs.Widening.{MadeFrom, Widened, after, before, beside_of, first, last, mix_of, output_at, widened, widened_at}
use Rattle.chroma_half.specs.Narrowing.{Narrowed, mean_of, narrowed, narrowed_at}
use Rattle.chroma_half.proofs.Lines.{length-line, line_at, line_is}
use Rattle.chroma_half.proofs.Twice.{halves_exactly, twice-exactly}

made_of : {n j i k : ℕ} → MadeFrom n j i k → (i ≡ j / 2) × (k ≡ beside_of n j)
made_of (before {i} l) = let e : (2 * (i + 1)) % 2 ≡ 0 = omega arith in (omega arith, omega arith)
made_of (first l) = (omega arith, omega arith)
made_of (after {i} l) = let e : (2 * i + 1) % 2 ≡ 1 = omega arith in (omega arith, omega arith)
made_of (last {i} l) = let e : (2 * i + 1) % 2 ≡ 1 = omega arith in (omega arith, omega arith)

-- output j is made from byte j/2 and the byte beside it, and from no others
pub made_exactly : (n j i k : ℕ) → j / 2 < n → MadeFrom n j i k ↔ ((i ≡ j / 2) × (k ≡ beside_of n j))
made_exactly n j i k h = (made_of, λ e. rw (e.0, e.1) (made (eqb (j % 2) 0) (eqb (j / 2) 0) (ltb (j / 2 + 1) n) refl refl refl))
  where
    like : {j i k : ℕ} (j' i' k' : ℕ) → MadeFrom n j i k → j' ≡ j → i' ≡ i → k' ≡ k → MadeFrom n j' i' k'
    like j' i' k' m p q r = rw (p, q, r) m

    made : (even start inner : Bool) → eqb (j % 2) 0 ≡ even → eqb (j / 2) 0 ≡ start → ltb (j / 2 + 1) n ≡ inner → MadeFrom n j (j / 2) (beside_of n j)
    made true true inner e s l =
        let x = eqb-true (j % 2) 0 e in
        let y = eqb-true (j / 2) 0 s in
        like _ _ _ (first (omega arith)) (omega arith) y (omega arith)
    made true false inner e s l =
        let x = eqb-true (j % 2) 0 e in
        let y = eqb-false (j / 2) 0 s in
        like _ _ _ (before {i = j / 2 - 1} (omega arith)) (omega arith) (omega arith) (omega arith)
    made false start true e s l =
        let x = eqb-false (j % 2) 0 e in
        let y = ltb-true (j / 2 + 1) n l in
        like _ _ _ (after {i = j / 2} y) (omega arith) refl (omega arith)
    made false start false e s l =
        let x = eqb-false (j % 2) 0 e in
        let y = ltb-false (j / 2 + 1) n l in
        like _ _ _ (last {i = j / 2} (omega arith)) (omega arith) refl (omega arith)

-- an output that there is
pub output_is : (c : List ℕ) (j : ℕ) → j / 2 < length c → output_at c j ≡ widened_at c j
output_is c j h = rw (lt-ltb (j / 2) (length c) h)

-- what is made of bytes needs no holding
mix-nearest : (a b : ℕ) → a ≤ 255 → b ≤ 255 → Nearest (⟨ 3 * a + b - 0 ⟩/ 4) (mix_of a b) 0
unfolding mix_of byte_of
mix-nearest a b h k = record { from = omega arith; below = omega arith }

mean-nearest : (a b : ℕ) → a ≤ 255 → b ≤ 255 → Nearest (⟨ a + b - 0 ⟩/ 2) (mean_of a b) 0
unfolding mean_of byte_of
mean-nearest a b h k = record { from = omega arith; below = omega arith }

one : (f : Fraction) (n m : ℕ) → Nearest f n 0 → Nearest f m 0 → n ≡ m
one f n m s t = let e = nearest-one f n 0 m 0 s t in omega arith

-- an output of the widened line, by what it is made from
pub widened-at : (c : List ℕ) (m : ℕ) {j i k : ℕ} → MadeFrom (length c) j i k → j < m → get_or (widened c m) j 0 ≡ mix_of (get_or c i 0) (get_or c k 0)
widened-at c m {j} made h =
    let e = made_of made in
    line_at m (widened_at c) j h ∙ rw (e.0, e.1)

module _ (c out : List ℕ) (bytes : ByteLine c) where
  pub widened-exactly : Widened c out ↔ (FitsTwice (length c) (length out) × (out ≡ widened c (length out)))
  widened-exactly = (λ w. (w.fits, same w), λ e. record { fits = e.0; each = each e.1 })
    where
      inside : FitsTwice (length c) (length out) → (j : ℕ) → j < length out → j / 2 < length c
      inside f j h = let e = (halves_exactly (length c) (length out)).0 ((twice-exactly (length c) (length out)).1 f) in omega arith

      same : Widened c out → out ≡ widened c (length out)
      same w = line_is (length out) (widened_at c) out refl (λ j h.
          let k = beside_of (length c) j in
          let made = (made_exactly (length c) j (j / 2) k (inside w.fits j h)).1 (refl, refl) in
          one (⟨ 3 * get_or c (j / 2) 0 + get_or c k 0 - 0 ⟩/ 4) _ _ (w.each made h) (mix-nearest _ _ (bytes (j / 2)) (bytes k)))

      each : out ≡ widened c (length out) → {j i k : ℕ} → MadeFrom (length c) j i k → j < length out → Nearest (⟨ 3 * get_or c i 0 + get_or c k 0 - 0 ⟩/ 4) (get_or out j 0) 0
      each e {j} {i} {k} made h =
          let at : get_or out j 0 ≡ mix_of (get_or c i 0) (get_or c k 0) = ap (λ (l : List ℕ). get_or l j 0) e ∙ widened-at c (length out) made h in
          rw at (mix-nearest _ _ (bytes i) (bytes k))

  pub narrowed-exactly : Narrowed c out ↔ (out ≡ narrowed c)
  narrowed-exactly = (same, λ e. record { fits = fits e; pair = pair e; odd = odd e })
    where
      long : length (narrowed c) ≡ (length c + 1) / 2
      long = length-line ((length c + 1) / 2) (narrowed_at c)

      same : Narrowed c out → out ≡ narrowed c
      same w =
          let e : length out ≡ (length c + 1) / 2 = (halves_exactly (length out) (length c)).0 ((twice-exactly (length out) (length c)).1 w.fits) in
          line_is ((length c + 1) / 2) (narrowed_at c) out e (λ i l. by i l (ltb (2 * i + 1) (length c)) refl)
        where
          by : (i : ℕ) → i < (length c + 1) / 2 → (b : Bool) → ltb (2 * i + 1) (length c) ≡ b → get_or out i 0 ≡ narrowed_at c i
          by i l true e =
              let h = ltb-true (2 * i + 1) (length c) e in
              rw e (one (⟨ get_or c (2 * i) 0 + get_or c (2 * i + 1) 0 - 0 ⟩/ 2) _ _ (w.pair i h) (mean-nearest _ _ (bytes (2 * i)) (bytes (2 * i + 1))))
          by i l false e = let h = ltb-false (2 * i + 1) (length c) e in rw e (w.odd i (omega arith))

      at : out ≡ narrowed c → (i : ℕ) → i < (length c + 1) / 2 → get_or out i 0 ≡ narrowed_at c i
      at e i h = ap (λ (l : List ℕ). get_or l i 0) e ∙ line_at ((length c + 1) / 2) (narrowed_at c) i h

      fits : out ≡ narrowed c → FitsTwice (length out) (length c)
      fits e = (twice-exactly (length out) (length c)).0 ((halves_exactly (length out) (length c)).1 (ap length e ∙ long))

      pair : out ≡ narrowed c → (i : ℕ) → 2 * i + 1 < length c → Nearest (⟨ get_or c (2 * i) 0 + get_or c (2 * i + 1) 0 - 0 ⟩/ 2) (get_or out i 0) 0
      pair e i h =
          let is : get_or out i 0 ≡ mean_of (get_or c (2 * i) 0) (get_or c (2 * i + 1) 0) = at e i (omega arith) ∙ rw (lt-ltb (2 * i + 1) (length c) h) in
          rw is (mean-nearest _ _ (bytes (2 * i)) (bytes (2 * i + 1)))

      odd : out ≡ narrowed c → (i : ℕ) → 2 * i + 1 ≡ length c → get_or out i 0 ≡ get_or c (2 * i) 0
      odd e i h = at e i (omega arith) ∙ rw (le-ltb (2 * i + 1) (length c) (omega arith))
