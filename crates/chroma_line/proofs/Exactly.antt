-- The test of a line's six lengths holds exactly where they fit in words; and then the widened channels and the outputs are all as long as Y.
-- By the tests of the two chroma lines, and of the widened lengths.
use Prim.Native.Nat.{ℕ, ◌+◌, ◌/◌}
use mathlib.Core.Path.{◌≡◌, refl, sym, ◌∙◌}
use mathlib.Core.Bool.{true}
use mathlib.Core.Logic.{◌↔◌}
use mathlib.Core.List.{List}
use lib.ListN.{length}
use Rattle.notation.proofs.Tests.{both-exactly}
use Rattle.ycbcr_planes.specs.Planes.{EquallyLong, Planes, planes}
use Rattle.ycbcr_planes.proofs.Exactly.{equal_exactly}
use Rattle.chroma_half.specs.Twice.{FitsTwice}
use Rattle.chroma_half.specs.Widening.{widened, widened_at}
use Rattle.chroma_half.proofs.Lines.{length-line}
use Rattle.chroma_half.proofs.Twice.{halves_exactly, twice-exactly}
use Rattle.chroma_line.specs.Line.{LineFits, line_fits, widened_both}

pub fits-exactly : (s t : Planes) → (line_fits s t ≡ true) ↔ LineFits s t
fits-exactly s t =
    let y = s.b in
    let all = both-exactly (twice-exactly (length s.a) (length y)) (both-exactly (twice-exactly (length s.c) (length y)) (equal_exactly (planes y y y) t)) in (
      λ e. let h = all.0 e in let l = h.1.1 in record { of_cb = h.0; of_cr = h.1.0; of_r = l.2; of_g = l.3; of_b = l.4 },
      λ f. all.1 (f.of_cb, (f.of_cr, (refl, refl, f.of_r, f.of_g, f.of_b))),
    )

pub as_long : (c : List ℕ) (m : ℕ) → length (widened c m) ≡ m
as_long c m = length-line m (widened_at c)

pub all_as_long : (s t : Planes) → LineFits s t → EquallyLong (widened_both s) t
all_as_long s t f =
    let e = sym (as_long s.a (length s.b)) in
    (e, as_long s.c (length s.b) ∙ e, f.of_r ∙ e, f.of_g ∙ e, f.of_b ∙ e)

-- how many chroma bytes there are
pub half_as_long : (c : List ℕ) (m : ℕ) → FitsTwice (length c) m → length c ≡ (m + 1) / 2
half_as_long c m f = (halves_exactly (length c) m).0 ((twice-exactly (length c) m).1 f)
