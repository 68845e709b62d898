-- The test of six lengths holds exactly where all are equal.
-- By the test's five comparisons.
use Prim.Native.Nat.{ℕ}
use mathlib.Core.Path.{◌≡◌, sym}
use mathlib.Core.Bool.{true}
use mathlib.Core.Logic.{◌↔◌}
use borrow.Author.Tests.{eq-eqb, eqb-true}
use lib.Dec.{eqb}
use lib.ListN.{length}
use Rattle.notation.proofs.Tests.{both-exactly}
use Rattle.ycbcr_planes.specs.Planes.{EquallyLong, Planes, equally_long}

module _ (s t : Planes) where
  pub equal_exactly : (equally_long s t ≡ true) ↔ EquallyLong s t
  equal_exactly =
      let all = both-exactly (same (length s.b)) (both-exactly (same (length s.c)) (both-exactly (same (length t.a)) (both-exactly (same (length t.b)) (same (length t.c))))) in
      (λ e. let h = all.0 e in (h.0, h.1.0, h.1.1.0, h.1.1.1.0, h.1.1.1.1), λ h. all.1 (h.0, (h.1, (h.2, (h.3, h.4)))))
    where
      same : (k : ℕ) → (eqb (length s.a) k ≡ true) ↔ (k ≡ length s.a)
      same k = (λ e. sym (eqb-true (length s.a) k e), λ e. eq-eqb (length s.a) k (sym e))
