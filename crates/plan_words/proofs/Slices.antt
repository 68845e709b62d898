-- The bytes from one place up to another: none up to the same place, one more up to the next, and how many there are.
-- By the kit's laws of `take` and `drop`.
use Rattle.std.proofs.Common.{◌≡◌, ℕ, suc, ◌+◌, ◌-◌, ◌<◌, ◌≤◌, List, [], ◌∷◌, ◌++◌, length, get_or, take, drop, ap, arith, length-drop, length-take-le, get_or-drop, take-suc}
use Rattle.plan_words.specs.Filling.{slice}

pub none : (start end : ℕ) (s : List ℕ) → end ≤ start → slice start end s ≡ []
none start end s h = let e : end - start ≡ 0 = omega arith in ap (λ (n : ℕ). take n (drop start s)) e

module _ (start end : ℕ) (s : List ℕ) (h : start ≤ end) where
  pub one_more : end < length s → slice start (end + 1) s ≡ slice start end s ++ (get_or s end 0 ∷ [])
  one_more k =
      let e : end + 1 - start ≡ suc (end - start) = omega arith in
      let f : start + (end - start) ≡ end = omega arith in
      let l : end - start < length (drop start s) = rw length-drop (omega arith) in
      rw (e, take-suc (drop start s) (end - start) 0 l, get_or-drop start s (end - start) 0, f)

  pub how_many : end ≤ length s → length (slice start end s) ≡ end - start
  how_many k = let l : end - start ≤ length (drop start s) = rw length-drop (omega arith) in length-take-le (end - start) (drop start s) l
