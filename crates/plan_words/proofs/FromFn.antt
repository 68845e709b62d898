-- An array of a function of the place has that function's value at each place.
-- Each call leaves the function as it was; by induction on how many there are.
use Rattle.std.proofs.Common.{◌≡◌, ℕ, zero, suc, ◌+◌, ◌<◌, ◌≤◌, List, get_or, subst, ◌∙◌, arith, inl, inr}
use Rattle.std.specs.Array.{IsFromFnResult, IsFromFnResultFrom}
use Rattle.std.specs.Fn.{Called}
use denote.Param.Members.{Mut}
use Rattle.std.proofs.lemmas.Bool.{cases_eq}

module _ {F B : Type 0} (g : Mut F (ℕ × Unit {0}) B) (s : F) (f : ℕ → B) (once : (i : ℕ) (y : B) (q : F) → Called g s (i, tt) y q → (q ≡ s) × (y ≡ f i)) where
  from : (ys : List B) (n i k : ℕ) (d : B) → IsFromFnResultFrom g s ys i n → i ≤ k → k < i + n → get_or ys k d ≡ f k
  from ys zero i k d h a b = absurd (omega arith)
  from ys (suc n) i k d (q, y, e, c, h) a b =
      let o : (q ≡ s) × (y ≡ f i) = once i y q c in
      elim (cases_eq k i) [ inl p ↦ rw p (e.1 d ∙ o.1) | inr p ↦ from ys n (i + 1) k d (subst (λ (x : F). IsFromFnResultFrom g x ys (i + 1) n) o.0 h) (omega arith) (omega arith) ]

  pub value_at : (ys : List B) (n k : ℕ) (d : B) → IsFromFnResult g s ys n → k < n → get_or ys k d ≡ f k
  value_at ys n k d h b = from ys n 0 k d h.each (omega arith) (omega arith)
