-- The test `well_formed` holds exactly for a start width of 1 or 3 and a count of at most 32, and `lawful` where the end width is true besides.
-- By the cases of their comparisons.
use Prim.Native.Nat.{ℕ, ◌≤◌}
use mathlib.Core.Path.{◌≡◌, refl, sym, ◌∙◌}
use mathlib.Core.Bool.{Bool, true, false, ◌&&◌, ◌||◌, and-false, false≢true, true≢false}
use mathlib.Core.Logic.{◌↔◌, inl, inr, ⊎_elim}
use lib.Dec.{eqb, leb}
use borrow.Author.Tests.{eq-eqb, ne_eqb, eqb-true, eqb-false, le-leb, lt-leb, leb-true, leb-false}
use Rattle.list.specs.Lists.{ops_of, well_formed, Formed, Unformed, end_of, is_true, True, lawful, Lawful, Unlawful}
use Rattle.list.specs.declared.Plan.{Plan}

module _ (s n : ℕ) where
  pub formed-exactly : (well_formed s n ≡ true) ↔ Formed s n
  formed-exactly = (
    read (eqb s 1) (eqb s 3) (leb n 32) refl refl refl,
    λ l. ⊎_elim (λ e. rw (eq-eqb s 1 e, le-leb n 32 l.1)) (λ e. three e l.1) l.0,
  )
    where
      read : (a b c : Bool) → eqb s 1 ≡ a → eqb s 3 ≡ b → leb n 32 ≡ c → ((a || b) && c) ≡ true → Formed s n
      read true b true p q r e = (inl (eqb-true s 1 p), leb-true n 32 r)
      read true b false p q r e = absurd (false≢true e)
      read false true true p q r e = (inr (eqb-true s 3 q), leb-true n 32 r)
      read false true false p q r e = absurd (false≢true e)
      read false false c p q r e = absurd (false≢true e)

      three : s ≡ 3 → n ≤ 32 → well_formed s n ≡ true
      three e h = rw (e, le-leb n 32 h)

  pub unformed-exactly : (well_formed s n ≡ false) ↔ Unformed s n
  unformed-exactly = (
    read (eqb s 1) (eqb s 3) (leb n 32) refl refl refl,
    ⊎_elim (λ h. rw (ne_eqb s 1 (λ e. h (inl e)), ne_eqb s 3 (λ e. h (inr e)))) (λ h. rw (lt-leb n 32 h) (and-false (eqb s 1 || eqb s 3))),
  )
    where
      read : (a b c : Bool) → eqb s 1 ≡ a → eqb s 3 ≡ b → leb n 32 ≡ c → ((a || b) && c) ≡ false → Unformed s n
      read a b false p q r e = inr (leb-false n 32 r)
      read true b true p q r e = absurd (true≢false e)
      read false true true p q r e = absurd (true≢false e)
      read false false true p q r e = inl (⊎_elim (eqb-false s 1 p) (eqb-false s 3 q))

  pub not-both : Formed s n → ¬ Unformed s n
  not-both l u = true≢false (sym (formed-exactly.1 l) ∙ unformed-exactly.1 u)

module _ (p : Plan) where
  pub true-exactly : (is_true p ≡ true) ↔ True p
  unfolding is_true
  true-exactly = (eqb-true p.end (end_of p.start p.count (ops_of p)), eq-eqb p.end (end_of p.start p.count (ops_of p)))

  pub false-exactly : (is_true p ≡ false) ↔ (¬ True p)
  unfolding is_true
  false-exactly = (eqb-false p.end (end_of p.start p.count (ops_of p)), ne_eqb p.end (end_of p.start p.count (ops_of p)))

  pub lawful-exactly : (lawful p ≡ true) ↔ Lawful p
  lawful-exactly = (
    read (well_formed p.start p.count) (is_true p) refl refl,
    λ l. rw ((formed-exactly p.start p.count).1 l.0, true-exactly.1 l.1),
  )
    where
      read : (a b : Bool) → well_formed p.start p.count ≡ a → is_true p ≡ b → (a && b) ≡ true → Lawful p
      read true true f t e = ((formed-exactly p.start p.count).0 f, true-exactly.0 t)
      read true false f t e = absurd (false≢true e)
      read false b f t e = absurd (false≢true e)

  pub unlawful-exactly : (lawful p ≡ false) ↔ Unlawful p
  unlawful-exactly = (
    read (well_formed p.start p.count) (is_true p) refl refl,
    ⊎_elim (λ u. rw ((unformed-exactly p.start p.count).1 u)) (λ n. rw (false-exactly.1 n) (and-false (well_formed p.start p.count))),
  )
    where
      read : (a b : Bool) → well_formed p.start p.count ≡ a → is_true p ≡ b → (a && b) ≡ false → Unlawful p
      read true true f t e = absurd (true≢false e)
      read true false f t e = inr (false-exactly.0 t)
      read false b f t e = inl ((unformed-exactly p.start p.count).0 f)

  pub never_both : Lawful p → ¬ Unlawful p
  never_both l = ⊎_elim (not-both p.start p.count l.0) (λ n. n l.1)
