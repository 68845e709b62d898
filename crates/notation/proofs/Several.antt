-- The test for one of several holds exactly where one of them is such; where it fails, each part of it does.
-- From the first on.
use mathlib.Core.Path.{◌≡◌, refl}
use mathlib.Core.Bool.{Bool, true, false, ◌||◌, or-true, false≢true, true≢false}
use mathlib.Core.Logic.{◌↔◌}
use mathlib.Core.List.{List, [], ◌∷◌}
use Rattle.notation.specs.Several.{any, Some, this, later}

pub any_exactly : {A : Type 0} {such : A → Bool} {Such : A → Type 0} → ((x : A) → (such x ≡ true) ↔ Such x) → (xs : List A) → (any such xs ≡ true) ↔ Some Such xs
any_exactly {A} {such} {Such} each xs = (read xs, write)
  where
    read : (xs : List A) → any such xs ≡ true → Some Such xs
    read [] e = absurd (false≢true e)
    read (x ∷ xs) e = by (such x) refl e (read xs)
      where
        by : (b : Bool) → such x ≡ b → (b || any such xs) ≡ true → (any such xs ≡ true → Some Such xs) → Some Such (x ∷ xs)
        by true h e rest = this ((each x).0 h)
        by false h e rest = later (rest e)

    write : {xs : List A} → Some Such xs → any such xs ≡ true
    write (this {x} s) = rw ((each x).1 s)
    write (later {x} s) = rw (write s) (or-true (such x))

-- neither of two tests
pub neither : (a b : Bool) → (a || b) ≡ false → (a ≡ false) × (b ≡ false)
neither true b e = absurd (true≢false e)
neither false b e = (refl, e)
