-- Of answers in an order one is given, and no other: its cause holds, and none before it does.
-- By induction on the order.
use mathlib.Core.Path.{◌≡◌, refl}
use mathlib.Core.List.{List, ◌∷◌}
use Rattle.notation.specs.Order.{FirstOf, none, this, later}

module _ {A : Type 0} {Cause : A → Type 0} {otherwise : A} where
  pub one-given : {order : List A} {a b : A} → FirstOf Cause otherwise order a → FirstOf Cause otherwise order b → a ≡ b
  one-given none none = refl
  one-given (this c) (this d) = refl
  one-given (this c) (later n f) = absurd (n c)
  one-given (later n f) (this c) = absurd (n c)
  one-given (later n f) (later m g) = one-given f g

  -- what is given has its cause
  pub caused : {order : List A} {a : A} → FirstOf Cause otherwise order a → ¬ (otherwise ≡ a) → Cause a
  caused none d = absurd (d refl)
  caused (this c) d = c
  caused (later n f) d = caused f d

  -- what comes before it has none
  pub passed : {a b : A} {rest : List A} → FirstOf Cause otherwise (a ∷ rest) b → ¬ (a ≡ b) → (¬ Cause a) × FirstOf Cause otherwise rest b
  passed (this c) d = absurd (d refl)
  passed (later n f) d = (n, f)
