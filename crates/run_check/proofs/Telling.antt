-- A case is answered exactly where its words hold: if the words of some case always hold, and where they do it is the case that is given.
-- A case is read back from 01's answer for it.
use mathlib.Core.Path.{◌≡◌, ap, sym, subst, ◌∙◌}
use mathlib.Core.Logic.{◌↔◌}
use Rattle.notation.specs.declared.Answer.{Answer}

module _ {E : Type 0} (paper : E → Answer) (back : Answer → E) (reads-back : (e : E) → back (paper e) ≡ e) (Words : E → Type 0) where
  pub told-exactly : {given : E} → (e : E) × Words e → ((e : E) → Words e → given ≡ e) → (e : E) → (paper given ≡ paper e) ↔ Words e
  told-exactly some is e = (
    λ h. subst Words (sym (reads-back some.0) ∙ ap back (ap paper (sym (is some.0 some.1)) ∙ h) ∙ reads-back e) some.1,
    λ w. ap paper (is e w),
  )
