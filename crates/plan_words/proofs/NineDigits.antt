-- A number that is read digit by digit has at most nine of them.
-- Each digit is taken only where the number stays so small.
use Rattle.std.proofs.Common.{◌≡◌, ℕ, ◌+◌, ◌-◌, ◌*◌, ◌≤◌, Bool, true, false, ltb, List, [], ◌∷◌, None, Some, refl, arith, ltb-false}
use Rattle.std.proofs.lemmas.Option.{none-some}
use Rattle.notation.specs.Choice.{when◌then◌else◌}
use Rattle.plan_words.specs.Decimal.{digits, digits_from}

from : (s : List ℕ) (n k : ℕ) → n ≤ 999_999_999 → digits_from n s ≡ Some k → k ≤ 999_999_999
from [] n k h e = let q : n ≡ k = cc in omega arith
from (c ∷ s) n k h e = by (ltb c 48) (ltb 57 c) (ltb 999_999_999 (10 * n + (c - 48))) refl (λ h. from s (10 * n + (c - 48)) k h) e
  where
    by : (a b t : Bool) → ltb 999_999_999 (10 * n + (c - 48)) ≡ t
        → (10 * n + (c - 48) ≤ 999_999_999 → digits_from (10 * n + (c - 48)) s ≡ Some k → k ≤ 999_999_999)
        → (when a then None else when b then None else when t then None else digits_from (10 * n + (c - 48)) s) ≡ Some k → k ≤ 999_999_999
    by true b t q f e = absurd (none-some k e)
    by false true t q f e = absurd (none-some k e)
    by false false true q f e = absurd (none-some k e)
    by false false false q f e = f (ltb-false _ _ q) e

pub nine_at_most : (s : List ℕ) (k : ℕ) → digits s ≡ Some k → k ≤ 999_999_999
nine_at_most [] k e = absurd (none-some k e)
nine_at_most (c ∷ s) k e = from (c ∷ s) 0 k (omega arith) e
