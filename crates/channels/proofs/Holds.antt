-- Where a test made of two by `&` holds, each of them does.
-- By `both-exactly`.
use mathlib.Core.Path.{◌≡◌}
use mathlib.Core.Bool.{Bool, ◌&&◌, true}
use Rattle.notation.proofs.Tests.{both-exactly}

pub both_hold : (a b : Bool) → (a && b) ≡ true → (a ≡ true) × (b ≡ true)
both_hold a b e = (both-exactly {a = a} {b = b} (λ e. e, λ e. e) (λ e. e, λ e. e)).0 e
