-- What is done to each place of equally long channels is done to joined ones as to each by itself; and joined they are equally long.
-- By induction on the first channel.
use mathlib.Core.Path.{◌≡◌, ap, refl}
use mathlib.Core.List.{List, [], ◌∷◌, ◌++◌, map, map-append}
use native.Mathlib.Nat.{suc_inj}
use native.Mathlib.Omega.{arith}
use lib.ListN.{length, length-append}
use Rattle.ciexyz.specs.declared.Vec3.{Vec3}
use Rattle.channels.specs.Channels.{Channels, EquallyLong, each, triples, v0_of, v1_of, v2_of, vec, zip3}
use Rattle.channels.specs.Joined.{join}

pub rows_join : {A R : Type 0} (row : A → A → A → R) (x y z x' y' z' : List A) → length y ≡ length x → length z ≡ length x
    → zip3 row (x ++ x') (y ++ y') (z ++ z') ≡ zip3 row x y z ++ zip3 row x' y' z'
rows_join row [] [] [] x' y' z' e f = refl
rows_join row (a ∷ x) (b ∷ y) (c ∷ z) x' y' z' e f = ap (λ (rs : List _). row a b c ∷ rs) (rows_join row x y z x' y' z' (suc_inj e) (suc_inj f))
rows_join row [] (b ∷ y) z x' y' z' e f = absurd (omega arith)
rows_join row [] [] (c ∷ z) x' y' z' e f = absurd (omega arith)
rows_join row (a ∷ x) [] z x' y' z' e f = absurd (omega arith)
rows_join row (a ∷ x) (b ∷ y) [] x' y' z' e f = absurd (omega arith)

pub each-joins : (f : Vec3 → Vec3) (s t : Channels) → EquallyLong s → each f (join s t) ≡ join (each f s) (each f t)
each-joins f s t e =
    let on-s = map f (triples s.a s.b s.c) in
    let on-t = map f (triples t.a t.b t.c) in
    rw (rows_join vec s.a s.b s.c t.a t.b t.c e.0 e.1, map-append f (triples s.a s.b s.c) (triples t.a t.b t.c), map-append v0_of on-s on-t, map-append v1_of on-s on-t, map-append v2_of on-s on-t)

pub join-even : (s t : Channels) → EquallyLong s → EquallyLong t → EquallyLong (join s t)
join-even s t e f =
    let l = length-append s.a t.a in
    (omega (arith, e.0, f.0, l, length-append s.b t.b), omega (arith, e.1, f.1, l, length-append s.c t.c))
