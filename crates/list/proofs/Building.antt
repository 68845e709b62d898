-- What is appended to a list makes one list with it, or none where 10 refuses it; appending in parts is appending the whole.
-- By the test of the list and of the longer one. None stays none, since 0 is no start width.
use Prim.Native.Nat.{ℕ, suc, ◌+◌, ◌-◌, ◌≤◌, ◌<◌}
use mathlib.Core.Path.{◌≡◌, refl, ap, sym, ◌∙◌}
use mathlib.Core.Bool.{Bool, true, false, and-true}
use mathlib.Core.List.{List, [], ◌∷◌, ◌++◌, map, append_assoc, append-nil, map-append}
use mathlib.Core.Logic.{inl, inr, ⊎_elim}
use native.Mathlib.Omega.{arith}
use lib.ListN.{length, set, take, drop, replicate, length-append, length-map, length-replicate, length-take, replicate-append-replicate}
use lib.Seq.{drop_at, length-take-le, set_at, take_at}
use Rattle.notation.specs.Choice.{when◌then◌else◌}
use Rattle.op.specs.declared.Op.{Op}
use Rattle.op.specs.declared.Op.TheVariants as O
use Rattle.list.specs.Ends.{end_from}
use Rattle.list.specs.Lists.{op_of, ops_of, slot, plan_of, well_formed, Formed, end_of, is_true, True, lawful, no_list, list_of, appended}
use Rattle.list.specs.declared.Slot.{Slot}
use Rattle.list.specs.declared.Plan.{Plan}
use Rattle.list.proofs.Ending.{goes_on}
use Rattle.list.proofs.Formed.{formed-exactly, unformed-exactly, true-exactly, lawful-exactly}

-- the ops of the list of some ops are these
pub ops-of : (s : ℕ) (os : List Op) → ops_of (plan_of s os) ≡ os
ops-of s os = ap (map op_of) (take_at (map slot os) (replicate (32 - length os) (slot O.Clip)) (length os) (length-map os slot)) ∙ unslot os
  where
    unslot : (os : List Op) → map op_of (map slot os) ≡ os
    unslot [] = refl
    unslot (o ∷ os) = ap (λ (l : List Op). o ∷ l) (unslot os)

-- and its end width is true
pub plan-true : (s : ℕ) (os : List Op) → True (plan_of s os)
plan-true s os = ap (end_of s (length os)) (sym (ops-of s os))

pub is_true_lem : (s : ℕ) (os : List Op) → is_true (plan_of s os) ≡ true
is_true_lem s os = (true-exactly (plan_of s os)).1 (plan-true s os)

module _ (s : ℕ) (os bs : List Op) where
  append-planned : appended (plan_of s os) bs ≡ (when well_formed s (length os) then list_of s (os ++ bs) else no_list)
  unfolding appended
  append-planned = rw (is_true_lem s os, and-true (well_formed s (length os)), ops-of s os)

  -- where there is room
  pub appends : Formed s (length os + length bs) → appended (plan_of s os) bs ≡ plan_of s (os ++ bs)
  appends l =
      let h = l.1 in
      let a = (formed-exactly s (length os)).1 (l.0, omega arith) in
      let b = (formed-exactly s (length (os ++ bs))).1 (l.0, omega (arith, length-append os bs)) in
      append-planned ∙ rw (a, b)

longer_refused : (s n m : ℕ) → well_formed s n ≡ false → n ≤ m → well_formed s m ≡ false
longer_refused s n m e h = (unformed-exactly s m).1 (⊎_elim inl (λ k. inr (omega arith)) ((unformed-exactly s n).0 e))

pub appended-append : (p : Plan) (os bs : List Op) → appended (appended p os) bs ≡ appended p (os ++ bs)
unfolding appended
appended-append p os bs = by (lawful p) (well_formed p.start (length (ops_of p ++ os))) refl refl
  where
    by : (b c : Bool) → lawful p ≡ b → well_formed p.start (length (ops_of p ++ os)) ≡ c → appended (appended p os) bs ≡ appended p (os ++ bs)
    by true true e f =
        let planned : appended p os ≡ plan_of p.start (ops_of p ++ os) = rw (e, f) in
        ap (λ (q : Plan). appended q bs) planned ∙ append-planned p.start (ops_of p ++ os) bs ∙ rw (e, f, append_assoc (ops_of p) os bs)
    by true false e f =
        let g = longer_refused p.start (length (ops_of p ++ os)) (length (ops_of p ++ (os ++ bs))) f (omega (arith, length-append (ops_of p) os, length-append (ops_of p) (os ++ bs), length-append os bs)) in
        rw (e, f, g)
    by false c e f = rw e

-- ---- the steps of `kept` and `push`

module _ (p : Plan) where
  pub refused : lawful p ≡ false → (os : List Op) → no_list ≡ appended p os
  unfolding appended
  refused e os = rw e

  pub few : lawful p ≡ true → length (ops_of p) ≤ p.count
  few e = omega (arith, length-map (take p.count p.ops) op_of, length-take p.count p.ops)

  pub counted : length p.ops ≡ 32 → p.count ≤ 32 → length (ops_of p) ≡ p.count
  counted k h = length-map (take p.count p.ops) op_of ∙ length-take-le p.count p.ops (omega arith)

  pub as-it-is : lawful p ≡ true → plan_of p.start (ops_of p) ≡ appended p []
  unfolding appended
  as-it-is e =
      let l = ((lawful-exactly p).0 e).0 in
      let c = l.1 in
      let a = append-nil (ops_of p) in
      rw (e, a, (formed-exactly p.start (length (ops_of p))).1 (l.0, omega (arith, few e)))

  pub no_room : (o : Op) → length (ops_of p) ≡ 32 → no_list ≡ appended p (o ∷ [])
  unfolding appended
  no_room o f = by (lawful p) refl
    where
      too_long : well_formed p.start (length (ops_of p ++ (o ∷ []))) ≡ false
      too_long = (unformed-exactly p.start (length (ops_of p ++ (o ∷ [])))).1 (inr (omega (arith, length-append (ops_of p) (o ∷ []))))

      by : (b : Bool) → lawful p ≡ b → no_list ≡ appended p (o ∷ [])
      by true e = rw (e, too_long)
      by false e = rw e

-- the slots up to the count, with Clip behind them
unslotted : (ss : List Slot) → map slot (map op_of ss) ≡ ss
unslotted [] = refl
unslotted (s ∷ ss) = ap (λ (l : List Slot). s ∷ l) (unslotted ss)

plan-eq : (s n n' v v' : ℕ) (l l' : List Slot) → n ≡ n' → v ≡ v' → l ≡ l'
    → ◌≡◌ {A = Plan} (record { start = s; count = n; end = v; ops = l }) (record { start = s; count = n'; end = v'; ops = l' })
plan-eq s n n' v v' l l' e g f = rw (e, g, f)

repeats : (k j : ℕ) (a : Slot) → k ≡ suc j → replicate k a ≡ a ∷ replicate j a
repeats k j a e = rw e

-- what is behind n slots of an empty list
clips : (n : ℕ) → n ≤ 32 → drop n (replicate 32 (slot O.Clip)) ≡ replicate (32 - n) (slot O.Clip)
clips n h =
    let c = slot O.Clip in
    let e : n + (32 - n) ≡ 32 = omega arith in
    ap (drop n) (sym (replicate-append-replicate n (32 - n) c ∙ ap (λ (m : ℕ). replicate m c) e)) ∙ drop_at (replicate n c) (replicate (32 - n) c) n (length-replicate n c)

pub filled : (s : ℕ) (ss l : List Slot) → length ss ≤ 32 → l ≡ ss ++ drop (length ss) (replicate 32 (slot O.Clip)) → (v : ℕ) → v ≡ end_of s (length ss) (map op_of ss)
    → ◌≡◌ {A = Plan} (record { start = s; count = length ss; end = v; ops = l }) (plan_of s (map op_of ss))
filled s ss l h f v g =
    let os = map op_of ss in
    let c : length os ≡ length ss = length-map ss op_of in
    plan-eq s _ _ _ _ _ _ (sym c) (g ∙ ap (λ (k : ℕ). end_of s k os) (sym c)) (f ∙ rw (c, unslotted ss, clips (length ss) h))

-- a slot written behind them, and the end width that its op leads to
pub one_more : (s : ℕ) (os : List Op) (o : Op) (n v : ℕ) → length os ≡ n → n < 32 → v ≡ end_of s (n + 1) (os ++ (o ∷ []))
    → ◌≡◌ {A = Plan} (record { start = s; count = n + 1; end = v; ops = set (plan_of s os).ops n (slot o) }) (plan_of s (os ++ (o ∷ [])))
one_more s os o n v g h w =
    let j = 32 - (n + 1) in
    let e : 32 - length os ≡ suc j = omega arith in
    let f : length (os ++ (o ∷ [])) ≡ n + 1 = length-append os (o ∷ []) ∙ ap (λ (k : ℕ). k + 1) g in
    plan-eq s _ _ _ _ _ _ (sym f) (w ∙ ap (λ (k : ℕ). end_of s k (os ++ (o ∷ []))) (sym f))
    (ap (λ (l : List Slot). set (map slot os ++ l) n (slot o)) (repeats (32 - length os) j (slot O.Clip) e)
    ∙ set_at (map slot os) (slot O.Clip) (replicate j (slot O.Clip)) (slot o) n (length-map os slot ∙ g)
    ∙ sym (ap (λ (k : ℕ). map slot (os ++ (o ∷ [])) ++ replicate (32 - k) (slot O.Clip)) f
    ∙ ap (λ (l : List Slot). l ++ replicate j (slot O.Clip)) (map-append slot os (o ∷ []))
    ∙ append_assoc (map slot os) (slot o ∷ []) (replicate j (slot O.Clip))))

-- the end width of a list with room and one op more follows from its own
pub next-end : (p : Plan) (o : Op) → lawful p ≡ true → p.count < 32 → end_from p.end (o ∷ []) ≡ end_of p.start (p.count + 1) (ops_of p ++ (o ∷ []))
next-end p o e h =
    let l = (lawful-exactly p).0 e in
    ap (λ (w : ℕ). end_from w (o ∷ [])) (l.1 ∙ rw ((formed-exactly p.start p.count).1 l.0))
    ∙ sym (goes_on (ops_of p) (o ∷ []) p.start)
    ∙ rw ((formed-exactly p.start (p.count + 1)).1 (l.0.0, omega arith))

-- a list with room, and one op more
pub pushes : (p : Plan) (o : Op) → lawful p ≡ true → length (ops_of p) < 32 → plan_of p.start (ops_of p ++ (o ∷ [])) ≡ appended p (o ∷ [])
unfolding appended
pushes p o e h =
    let l = ((lawful-exactly p).0 e).0 in
    rw (e, (formed-exactly p.start (length (ops_of p ++ (o ∷ [])))).1 (l.0, omega (arith, length-append (ops_of p) (o ∷ []))))
