-- `side_at` is an encoding's fourteen numbers.
-- Place by place.
use Rattle.std.proofs.Common.{◌≡◌, ℕ, ◌+◌, ◌<◌, ◌≤◌, List, length, get_or, take, drop, Option, None, pos, sym, ap, ◌∙◌, arith, rules, length-drop, length-take-le, get_or-drop, get_or-take}
use Rattle.std.proofs.lemmas.List.{ext_get_or, get_or-map, length-map}
use Rattle.plan_words.specs.Decimal.{signed}
use Rattle.plan_words.specs.Wanted.{given, side_at, unset}
use Rattle.plan_words.proofs.FromFn.{value_at}
use Rattle.plan_words.proofs.wanted.side_at.Goals as goal

module _ (from : ℕ) (ns : List (Option ℕ)) (h : from ≤ 14) (e : length ns ≡ 33) where
  long : length (take 14 (drop from ns)) ≡ 14
  long = let l : 14 ≤ length (drop from ns) = rw length-drop (omega arith) in length-take-le 14 (drop from ns) l

  fourteen : length (side_at from ns) ≡ 14
  fourteen = length-map (take 14 (drop from ns)) (λ (n : Option ℕ). signed (given n unset)) ∙ long

  at_place : (i : ℕ) → i < 14 → get_or (side_at from ns) i (pos 0) ≡ signed (given (get_or ns (from + i) None) unset)
  at_place i k =
      get_or-map (λ (n : Option ℕ). signed (given n unset)) (take 14 (drop from ns)) i None (pos 0) (rw long k)
      ∙ ap (λ (n : Option ℕ). signed (given n unset)) (get_or-take 14 (drop from ns) i None k ∙ get_or-drop from ns i None)

pub returns : goal.returns
returns c =
    let from = c.args.from in
    let ns = c.args.m.numbers in
    let e : length ns ≡ 33 = search rules in
    let items = c.from_fn.ensures.items in
    ext_get_or (pos 0) _ _ (items.long ∙ sym (fourteen from ns c.requires e))
    (λ k h. let b : k < 14 = omega (arith, items.long) in
    value_at _ _ (λ (i : ℕ). signed (given (get_or ns (from + i) None) unset)) (λ i y q w. search rules) c.from_fn.result 14 k (pos 0) items b
    ∙ sym (at_place from ns c.requires e k b))
