-- Planning answers by the first cause in 01's order that holds, and by no other.
-- By the four tests of two enum encodings, each of which holds exactly where its words do.
use Rattle.std.specs.Prelude.{Ok, Err}
use Prim.Native.Nat.{ℕ, zero, suc}
use mathlib.Core.Path.{◌≡◌, refl, ap, sym, subst, ◌∙◌}
use mathlib.Core.Bool.{Bool, true, false}
use mathlib.Core.List.{List, []}
use mathlib.Core.Logic.{◌↔◌, ◌⊎◌, inl, inr, ⊎_elim}
use native.Mathlib.Omega.{arith}
use Rattle.notation.specs.Answers.{answer}
use Rattle.notation.specs.Order.{none, this, later}
use Rattle.notation.specs.declared.Answer.{Answer}
use Rattle.notation.proofs.Order.{one-given}
use Rattle.list.specs.Lists.{plan_of, no_list}
use Rattle.op.specs.declared.Op.{Op}
use Rattle.op.proofs.Retired.{unknown_exactly}
use Rattle.list_merge.specs.Merge.{merge_ops}
use Rattle.encoding.specs.Encodings.{channels_of}
use Rattle.encoding.specs.Equivalence.{equivalent, Equivalent}
use Rattle.encoding.specs.Ranges.{Outside}
use Rattle.encoding.specs.declared.ColourSpace.TheVariants as S
use Rattle.encoding.specs.declared.EnumColourEncoding.{EnumColourEncoding}
use Rattle.encoding.specs.declared.ColourEncoding.{ColourEncoding}
use Rattle.encoding.specs.declared.ColourEncoding.TheVariants as E
use Rattle.encoding.specs.declared.Settings.{Settings}
use Rattle.plan_stages.specs.Stages.{stage_ops}
use Rattle.encoding.proofs.SameValues.{same_space-exactly}
use Rattle.encoding.proofs.Equivalence.{equivalent-exactly}
use Rattle.encoding.proofs.OutOfRange.{outside-exactly}
use Rattle.notation.proofs.Tests.{fails_exactly, negated, both-exactly, either-exactly}
use Rattle.planner.specs.Planning.{paper, refusal, done, out_of_range, has_unknown, retired, unsupported, planned, planned_of}
use Rattle.planner.specs.Refusals.{IsIcc, Unlabelled, Lacks, Cause, Given}
use Rattle.planner.specs.Planning.{Planning}
use Rattle.planner.specs.declared.Planned.{Planned}
use Rattle.planner.specs.declared.PlanError.TheVariants.{Icc, OutOfRange, Retired, Unsupported}

numbered : (p q : Planning) → paper p ≡ paper q → p ≡ q
numbered p q e = sym (back p) ∙ ap (λ (a : Answer). by a.number) e ∙ back q
  where
    by : ℕ → Planning
    by zero = Ok tt
    by (suc zero) = Err Icc
    by (suc (suc zero)) = Err OutOfRange
    by (suc (suc (suc zero))) = Err Unsupported
    by (suc (suc (suc (suc n)))) = Err Retired

    back : (p : Planning) → by (paper p).number ≡ p
    back (Ok tt) = refl
    back (Err Icc) = refl
    back (Err OutOfRange) = refl
    back (Err Retired) = refl
    back (Err Unsupported) = refl

-- the tests of two enum encodings, in words
module _ (s t : EnumColourEncoding) where
  is-outside : (out_of_range s t ≡ true) ↔ (Outside s ⊎ Outside t)
  is-outside = either-exactly (negated (outside-exactly s)) (negated (outside-exactly t))

  is_retired : (retired s t ≡ true) ↔ (Unlabelled s ⊎ Unlabelled t)
  is_retired = either-exactly (unlabelled s) (unlabelled t)
    where
      unlabelled : (e : EnumColourEncoding) → (has_unknown e ≡ true) ↔ Unlabelled e
      unlabelled e = both-exactly (negated (fails_exactly (same_space-exactly e.colour_space S.Xyb))) (unknown_exactly e.tf)

  -- behind the tests for 2 and 15
  abbrev pub Labelled : Type 0
  Labelled = (¬ (Outside s ⊎ Outside t)) × (¬ (Unlabelled s ⊎ Unlabelled t))

  labelled : out_of_range s t ≡ false → retired s t ≡ false → Labelled
  labelled p q = ((fails_exactly is-outside).0 p, (fails_exactly is_retired).0 q)

  lacks : (unsupported s t ≡ true) ↔ Lacks s t
  lacks =
      either-exactly (same_space-exactly s.colour_space S.Unknown)
      (either-exactly (same_space-exactly t.colour_space S.Xyb) (same_space-exactly t.colour_space S.Unknown))

  not-icc : ¬ IsIcc (E.Enum s) (E.Enum t)
  not-icc = ⊎_elim (λ e. let z : ◌≡◌ {A = ℕ} 0 1 = cc in omega arith) (λ e. let z : ◌≡◌ {A = ℕ} 0 1 = cc in omega arith)

-- the five answers to two enum encodings, and when each is given
module _ (s t : EnumColourEncoding) (settings : Settings) where
  pub data Sorted : Planned → Type 0 where
    outside : Outside s ⊎ Outside t → Sorted (refusal (Err OutOfRange))
    unlabelled : ¬ (Outside s ⊎ Outside t) → Unlabelled s ⊎ Unlabelled t → Sorted (refusal (Err Retired))
    same : Labelled s t → Equivalent s t → Sorted (done (channels_of s) [])
    lacking : Labelled s t → ¬ Equivalent s t → Lacks s t → Sorted (refusal (Err Unsupported))
    made : Labelled s t → ¬ Equivalent s t → ¬ Lacks s t → Sorted (done (channels_of s) (merge_ops (stage_ops s t settings)))

  pub sorted : Sorted (planned s t settings)
  sorted = by (out_of_range s t) (retired s t) (equivalent s t) (unsupported s t) refl refl refl refl
    where
      by : (o w e u : Bool) → out_of_range s t ≡ o → retired s t ≡ w → equivalent s t ≡ e → unsupported s t ≡ u → Sorted (planned s t settings)
      by true w e u p h q r = rw p (outside ((is-outside s t).0 p))
      by false true e u p h q r = rw (p, h) (unlabelled ((fails_exactly (is-outside s t)).0 p) ((is_retired s t).0 h))
      by false false true u p h q r = rw (p, h, q) (same (labelled s t p h) ((equivalent-exactly s t).0 q))
      by false false false true p h q r = rw (p, h, q, r) (lacking (labelled s t p h) ((fails_exactly (equivalent-exactly s t)).0 q) ((lacks s t).0 r))
      by false false false false p h q r = rw (p, h, q, r) (made (labelled s t p h) ((fails_exactly (equivalent-exactly s t)).0 q) ((fails_exactly (lacks s t)).0 r))

-- what is told of a plan for these sides: why it is given; the empty list with width 0 where it is refused; merged ops in any case
pub record Told (source target : ColourEncoding) (p : Planned) : Type 0 where
  pub given : Given source target p.answer
  pub empty : ¬ (paper p.answer ≡ answer 0 0 0) → p.plan ≡ no_list
  pub start : ℕ
  pub ops : List Op
  pub merged : p.plan ≡ plan_of start (merge_ops ops)

refused : {source target : ColourEncoding} {a : Planning} → Given source target a → Told source target (refusal a)
refused g = record { given = g; empty = λ n. refl; start = 0; ops = []; merged = refl }

told_of-enums : (s t : EnumColourEncoding) (settings : Settings) {p : Planned} → Sorted s t settings p → Told (E.Enum s) (E.Enum t) p
told_of-enums s t settings (outside o) = refused (later (not-icc s t) (this o))
told_of-enums s t settings (unlabelled i u) = refused (later (not-icc s t) (later i (this u)))
told_of-enums s t settings (lacking i d l) = refused (later (not-icc s t) (later i.0 (later i.1 (this (d, l)))))
told_of-enums s t settings (same i e) =
    let n : ¬ Cause (E.Enum s) (E.Enum t) (Err Unsupported) = λ h. h.0 e in
    record { given = later (not-icc s t) (later i.0 (later i.1 (later n none))); empty = λ n. absurd (n refl); start = channels_of s; ops = []; merged = refl }
told_of-enums s t settings (made i d l) =
    let n : ¬ Cause (E.Enum s) (E.Enum t) (Err Unsupported) = λ h. l h.1 in
    record { given = later (not-icc s t) (later i.0 (later i.1 (later n none))); empty = λ n. absurd (n refl); start = channels_of s; ops = stage_ops s t settings; merged = refl }

pub told : (source target : ColourEncoding) (settings : Settings) → Told source target (planned_of source target settings)
told E.IccProfile target settings = refused (this (inl refl))
told (E.Enum s) E.IccProfile settings = refused (this (inr refl))
told (E.Enum s) (E.Enum t) settings = told_of-enums s t settings (sorted s t settings)

module _ (source target : ColourEncoding) (settings : Settings) where
  pub exactly : (p : Planning) → (paper (planned_of source target settings).answer ≡ paper p) ↔ Given source target p
  exactly p =
      let g = (told source target settings).given in
      (λ e. subst (Given source target) (numbered (planned_of source target settings).answer p e) g, λ h. ap paper (one-given g h))
