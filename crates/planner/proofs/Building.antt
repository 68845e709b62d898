-- The list that the stages build, and the merged one.
-- They append at most 10 ops to an empty list, so there is room, and the start width is 1 or 3.
use Prim.Native.Nat.{ℕ, ◌≤◌}
use mathlib.Core.Path.{◌≡◌, refl, ◌∙◌}
use mathlib.Core.Bool.{Bool, true, false}
use mathlib.Core.List.{List, [], ◌++◌}
use mathlib.Core.Logic.{◌⊎◌, inl, inr}
use native.Mathlib.Omega.{arith}
use lib.ListN.{length}
use Rattle.notation.specs.Choice.{when◌then◌else◌}
use Rattle.list.specs.Lists.{plan_of, appended, Lawful}
use Rattle.op.specs.declared.Op.{Op}
use Rattle.list.specs.declared.Plan.{Plan}
use Rattle.list.proofs.Building.{appended-append, appends, ops-of, plan-true}
use Rattle.list.proofs.Formed.{lawful-exactly}
use Rattle.list_merge.specs.Merge.{merge_ops, merge_of}
use Rattle.encoding.specs.Encodings.{channels_of}
use Rattle.encoding.specs.Named.{same_space}
use Rattle.encoding.specs.declared.ColourSpace.TheVariants as S
use Rattle.encoding.specs.declared.EnumColourEncoding.{EnumColourEncoding}
use Rattle.encoding.specs.declared.Settings.{Settings}
use Rattle.plan_stages.specs.Stages.{decode_ops, decoded, convert_ops, converted, tone_map_ops, pq_to_hlg_ops, curve_ops, stage_ops}
use Rattle.plan_stages.proofs.Length.{at_most_ten}

five : (p : Plan) (a b c d e : List Op) → appended (appended (appended (appended (appended p a) b) c) d) e ≡ appended p (a ++ (b ++ (c ++ (d ++ e))))
five p a b c d e =
    appended-append (appended (appended (appended p a) b) c) d e
    ∙ appended-append (appended (appended p a) b) c (d ++ e)
    ∙ appended-append (appended p a) b (c ++ (d ++ e))
    ∙ appended-append p a (b ++ (c ++ (d ++ e)))

-- one channel or three
abbrev pub wide : Bool → ℕ
wide grey = when grey then 1 else 3

pub one_or_three : (e : EnumColourEncoding) → (channels_of e ≡ 1) ⊎ (channels_of e ≡ 3)
one_or_three e = by (same_space e.colour_space S.Grey)
  where
    by : (grey : Bool) → (wide grey ≡ 1) ⊎ (wide grey ≡ 3)
    by true = inl refl
    by false = inr refl

module _ (source target : EnumColourEncoding) (settings : Settings) where
  abbrev reached : EnumColourEncoding
  reached = converted (decoded source) target

  pub in_order : appended (appended (appended (appended (appended (plan_of (channels_of source) []) (decode_ops source settings)) (convert_ops (decoded source) target)) (tone_map_ops reached target settings)) (pq_to_hlg_ops reached target settings)) (curve_ops reached target settings)
      ≡ plan_of (channels_of source) (stage_ops source target settings)
  in_order =
      five (plan_of (channels_of source) []) (decode_ops source settings) (convert_ops (decoded source) target) (tone_map_ops reached target settings) (pq_to_hlg_ops reached target settings) (curve_ops reached target settings)
      ∙ appends (channels_of source) [] (stage_ops source target settings) (one_or_three source, omega (arith, at_most_ten source target settings))

  planned : Lawful (plan_of (channels_of source) (stage_ops source target settings))
  planned =
      let few : length (stage_ops source target settings) ≤ 32 = omega (arith, at_most_ten source target settings) in
      ((one_or_three source, few), plan-true (channels_of source) (stage_ops source target settings))

  pub merged : (merge_of (plan_of (channels_of source) (stage_ops source target settings))).plan ≡ plan_of (channels_of source) (merge_ops (stage_ops source target settings))
  merged =
      rw ((lawful-exactly (plan_of (channels_of source) (stage_ops source target settings))).1 planned, ops-of (channels_of source) (stage_ops source target settings))
