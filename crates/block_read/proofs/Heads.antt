-- A good head is good in another slice with the same bytes of it, and an op stands in another with the same payload.
-- By the laws of `take` and `drop`.
use Prim.Native.Nat.{ℕ, zero, suc, ◌-◌, ◌≤◌, ◌<◌}
use mathlib.Core.Path.{◌≡◌, sym, ap, subst, ◌∙◌}
use mathlib.Core.List.{List, [], ◌∷◌}
use native.Mathlib.Omega.{arith}
use lib.ListN.{length, take, drop, length-take}
use lib.Seq.{take-take, get_or-take, take-nil}
use Rattle.op.specs.declared.Op.{Op}
use Rattle.block_read.specs.Fields.{byte_at, payload_of, op_read}
use Rattle.op_fields.specs.Layouts.{layout_of}
use Rattle.block_read.specs.Block.{version_of, head_of}
use Rattle.block_read.specs.Refusals.{SomeBad, Stands, stands, Known, RightMark, GoodHead, FalseEnd}
use Rattle.block_read.proofs.Versions.{head-within, eight}

pub drop-take : (p k : ℕ) (s : List ℕ) → drop p (take k s) ≡ take (k - p) (drop p s)
drop-take zero k s = let e : k - 0 ≡ k = omega arith in rw e
drop-take (suc p) zero s = let e : 0 - suc p ≡ 0 = omega arith in rw e
drop-take (suc p) (suc k) [] = sym (take-nil (suc k - suc p))
drop-take (suc p) (suc k) (x ∷ s) = let e : suc k - suc p ≡ k - p = omega arith in rw e (drop-take p k s)

-- the same h bytes
module _ (h : ℕ) (s t : List ℕ) (e : take h t ≡ take h s) where
  pub same_byte : (i : ℕ) → i < h → byte_at t i ≡ byte_at s i
  same_byte i l = sym (get_or-take h t i 0 l) ∙ ap (λ (l : List ℕ). byte_at l i) e ∙ get_or-take h s i 0 l

  pub reaches : h ≤ length s → h ≤ length t
  reaches l = omega (arith, ap length e, length-take h s, length-take h t)

  -- the mark and the version among them
  module _ (seven : 7 ≤ h) where
    pub same_version : version_of t ≡ version_of s
    same_version = rw (same_byte 3 (omega arith), same_byte 4 (omega arith))

    pub same-mark : RightMark s → RightMark t
    same-mark m = (sym (take-take 3 h t (omega arith)) ∙ ap (take 3) e ∙ take-take 3 h s (omega arith) ∙ m.0, subst Known (sym same_version) m.1)

-- the same head, with the end width where one is told
module _ (s t : List ℕ) (e : take (head_of (version_of s)) t ≡ take (head_of (version_of s)) s) where
  seven : 7 ≤ head_of (version_of s)
  seven = (head-within (version_of s)).0

  pub head_byte : (i : ℕ) → i < 7 → byte_at t i ≡ byte_at s i
  head_byte i l = same_byte (head_of (version_of s)) s t e i (omega (arith, seven))

  pub head-version : version_of t ≡ version_of s
  head-version = same_version (head_of (version_of s)) s t e seven

  pub same_head : GoodHead s → GoodHead t
  same_head g =
      let r = reaches (head_of (version_of s)) s t e g.all in
      record {
        whole = omega (arith, seven);
        mark = same-mark (head_of (version_of s)) s t e seven g.mark;
        all = subst (λ (v : ℕ). head_of v ≤ length t) (sym head-version) r;
        formed = rw (head_byte 5 (omega arith), head_byte 6 (omega arith)) g.formed;
      }

  pub same_end : (os : List Op) → FalseEnd t os → FalseEnd s os
  same_end os f =
      let v = sym head-version ∙ f.0 in
      let last : 7 < head_of (version_of s) = omega (arith, eight (version_of s) v) in
      (v, λ q. f.1 (rw (same_byte (head_of (version_of s)) s t e 7 last, head_byte 5 (omega arith), head_byte 6 (omega arith)) q))

module _ (kind : ℕ) (s t : List ℕ) (e : take (payload_of kind) t ≡ take (payload_of kind) s) where
  pub same_op : kind ≤ 9 → payload_of kind ≤ length s → ¬ SomeBad (layout_of kind) (take (payload_of kind) s) → Stands (kind ∷ t) (op_read kind (take (payload_of kind) s)) (suc (payload_of kind))
  same_op k h n = subst (λ (l : List ℕ). Stands (kind ∷ t) (op_read kind l) (suc (payload_of kind))) e (stands k room (λ b. n (subst (SomeBad (layout_of kind)) e b)))
    where
      room : payload_of kind ≤ length t
      room = omega (arith, h, ap length e, length-take (payload_of kind) s, length-take (payload_of kind) t)
