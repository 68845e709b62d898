-- An op and its bytes, both ways; then several.
-- Its kind says the fields, and by these (Values) its values are read and written; then by induction over the ops.
use Prim.Native.Nat.{ℕ, zero, suc, ◌+◌, ◌≤◌}
use mathlib.Core.Path.{◌≡◌, refl, ap, sym, subst, ◌∙◌}
use mathlib.Core.Bool.{Bool, true, false, ◌||◌, false≢true}
use mathlib.Core.List.{List, [], ◌∷◌, ◌++◌, map, append_assoc, append-nil}
use native.Mathlib.Omega.{arith}
use lib.ListN.{length, take, drop, length-append, length-take}
use lib.Seq.{take_at, drop_at, take-add, take-take}
use Rattle.notation.proofs.Tests.{fails_exactly}
use Rattle.notation.specs.Several.{any}
use Rattle.notation.proofs.Several.{neither}
use Rattle.op.specs.declared.Op.{Op}
use Rattle.op_fields.specs.Layouts.{Field, layout_of}
use Rattle.op_fields.specs.Parts.{kind_of, values_of, op_by, field_of}
use Rattle.op_fields.proofs.Back.{known_kind, shape, op-back, kind_back, values_back}
use Rattle.block_read.specs.Fields.{payload_of, values_in, op_read}
use Rattle.block_read.specs.BadFields.{any_bad}
use Rattle.block_read.specs.Refusals.{Unreadable, field_is_bad, Stands, stands, AllStand, none, more, Met}
use Rattle.block_read.proofs.Badness.{bad_exactly}
use Rattle.block_read.proofs.Ways.{met_first, met_later}
use Rattle.block_write.specs.Bytes.{value_bytes, joined, op_bytes, ops_size}
use Rattle.block_write.specs.Writing.{bad_op}
use Rattle.block_write.proofs.Lengths.{payload-is}
use Rattle.theorem_roundtrip.specs.Typed.{All, OpHeld, AreBytes}
use Rattle.theorem_roundtrip.proofs.Values.{values-read, values-bad, values_shape, values_written, values_good, bytes_drop}

-- what is written of an op is read
module _ (o : Op) (h : OpHeld o) where
  abbrev payload : List ℕ
  payload = joined value_bytes (values_of o)

  payload-read : op_read (kind_of o) payload ≡ o
  unfolding op_read
  payload-read =
      let e : values_in (map field_of (values_of o)) payload ≡ values_of o
      = ap (values_in (map field_of (values_of o))) (sym (append-nil payload)) ∙ values-read [] (values_of o) h in
      ap (λ (fs : List Field). op_by (kind_of o) (values_in fs payload)) (sym (shape o)) ∙ ap (op_by (kind_of o)) e ∙ op-back o

  payload-bad : any_bad (layout_of (kind_of o)) payload ≡ bad_op o
  payload-bad =
      ap (λ (fs : List Field). any_bad fs payload) (sym (shape o))
      ∙ ap (any_bad (map field_of (values_of o))) (sym (append-nil payload))
      ∙ values-bad [] (values_of o) h

  module _ (t : List ℕ) where
    long : payload_of (kind_of o) ≤ length (payload ++ t)
    long = omega (arith, payload-is o, length-append payload t)

    front : take (payload_of (kind_of o)) (payload ++ t) ≡ payload
    front = take_at payload t (payload_of (kind_of o)) (payload-is o)

    bad-as : any_bad (layout_of (kind_of o)) (take (payload_of (kind_of o)) (payload ++ t)) ≡ bad_op o
    bad-as = rw front payload-bad

    op-stands : bad_op o ≡ false → Stands (op_bytes o ++ t) o (suc (payload_of (kind_of o)))
    op-stands e =
        subst (λ (x : Op). Stands (op_bytes o ++ t) x (suc (payload_of (kind_of o)))) (ap (op_read (kind_of o)) front ∙ payload-read)
        (stands (known_kind o) long ((fails_exactly (bad_exactly (layout_of (kind_of o)) (take (payload_of (kind_of o)) (payload ++ t)))).0 (bad-as ∙ e)))

    op-unreadable : bad_op o ≡ true → Unreadable (op_bytes o ++ t)
    op-unreadable e = field_is_bad (known_kind o) long ((bad_exactly (layout_of (kind_of o)) (take (payload_of (kind_of o)) (payload ++ t))).0 (bad-as ∙ e))

behind : (o : Op) (t : List ℕ) → drop (suc (payload_of (kind_of o))) (op_bytes o ++ t) ≡ t
behind o t = drop_at (joined value_bytes (values_of o)) t (payload_of (kind_of o)) (payload-is o)

-- of several: they stand where none is bad, and else one is met, at its turn, that is unreadable
module _ (t : List ℕ) where
  pub all-stand : (os : List Op) → All OpHeld os → any bad_op os ≡ false → AllStand (length os) (joined op_bytes os ++ t) os (ops_size os)
  all-stand [] h e = none
  all-stand (o ∷ os) h e =
      let u = joined op_bytes os ++ t in
      let n = neither (bad_op o) (any bad_op os) e in
      let z : suc (payload_of (kind_of o)) + ops_size os ≡ ops_size (o ∷ os) = omega arith in
      let r : AllStand (length os) (drop (suc (payload_of (kind_of o))) (op_bytes o ++ u)) os (ops_size os) = rw (behind o u) (all-stand os h.1 n.1) in
      rw (append_assoc (op_bytes o) (joined op_bytes os) t, ← z) (more (op-stands o h.0 u n.0) r)

  pub one-unreadable : (os : List Op) → All OpHeld os → any bad_op os ≡ true → Met Unreadable (length os) (joined op_bytes os ++ t)
  one-unreadable [] h e = absurd (false≢true e)
  one-unreadable (o ∷ os) h e =
      rw (append_assoc (op_bytes o) (joined op_bytes os) t) (by (bad_op o) refl e (one-unreadable os h.1))
    where
      by : (b : Bool) → bad_op o ≡ b → (b || any bad_op os) ≡ true → (any bad_op os ≡ true → Met Unreadable (length os) (joined op_bytes os ++ t))
          → Met Unreadable (suc (length os)) (op_bytes o ++ (joined op_bytes os ++ t))
      by true d e rest = met_first (op-unreadable o h.0 (joined op_bytes os ++ t) d)
      by false d e rest = met_later (op-stands o h.0 (joined op_bytes os ++ t) d) (rw (behind o (joined op_bytes os ++ t)) (rest e))

-- an op that stands is written as it stood, and is not bad
module _ (kind : ℕ) (k : kind ≤ 9) (s : List ℕ) (e : any_bad (layout_of kind) s ≡ false) where
  values-of : values_of (op_read kind s) ≡ values_in (layout_of kind) s
  unfolding op_read
  values-of = values_back kind (values_in (layout_of kind) s) (values_shape (layout_of kind) s)

  kind-of : kind_of (op_read kind s) ≡ kind
  unfolding op_read
  kind-of = kind_back kind (values_in (layout_of kind) s) k

  op-written : AreBytes s → payload_of kind ≤ length s → op_bytes (op_read kind s) ≡ kind ∷ take (payload_of kind) s
  op-written b h = rw (values-of, values_written (layout_of kind) s b h e, kind-of)

  op-good : bad_op (op_read kind s) ≡ false
  op-good = rw values-of (values_good (layout_of kind) s e)

bytes_take : (n : ℕ) (s : List ℕ) → AreBytes s → AreBytes (take n s)
bytes_take zero s b i = omega arith
bytes_take (suc n) [] b i = omega arith
bytes_take (suc n) (x ∷ s) b zero = b 0
bytes_take (suc n) (x ∷ s) b (suc i) = bytes_take n s (λ j. b (suc j)) i

-- so are several
pub record Again (s : List ℕ) (os : List Op) (m : ℕ) : Type 0 where
  pub bytes : joined op_bytes os ≡ take m s
  pub good : any bad_op os ≡ false

pub ops-written : {n : ℕ} {s : List ℕ} {os : List Op} {m : ℕ} → AreBytes s → AllStand n s os m → Again s os m
ops-written b none = record { bytes = refl; good = refl }
ops-written b (more {os = os} {m = m} (stands {kind} {s} k h n) a) =
    let p = payload_of kind in
    let l : p ≤ length (take p s) = omega (arith, length-take p s) in
    let e = (fails_exactly (bad_exactly (layout_of kind) (take p s))).1 n in
    let r = ops-written (bytes_drop (suc p) (kind ∷ s) b) a in
    let w = op-written kind k (take p s) e (bytes_take p s (λ i. b (suc i))) l in
    let f : suc p + m ≡ suc (p + m) = omega arith in
    record {
      bytes =
          ap (λ (l : List ℕ). l ++ joined op_bytes os) w
          ∙ ap (λ (l : List ℕ). (kind ∷ take p (take p s)) ++ l) r.bytes
          ∙ ap (λ (l : List ℕ). (kind ∷ l) ++ take m (drop p s)) (take-take p p s (omega arith))
          ∙ ap (λ (l : List ℕ). kind ∷ l) (sym (take-add p m s))
          ∙ ap (λ (j : ℕ). take j (kind ∷ s)) (sym f);
      good = rw (op-good kind k (take p s) e, r.good);
    }
