-- The next op ends early, is unreadable or stands, and the reader finds just that; and so for several ops.
-- By the tests of `op_in`; of several, from the first on.
use Rattle.std.specs.Prelude.{Err, Result, Ok}
use Prim.Native.Nat.{ℕ, zero, suc, ◌+◌, ◌≤◌, ◌<◌}
use mathlib.Core.Path.{◌≡◌, refl, subst, sym, ap, ◌∙◌}
use mathlib.Core.Bool.{Bool, true, false, true≢false}
use mathlib.Core.List.{List, [], ◌∷◌}
use native.Mathlib.Omega.{arith}
use borrow.Author.Tests.{lt-ltb, le-ltb, ltb-true, ltb-false}
use lib.Dec.{ltb}
use lib.ListN.{length, take, drop, length-drop}
use lib.Seq.{drop-drop}
use Rattle.op.specs.declared.Op.{Op}
use Rattle.block_read.specs.Fields.{payload_of}
use Rattle.op_fields.specs.Layouts.{layout_of}
use Rattle.block_read.specs.BadFields.{bad_field}
use Rattle.block_read.specs.Block.{taken, op_in, after_kind, fields_in, Ops, ops, refused, before, on_found, ops_in}
use Rattle.block_read.specs.Refusals.{SomeBad, EndsEarly, no_kind, short_payload, Unreadable, unknown_kind, field_is_bad, Stands, stands, AllStand, none, more, Met}
use Rattle.block_read.specs.declared.ReadError.TheVariants.{Short, BadOp}
use Rattle.block_read.specs.declared.Found.{Found}
use Rattle.block_read.specs.declared.ReadError.{ReadError}
use Rattle.block_read.proofs.Badness.{bad_exactly}

-- one op
pub data Way (s : List ℕ) : Result Found ReadError → Type 0 where
  early : EndsEarly s → Way s (Err Short)
  unreadable : Unreadable s → Way s (Err BadOp)
  good : {o : Op} {size : ℕ} → Stands s o size → Way s (Ok (taken o size))

pub way : (s : List ℕ) → Way s (op_in s)
unfolding bad_field
way [] = early no_kind
way (kind ∷ s) = known (ltb 9 kind) refl
  where
    fields : kind ≤ 9 → payload_of kind ≤ length s → (b : Bool) → bad_field kind (take (payload_of kind) s) ≡ b → Way (kind ∷ s) (fields_in kind (take (payload_of kind) s))
    fields k h true e = rw e (unreadable (field_is_bad k h ((bad_exactly (layout_of kind) (take (payload_of kind) s)).0 e)))
    fields k h false e = rw e (good (stands k h (λ b. true≢false (sym ((bad_exactly (layout_of kind) (take (payload_of kind) s)).1 b) ∙ e))))

    room : ltb 9 kind ≡ false → (b : Bool) → ltb (length s) (payload_of kind) ≡ b → Way (kind ∷ s) (after_kind kind s)
    room k true e = rw (k, e) (early (short_payload (ltb-false 9 kind k) (ltb-true (length s) (payload_of kind) e)))
    room k false e = rw (k, e) (fields (ltb-false 9 kind k) (ltb-false (length s) (payload_of kind) e) (bad_field kind (take (payload_of kind) s)) refl)

    known : (b : Bool) → ltb 9 kind ≡ b → Way (kind ∷ s) (after_kind kind s)
    known true e = rw e (unreadable (unknown_kind (ltb-true 9 kind e)))
    known false e = room e (ltb (length s) (payload_of kind)) refl

pub is_early : {s : List ℕ} → EndsEarly s → op_in s ≡ (Err Short)
is_early no_kind = refl
is_early (short_payload k h) = rw (le-ltb _ _ k, lt-ltb _ _ h)

pub is_unreadable : {s : List ℕ} → Unreadable s → op_in s ≡ (Err BadOp)
unfolding bad_field
is_unreadable (unknown_kind k) = rw (lt-ltb _ _ k)
is_unreadable (field_is_bad {kind} {s} k h b) = rw (le-ltb _ _ k, le-ltb _ _ h, (bad_exactly (layout_of kind) (take (payload_of kind) s)).1 b)

not_bad : (kind : ℕ) (s : List ℕ) → ¬ SomeBad (layout_of kind) s → bad_field kind s ≡ false
unfolding bad_field
not_bad kind s n = by (bad_field kind s) refl
  where
    by : (b : Bool) → bad_field kind s ≡ b → bad_field kind s ≡ false
    by true e = absurd (n ((bad_exactly (layout_of kind) s).0 e))
    by false e = e

pub is_good : {s : List ℕ} {o : Op} {size : ℕ} → Stands s o size → op_in s ≡ Ok (taken o size)
is_good (stands {kind} {s} k h n) = rw (le-ltb _ _ k, le-ltb _ _ h, not_bad kind (take (payload_of kind) s) n)

pub found_stands : (s : List ℕ) {o : Op} {size : ℕ} → op_in s ≡ Ok (taken o size) → Stands s o size
found_stands s e = by (subst (Way s) e (way s))
  where
    by : {o : Op} {size : ℕ} → Way s (Ok (taken o size)) → Stands s o size
    by (good g) = g

pub stands_fits : {s : List ℕ} {o : Op} {size : ℕ} → Stands s o size → size ≤ length s
stands_fits (stands k h n) = omega arith

-- several
pub data Ways (n : ℕ) (s : List ℕ) : Ops → Type 0 where
  early : Met EndsEarly n s → Ways n s (refused (Err Short))
  unreadable : Met Unreadable n s → Ways n s (refused (Err BadOp))
  good : {os : List Op} {m : ℕ} → AllStand n s os m → Ways n s (ops os m)

pub met_first : {Such : List ℕ → Type 0} {n : ℕ} {s : List ℕ} → Such s → Met Such (suc n) s
met_first p = record { place = 0; ops = []; size = 0; below = omega arith; before = none; such = p }

pub met_later : {Such : List ℕ → Type 0} {n : ℕ} {s : List ℕ} {o : Op} {size : ℕ} → Stands s o size → Met Such n (drop size s) → Met Such (suc n) s
met_later {Such} {n} {s} {o} {size} g m =
    let h = m.below in
    record {
      place = suc m.place;
      ops = o ∷ m.ops;
      size = size + m.size;
      below = omega arith;
      before = more g m.before;
      such = subst Such (drop-drop m.size size s) m.such;
    }

pub ways : (n : ℕ) (s : List ℕ) → Ways n s (ops_in n s)
ways zero s = good none
ways (suc n) s = by (way s) (λ size. ways n (drop size s))
  where
    next : {o : Op} {size : ℕ} {x : Ops} → Stands s o size → Ways n (drop size s) x → Ways (suc n) s (before o size x)
    next g (early m) = early (met_later g m)
    next g (unreadable m) = unreadable (met_later g m)
    next g (good a) = good (more g a)

    by : {f : Result Found ReadError} → Way s f → ((size : ℕ) → Ways n (drop size s) (ops_in n (drop size s))) → Ways (suc n) s (on_found f (λ o size. before o size (ops_in n (drop size s))))
    by (early e) rest = early (met_first e)
    by (unreadable u) rest = unreadable (met_first u)
    by (good {size = size} g) rest = next g (rest size)

pub all_good : {n : ℕ} {s : List ℕ} {os : List Op} {m : ℕ} → AllStand n s os m → ops_in n s ≡ ops os m
all_good none = refl
all_good (more g a) = rw (is_good g, all_good a)

stops_at : {place : ℕ} {s : List ℕ} {os : List Op} {m : ℕ} {x : ReadError} (n : ℕ) → AllStand place s os m → place < n → op_in (drop m s) ≡ Err x → ops_in n s ≡ refused (Err x)
stops_at zero a h e = absurd (omega arith)
stops_at (suc n) none h e = rw e
stops_at (suc n) (more {n = k} {s = s} {size = size} {m = m} g a) h e = rw (is_good g, stops_at {place = k} n a (omega arith) (ap op_in (drop-drop m size s) ∙ e))

pub met_early : {n : ℕ} {s : List ℕ} → Met EndsEarly n s → ops_in n s ≡ refused (Err Short)
met_early {n} m = stops_at n m.before m.below (is_early m.such)

pub met_unreadable : {n : ℕ} {s : List ℕ} → Met Unreadable n s → ops_in n s ≡ refused (Err BadOp)
met_unreadable {n} m = stops_at n m.before m.below (is_unreadable m.such)

-- as many ops as were asked for, within the bytes
pub all_fit : {n : ℕ} {s : List ℕ} {os : List Op} {m : ℕ} → AllStand n s os m → (length os ≡ n) × (m ≤ length s)
all_fit none = (refl, omega arith)
all_fit (more {s = s} {size = size} g a) = (ap suc (all_fit a).0, omega (arith, (all_fit a).1, stands_fits g, length-drop size s))
