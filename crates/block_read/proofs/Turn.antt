-- One turn of the reader's loop, its refusal and its end; and the version that is read.
-- What is read from here, put behind what is read already, is what the whole is.
use Rattle.std.specs.Prelude.{Ok, Result, Err}
use Prim.Native.Nat.{ℕ, suc, ◌+◌, ◌-◌, ◌≤◌, ◌<◌}
use mathlib.Core.Path.{◌≡◌, refl, ap, sym, ◌∙◌}
use mathlib.Core.List.{List, [], ◌∷◌}
use native.Mathlib.Omega.{arith}
use lib.ListN.{length, take, drop, length-drop}
use lib.Seq.{drop-drop}
use Rattle.list.specs.Lists.{plan_of, Formed, appended}
use Rattle.op.specs.declared.Op.{Op}
use Rattle.list.specs.declared.Plan.{Plan}
use Rattle.list.proofs.Building.{appends, appended-append}
use Rattle.block_read.specs.Block.{refused_by, head_of, taken, op_in, Ops, ops, refused, before, ops_in, listed}
use Rattle.block_read.specs.declared.Block.{Block}
use Rattle.block_read.specs.declared.Found.{Found}
use Rattle.block_read.specs.declared.ReadError.{ReadError}
use Rattle.block_read.proofs.Walking.{to_end}
use Rattle.block_read.proofs.Ways.{found_stands, stands_fits, Ways, ways, all_fit}
use Rattle.block_read.proofs.Ways as W

-- the block of version v of which the list p and `at` bytes are read, and the ops x come next
abbrev pub from : ℕ → Plan → ℕ → Ops → Block
from v p at (ops os n) = record { answer = (Ok tt); version = v; plan = appended p os; used = at + n }
from v p at (refused reading) = refused_by reading

-- nothing is read but the head
pub begun : (v w n : ℕ) (s : List ℕ) → Formed w n → from v (plan_of w []) (head_of v) (ops_in n s) ≡ listed v w (ops_in n s)
begun v w n s l = by (ways n s)
  where
    by : {x : Ops} → Ways n s x → from v (plan_of w []) (head_of v) x ≡ listed v w x
    by (W.Ways.good {os} a) = rw (appends w [] os (l.0, omega (arith, l.1, (all_fit a).0)))
    by (W.Ways.early m) = refl
    by (W.Ways.unreadable m) = refl

-- a list that is built by pushes is as we return it
abbrev pub Kept : Plan → Type 0
Kept p = p ≡ appended p []

pub begun_kept : (w n : ℕ) → Formed w n → Kept (plan_of w [])
begun_kept w n l = sym (appends w [] [] (l.0, omega arith))

pub pushed_kept : (p : Plan) (o : Op) {p' : Plan} → p' ≡ appended p (o ∷ []) → Kept p'
pushed_kept p o e = e ∙ sym (appended-append p (o ∷ []) []) ∙ ap (λ (x : Plan). appended x []) (sym e)

from_before : (v : ℕ) (p : Plan) (at : ℕ) (o : Op) (size : ℕ) (x : Ops) → from v (appended p (o ∷ [])) (at + size) x ≡ from v p at (before o size x)
from_before v p at o size (ops os n) = let e : at + size + n ≡ at + (size + n) = omega arith in rw (appended-append p (o ∷ []) os, e)
from_before v p at o size (refused reading) = refl

module _ (s : List ℕ) (v at n i : ℕ) (p : Plan) where
  module _ (h : i < n) {r : Result Found ReadError} (q : r ≡ op_in (take (length s - at) (drop at s))) where
    one_less : n - i ≡ suc (n - (i + 1))
    one_less = omega arith

    found : r ≡ op_in (drop at s)
    found = q ∙ ap op_in (to_end s at)

    pub goes : {o : Op} {size : ℕ} {p' : Plan} → r ≡ Ok (taken o size) → p' ≡ appended p (o ∷ [])
        → from v p' (at + size) (ops_in (n - (i + 1)) (drop (at + size) s)) ≡ from v p at (ops_in (n - i) (drop at s))
    goes {o} {size} e f = rw (f, from_before v p at o size, one_less, ← found, e, drop-drop size at s)

    pub fits : {o : Op} {size : ℕ} → r ≡ Ok (taken o size) → at ≤ length s → at + size ≤ length s
    fits e l = omega (arith, stands_fits (found_stands (drop at s) (sym found ∙ e)), length-drop at s)

    pub stops : {x : ReadError} {b : Block} → r ≡ Err x → b ≡ refused_by (Err x) → b ≡ from v p at (ops_in (n - i) (drop at s))
    stops e f = rw (f, one_less, ← found, e)

  pub ends : n ≤ i → Kept p → ◌≡◌ {A = Block} (record { answer = (Ok tt); version = v; plan = p; used = at }) (from v p at (ops_in (n - i) (drop at s)))
  ends h k =
      let e : n - i ≡ 0 = omega arith in
      let f : at + 0 ≡ at = omega arith in
      rw (e, f, ← k)

-- what is read has the version of the block, or none
pub version-fits : (v w n : ℕ) (x : Ops) → 7 ≤ n → head_of v ≤ n → head_of (listed v w x).version ≤ n
version-fits v w n (ops os m) seven h = h
version-fits v w n (refused reading) seven h = seven
