-- When each answer is given, in words and apart from the reader. (01, Refusal numbers, Plan block; 02, W8). Definitions and relations only.
use Rattle.std.specs.Prelude.{ℕ, suc, ◌+◌, ◌≤◌, ◌<◌, ◌≡◌, ◌⊎◌, List, [], ◌∷◌, length, take, drop, Ok, Err}
use Rattle.std.specs.Float.{nan}
use Rattle.notation.specs.Text.{ascii}
use Rattle.list.specs.Lists.{Formed, Unformed, end_of}
use Rattle.op.specs.declared.Op.{Op}
use Rattle.op_fields.specs.Layouts.{Field, float, flag, curve, layout_of}
use Rattle.block_read.specs.Fields.{size_of, byte_at, u32_at, first_float, payload_of, op_read}
use Rattle.block_read.specs.Block.{version_of, head_of}
use Rattle.block_read.specs.Block.{Reading}
use Rattle.block_read.specs.declared.ReadError.TheVariants.{Short, WrongMark, BadOp, Malformed}

-- "Bad fields: NaN, a flag above 1, a curve above 8, `g` out of range or nonzero for curves 2 to 8.":
-- the field at the front of s
pub data Bad : Field → List ℕ → Type 0 where
  not_a_number : {s : List ℕ} → first_float s ≡ nan → Bad float s
  flag_above_1 : {s : List ℕ} → 1 < byte_at s 0 → Bad flag s
  curve_above_8 : {s : List ℕ} → 8 < byte_at s 0 → Bad curve s
  g_out_of_range : {s : List ℕ} → 16_777_215 < u32_at s 1 → Bad curve s
  g_nonzero : {s : List ℕ} → 2 ≤ byte_at s 0 → byte_at s 0 ≤ 8 → ¬ (u32_at s 1 ≡ 0) → Bad curve s

-- of these fields, one after the other
pub data SomeBad : List Field → List ℕ → Type 0 where
  this : {f : Field} {fs : List Field} {s : List ℕ} → Bad f s → SomeBad (f ∷ fs) s
  later : {f : Field} {fs : List Field} {s : List ℕ} → SomeBad fs (drop (size_of f) s) → SomeBad (f ∷ fs) s

-- the next op: "kind byte missing (7), kind (9), payload short (7), fields (9)"
pub data EndsEarly : List ℕ → Type 0 where
  no_kind : EndsEarly []
  short_payload : {kind : ℕ} {s : List ℕ} → kind ≤ 9 → length s < payload_of kind → EndsEarly (kind ∷ s)

pub data Unreadable : List ℕ → Type 0 where
  unknown_kind : {kind : ℕ} {s : List ℕ} → 9 < kind → Unreadable (kind ∷ s)
  field_is_bad : {kind : ℕ} {s : List ℕ} → kind ≤ 9 → payload_of kind ≤ length s → SomeBad (layout_of kind) (take (payload_of kind) s) → Unreadable (kind ∷ s)

-- it stands whole and good at the front of s, and takes so many bytes
pub data Stands : List ℕ → Op → ℕ → Type 0 where
  stands : {kind : ℕ} {s : List ℕ} → kind ≤ 9 → payload_of kind ≤ length s → ¬ SomeBad (layout_of kind) (take (payload_of kind) s)
      → Stands (kind ∷ s) (op_read kind (take (payload_of kind) s)) (suc (payload_of kind))

-- n ops stand at the front of s, "op by op", and take so many bytes
pub data AllStand : ℕ → List ℕ → List Op → ℕ → Type 0 where
  none : {s : List ℕ} → AllStand 0 s [] 0
  more : {n : ℕ} {s : List ℕ} {o : Op} {os : List Op} {size m : ℕ} → Stands s o size → AllStand n (drop size s) os m → AllStand (suc n) s (o ∷ os) (size + m)

-- of n ops at the front of s one is such, at its turn: those before it stand
pub record Met (Such : List ℕ → Type 0) (n : ℕ) (s : List ℕ) : Type 0 where
  pub place : ℕ
  pub ops : List Op
  pub size : ℕ
  pub below : place < n
  pub before : AllStand place s ops size
  pub such : Such (drop size s)

-- "Mark `CTP`, version u16 = 1", or 2
abbrev pub Known : ℕ → Type 0
Known version = (version ≡ 1) ⊎ (version ≡ 2)

abbrev pub RightMark : List ℕ → Type 0
RightMark s = (take 3 s ≡ ascii "CTP") × Known (version_of s)

-- what follows the head
abbrev pub behind : List ℕ → List ℕ
behind s = drop (head_of (version_of s)) s

pub record GoodHead (s : List ℕ) : Type 0 where
  pub whole : 7 ≤ length s
  pub mark : RightMark s
  pub all : head_of (version_of s) ≤ length s
  pub formed : Formed (byte_at s 5) (byte_at s 6)

-- "the end width as one byte after the count" is false for these ops
abbrev pub FalseEnd : List ℕ → List Op → Type 0
FalseEnd s os = (version_of s ≡ 2) × (¬ (byte_at s 7 ≡ end_of (byte_at s 5) (byte_at s 6) os))

-- all ops stand, and these are they
pub record Standing (s : List ℕ) : Type 0 where
  pub ops : List Op
  pub size : ℕ
  pub all : AllStand (byte_at s 6) (behind s) ops size

-- "Order: under 7 bytes (7), 8, 10, then op by op"; "7 for a missing end width byte, after 8 and before 10, and 9 for a false one, after the ops"
abbrev pub Given : Reading → List ℕ → Type 0
Given (Err Short) s = (length s < 7) ⊎ ((7 ≤ length s) × RightMark s × (length s < head_of (version_of s))) ⊎ (GoodHead s × Met EndsEarly (byte_at s 6) (behind s))
Given (Err WrongMark) s = (7 ≤ length s) × (¬ RightMark s)
Given (Err Malformed) s = (7 ≤ length s) × RightMark s × (head_of (version_of s) ≤ length s) × Unformed (byte_at s 5) (byte_at s 6)
Given (Err BadOp) s = GoodHead s × (Met Unreadable (byte_at s 6) (behind s) ⊎ ((a : Standing s) × FalseEnd s a.ops))
Given (Ok tt) s = GoodHead s × (a : Standing s) × (¬ FalseEnd s a.ops)
