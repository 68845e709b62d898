-- The whiteboard: it begins empty, one three of digits more keeps what it says, and at the end it has the whole root.
-- The cube of 2 * y is 8 * y ^ 3, and that of 2 * y + 1 is more by the trial; a three more makes eight times the digits taken in, and the three.
use mathlib.Core.Path.{ap, refl, subst, sym, ◌∙◌, ◌≡◌}
use Prim.Native.Nat.{◌%◌, ◌*◌, ◌+◌, ◌-◌, ◌/◌, ◌<◌, ◌^◌, suc, zero, ℕ, ◌≤◌}
use native.Mathlib.Nat.{add-mul, div-one, mod-eq_of_lt, mul-add, mul_assoc, mul-div-mul_right, mul-le-mul, mul-le-mul_left, mul_left_comm, mul_right_comm, pow-suc}
use native.Mathlib.Omega.{arith}
use lib.Pow.{pow-add}
use Rattle.cbrt.proofs.Cubes.{cube-lt}
use Rattle.cbrt.specs.Root.{cube}
use Rattle.cbrt.specs.Steps.{Whiteboard, WholeRoot, taken_in}

-- ---- squares and cubes of a number with one digit more
cube-suc : (y : ℕ) → cube (y + 1) ≡ cube y + 3 * (y * y) + 3 * y + 1
cube-suc y = simp (mul-add, add-mul) (omega arith)

cube-even : (y : ℕ) → cube (2 * y) ≡ 8 * cube y
cube-even y = simp (mul_assoc, mul_left_comm) (omega arith)

square_even : (y : ℕ) → 2 * y * (2 * y) ≡ 4 * (y * y)
square_even y = simp (mul_assoc, mul_left_comm) (omega arith)

square_odd : (y : ℕ) → (2 * y + 1) * (2 * y + 1) ≡ 4 * (y * y) + 4 * y + 1
square_odd y = simp (mul-add, add-mul) (omega (arith, square_even y))

cube-odd : (y : ℕ) → cube (2 * y + 1) ≡ 8 * cube y + 12 * (y * y) + 6 * y + 1
cube-odd y = omega (arith, cube-suc (2 * y), cube-even y, square_even y)

-- ---- the digits taken in
eight_pos : (t : ℕ) → 0 < 8 ^ t
eight_pos zero = omega arith
eight_pos (suc t) = omega (arith, pow-suc 8 t, eight_pos t)

-- they stand above the 51 columns of the rest, when h has moved up by as many threes
moved_up : (h t : ℕ) → t ≤ 25 → taken_in (h * 0x100_0000) t ≡ h * 8 ^ t / 0x8_0000_0000_0000
moved_up h t k =
    let e : (25 - t) + t ≡ 25 = omega arith in
    let p : 8 ^ (25 - t) * 8 ^ t ≡ 0x8_0000_0000_0000 * 0x100_0000 = sym (pow-add 8 (25 - t) t) ∙ ap (λ (x : ℕ). 8 ^ x) e in
    sym (mul-div-mul_right (h * 0x100_0000) (8 ^ (25 - t)) (eight_pos t))
    ∙ ap (λ (x : ℕ). x / (8 ^ (25 - t) * 8 ^ t)) (mul_right_comm h 0x100_0000 (8 ^ t))
    ∙ ap (λ (x : ℕ). h * 8 ^ t * 0x100_0000 / x) p
    ∙ mul-div-mul_right (h * 8 ^ t) 0x8_0000_0000_0000 (omega arith)

next_power : (h t : ℕ) → h * 8 ^ (t + 1) ≡ h * 8 ^ t * 8
next_power h t = ap (λ (n : ℕ). h * n) (pow-add 8 t 1) ∙ sym (mul_assoc h (8 ^ t) 8)

-- the next three are the upper digits of the rest
next-three : (h t : ℕ) → t < 25 → taken_in (h * 0x100_0000) (t + 1) ≡ taken_in (h * 0x100_0000) t * 8 + h * 8 ^ t % 0x8_0000_0000_0000 / 0x1_0000_0000_0000
next-three h t k = moved_up h (t + 1) (omega arith) ∙ shift (h * 8 ^ t) (h * 8 ^ (t + 1)) (taken_in (h * 0x100_0000) t) (next_power h t) (moved_up h t (omega arith))
  where
    shift : (x x' m : ℕ) → x' ≡ x * 8 → m ≡ x / 0x8_0000_0000_0000 → x' / 0x8_0000_0000_0000 ≡ m * 8 + x % 0x8_0000_0000_0000 / 0x1_0000_0000_0000
    shift x x' m e f = omega arith

next-rest : (h t : ℕ) → h * 8 ^ (t + 1) % 0x8_0000_0000_0000 ≡ (h * 8 ^ t % 0x8_0000_0000_0000 - h * 8 ^ t % 0x8_0000_0000_0000 / 0x1_0000_0000_0000 * 0x1_0000_0000_0000) * 8
next-rest h t = shift (h * 8 ^ t) (h * 8 ^ (t + 1)) (next_power h t)
  where
    shift : (x x' : ℕ) → x' ≡ x * 8 → x' % 0x8_0000_0000_0000 ≡ (x % 0x8_0000_0000_0000 - x % 0x8_0000_0000_0000 / 0x1_0000_0000_0000 * 0x1_0000_0000_0000) * 8
    shift x x' e = omega arith

-- before the last three there are at most 72
taken-lt : (h t : ℕ) → h < 0x8_0000_0000_0000 → t < 25 → taken_in (h * 0x100_0000) t < cube 0x100_0000
taken-lt h t b k = rw (moved_up h t (omega arith)) (bound (h * 8 ^ t) (mul-le-mul_left h most))
  where
    most : 8 ^ t ≤ 8 ^ 24
    most =
        let e : t + (24 - t) ≡ 24 = omega arith in
        let p : 8 ^ 24 ≡ 8 ^ t * 8 ^ (24 - t) = ap (λ (x : ℕ). 8 ^ x) (sym e) ∙ pow-add 8 t (24 - t) in
        rw p (omega (arith, mul-le-mul_left (8 ^ t) (eight_pos (24 - t))))

    bound : (x : ℕ) → x ≤ h * 8 ^ 24 → x / 0x8_0000_0000_0000 < cube 0x100_0000
    bound x g = omega arith

-- ---- the whiteboard
pub empty-board : (h : ℕ) → h < 0x8_0000_0000_0000 → Whiteboard h 0 0 0 h 0
empty-board h k =
    let e : taken_in (h * 0x100_0000) 0 ≡ 0 = moved_up h 0 (omega arith) ∙ none (h * 8 ^ 0) (omega arith) in
    record { few = omega arith; is_root = record { low = omega arith; high = omega arith }; is_left = sym e; is_square = refl; to_come = omega arith }
  where
    none : (x : ℕ) → x < 0x8_0000_0000_0000 → x / 0x8_0000_0000_0000 ≡ 0
    none x k = omega arith

-- what is kept is small as long as there is a three to take in
pub record Small (y square remainder rest : ℕ) : Type 0 where
  pub y_lt : y < 0x100_0000
  pub square_lt : square < 0x1_0000_0000_0000
  pub remainder_le : remainder ≤ 3 * square + 3 * y
  pub rest_lt : rest < 0x8_0000_0000_0000

pub small : {h y square remainder rest taken : ℕ} → h < 0x8_0000_0000_0000 → Whiteboard h y square remainder rest taken → taken < 25 → Small y square remainder rest
small {h} {y} {square} {remainder} {rest} {taken} b i t =
    let m = taken_in (h * 0x100_0000) taken in
    let k : y < 0x100_0000 = cube-lt y 0x100_0000 m i.is_root.low (taken-lt h taken b t) in
    let j : y ≤ 0xff_ffff = omega arith in
    let q : y * y ≤ 0xff_ffff * 0xff_ffff = mul-le-mul j j in
    record { y_lt = k; square_lt = omega (arith, i.is_square); remainder_le = left m i.is_left i.is_root.high; rest_lt = omega (arith, i.to_come) }
  where
    left : (m : ℕ) → cube y + remainder ≡ m → m < cube (y + 1) → remainder ≤ 3 * square + 3 * y
    left m e k = omega (arith, cube-suc y, i.is_square)

-- A shift by k digits is a product with 2 ^ k, cut off at 64 digits. Of what is kept, nothing is cut off.
abbrev pub shl : ℕ → ℕ → ℕ
shl x k = x * 2 ^ k % 0x1_0000_0000_0000_0000

pub record Shifts (y square remainder rest : ℕ) : Type 0 where
  pub y_1 : shl y 1 ≡ y * 2
  pub y_2 : shl y 2 ≡ y * 4
  pub square_2 : shl square 2 ≡ square * 4
  pub square_3 : shl square 3 ≡ square * 8
  pub remainder_3 : shl remainder 3 ≡ remainder * 8
  pub rest_3 : shl (rest - shl (rest / 0x1_0000_0000_0000) 48) 3 ≡ (rest - rest / 0x1_0000_0000_0000 * 0x1_0000_0000_0000) * 8

pub shifts : {y square remainder rest : ℕ} → Small y square remainder rest → Shifts y square remainder rest
shifts {rest = rest} s =
    let top : shl (rest / 0x1_0000_0000_0000) 48 ≡ rest / 0x1_0000_0000_0000 * 0x1_0000_0000_0000 = mod-eq_of_lt (omega arith) in
    record {
      y_1 = mod-eq_of_lt (omega arith);
      y_2 = mod-eq_of_lt (omega arith);
      square_2 = mod-eq_of_lt (omega arith);
      square_3 = mod-eq_of_lt (omega arith);
      remainder_3 = mod-eq_of_lt (omega arith);
      rest_3 = rw top (mod-eq_of_lt (omega arith));
    }

-- one three more, from m to m': the digit is 0 where the trial is too much, and else it is 1 and the trial is taken off
module _ (m m' y remainder three : ℕ) (w : WholeRoot m y) (e : cube y + remainder ≡ m) (f : m' ≡ m * 8 + three) (b : three < 8) where
  root-0 : remainder * 8 + three < 12 * (y * y) + 6 * y + 1 → WholeRoot m' (2 * y) × (cube (2 * y) + (remainder * 8 + three) ≡ m')
  root-0 k = (record { low = omega (arith, cube-even y); high = omega (arith, cube-odd y) }, omega (arith, cube-even y))

  root-1 : 12 * (y * y) + 6 * y + 1 ≤ remainder * 8 + three → WholeRoot m' (2 * y + 1) × (cube (2 * y + 1) + (remainder * 8 + three - (12 * (y * y) + 6 * y + 1)) ≡ m')
  root-1 k = (record { low = omega (arith, cube-odd y); high = omega (arith, w.high, cube-suc y, cube-odd y, cube-suc (2 * y + 1), square_odd y) }, omega (arith, cube-odd y))

module _ {h y square remainder rest taken : ℕ} (i : Whiteboard h y square remainder rest taken) (t : taken < 25) {y₁ y₂ square₂ square₃ remainder₃ rest' : ℕ} (a₁ : y₁ ≡ y * 2) (a₂ : y₂ ≡ y * 4) (b₂ : square₂ ≡ square * 4) (b₃ : square₃ ≡ square * 8) (l₃ : remainder₃ ≡ remainder * 8) (r : rest' ≡ (rest - rest / 0x1_0000_0000_0000 * 0x1_0000_0000_0000) * 8) where
  three-more : taken_in (h * 0x100_0000) (taken + 1) ≡ taken_in (h * 0x100_0000) taken * 8 + rest / 0x1_0000_0000_0000
  three-more = next-three h taken t ∙ ap (λ (x : ℕ). taken_in (h * 0x100_0000) taken * 8 + x / 0x1_0000_0000_0000) (sym i.to_come)

  is-three : rest / 0x1_0000_0000_0000 < 8
  is-three = omega (arith, i.to_come)

  still-to-come : rest' ≡ h * 8 ^ (taken + 1) % 0x8_0000_0000_0000
  still-to-come = r ∙ ap (λ (x : ℕ). (x - x / 0x1_0000_0000_0000 * 0x1_0000_0000_0000) * 8) i.to_come ∙ sym (next-rest h taken)

  is-trial : square₃ + square₂ + y₂ + y₁ + 1 ≡ 12 * (y * y) + 6 * y + 1
  is-trial = omega (arith, i.is_square)

  is-even : y₁ ≡ 2 * y
  is-even = omega arith

  one_more : (y' square' remainder' : ℕ) → WholeRoot (taken_in (h * 0x100_0000) (taken + 1)) y' × (cube y' + remainder' ≡ taken_in (h * 0x100_0000) (taken + 1)) → square' ≡ y' * y' → Whiteboard h y' square' remainder' rest' (taken + 1)
  one_more y' square' remainder' n q = record { few = omega arith; is_root = n.0; is_left = n.1; is_square = q; to_come = still-to-come }

  pub digit-0 : remainder₃ + rest / 0x1_0000_0000_0000 < square₃ + square₂ + y₂ + y₁ + 1 → Whiteboard h y₁ square₂ (remainder₃ + rest / 0x1_0000_0000_0000) rest' (taken + 1)
  digit-0 k =
      let n = root-0 _ _ y remainder _ i.is_root i.is_left three-more is-three (rw l₃ at (rw is-trial at k)) in
      one_more _ _ _ (rw is-even (rw l₃ n)) (rw is-even (omega (arith, square_even y, i.is_square)))

  pub digit-1 : square₃ + square₂ + y₂ + y₁ + 1 ≤ remainder₃ + rest / 0x1_0000_0000_0000 → Whiteboard h (y₁ + 1) (square₂ + y₂ + 1) (remainder₃ + rest / 0x1_0000_0000_0000 - (square₃ + square₂ + y₂ + y₁ + 1)) rest' (taken + 1)
  digit-1 k =
      let n = root-1 _ _ y remainder _ i.is_root i.is_left three-more is-three (rw l₃ at (rw is-trial at k)) in
      one_more _ _ _ (rw is-trial (rw is-even (rw l₃ n))) (rw is-even (omega (arith, square_odd y, i.is_square)))

-- all 25 threes are taken in
pub full-board : {h y square remainder rest taken : ℕ} → Whiteboard h y square remainder rest taken → 25 ≤ taken → WholeRoot (h * 0x100_0000) y
full-board {h} {y} {taken = taken} i k =
    let e : taken ≡ 25 = omega (arith, i.few) in
    subst (λ (n : ℕ). WholeRoot n y) (ap (taken_in (h * 0x100_0000)) e ∙ div-one (h * 0x100_0000)) i.is_root
