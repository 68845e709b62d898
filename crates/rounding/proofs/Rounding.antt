-- `round` of a fraction over a power of two: by the number's digits, and with what lies below its digits replaced by anything else that is not 0.
-- The number of digits fixes the place at which `round` cuts; from there on it is `closest`.
use Rattle.std.proofs.Common.{◌≡◌, ℕ, suc, ◌+◌, ◌-◌, ◌*◌, ◌/◌, ◌^◌, ◌<◌, ◌≤◌, Bool, ◌⊎◌, sym, refl, ap, ◌∙◌, subst, inl, inr, le_trans, le_of_eq, lt_of_lt_of_le, mul-le-mul_right, mul_assoc, suc-mul, mul_comm, div-lt_iff_lt-mul, suc-add, mul-pos, one-mul, le-div_iff_mul-le, arith, pow_pos, pow_mono, pow-add, shl_lt}
use lib.Ieee.{binary32, round, size, units}
use lib.Ieee.Digits.{size-le, size-lt, size_reaches}
use lib.Ieee.Fits.{round_is}
use lib.Ieee.Nearest.{closest, closest_same}
use Rattle.binary32.proofs.Size.{size_exact, size_gt, split_le}
use Rattle.rounding.proofs.Closest.{closest_sticky}

quot-size : (c L n : ℕ) → 2 ^ c ≤ n → n < 2 ^ suc c → size (n / 2 ^ L) ≡ suc c - L
quot-size c L n lo hi = go (split_le L c)
  where
    add_back : (c L : ℕ) → L ≤ c → c - L + L ≡ c
    add_back c L h = omega arith

    add-back' : (c L : ℕ) → L ≤ c → suc (c - L) + L ≡ suc c
    add-back' c L h = omega arith

    over : (c L : ℕ) → L ≤ c → suc (c - L) ≡ suc c - L
    over c L h = omega arith

    none : (c L : ℕ) (z : ℕ) → c < L → z ≤ 0 → z ≡ suc c - L
    none c L z h k = omega arith

    go : (L ≤ c) ⊎ (c < L) → size (n / 2 ^ L) ≡ suc c - L
    go (inl h) =
        size_exact (c - L) (n / 2 ^ L)
        ((le-div_iff_mul-le (pow_pos L)).1 (le_trans (le_of_eq (sym (pow-add 2 (c - L) L) ∙ ap (λ (x : ℕ). 2 ^ x) (add_back c L h))) lo))
        ((div-lt_iff_lt-mul (pow_pos L)).1 (lt_of_lt_of_le hi (le_of_eq (sym (sym (pow-add 2 (suc (c - L)) L) ∙ ap (λ (x : ℕ). 2 ^ x) (add-back' c L h))))))
        ∙ over c L h
    go (inr h) = none c L (size (n / 2 ^ L)) h (size-le (n / 2 ^ L) 0 ((div-lt_iff_lt-mul (pow_pos L)).1 (lt_of_lt_of_le hi (le_trans (pow_mono h) (le_of_eq (sym (one-mul (2 ^ L))))))))

-- ---- `round` of an X of c + 1 digits over 2 ^ L: the places that it drops
abbrev pub places : ℕ → ℕ → ℕ
places c L = suc (c + 149) - L - 24

pub round_at : (s : Bool) (X L c : ℕ) → 2 ^ c ≤ X → X < 2 ^ suc c → round binary32 s X (2 ^ L) ≡ units binary32 s (closest (X * 2 ^ 149) (2 ^ L * 2 ^ places c L)) (places c L)
round_at s X L c lo hi =
    round_is binary32 s X (2 ^ L)
    ∙ ap (λ (k : ℕ). units binary32 s (closest (X * 2 ^ 149) (2 ^ L * 2 ^ k)) k)
    (ap (λ (z : ℕ). z - 24)
    (quot-size (c + 149) L (X * 2 ^ 149) (le_trans (le_of_eq (pow-add 2 c 149)) (mul-le-mul_right (2 ^ 149) lo)) (subst (λ (x : ℕ). X * 2 ^ 149 < 2 ^ x) (suc-add c 149) (shl_lt (suc c) 149 hi))))

-- ---- so `round` cannot tell l from l'
pub round_sticky : (s : Bool) (h l l' g L : ℕ) → 0x200_0000 ≤ h → 0 < l → l < 2 ^ g → 0 < l' → l' < 2 ^ g → round binary32 s (h * 2 ^ g + l) (2 ^ L) ≡ round binary32 s (h * 2 ^ g + l') (2 ^ L)
round_sticky s h l l' g L H p q p' q' =
    let z = size h in
    let b = z - 1 in
    let Z : 25 < z = size_gt h 25 H in
    let c = b + g in
    let k = places c L in
    let G = 2 ^ g in
    let w = L + k - g - 150 in
    let lo : (x : ℕ) → 2 ^ c ≤ h * G + x = λ x. le_trans (le_of_eq (pow-add 2 b g)) (le_trans (mul-le-mul_right G (size_reaches h b (pred z Z))) (more (h * G) x)) in
    let hi : (x : ℕ) → x < G → h * G + x < 2 ^ suc c = λ x r.
    lt_of_lt_of_le (next (h * G) x G (suc h * G) (suc-mul h G) r)
    (le_trans (mul-le-mul_right G (lt_of_lt_of_le (size-lt h) (le_of_eq (ap (λ (y : ℕ). 2 ^ y) (back z Z))))) (le_of_eq (sym (pow-add 2 (suc b) g) ∙ ap (λ (y : ℕ). 2 ^ y) (suc-add b g)))) in
    let e : 2 ^ L * 2 ^ k ≡ 2 * 2 ^ w * G * 2 ^ 149 =
    sym (pow-add 2 L k) ∙ ap (λ (y : ℕ). 2 ^ y) (room b g L k (two-six z Z) refl) ∙ pow-add 2 (1 + w + g) 149 ∙ ap (λ (y : ℕ). y * 2 ^ 149) (pow-add 2 (1 + w) g ∙ ap (λ (y : ℕ). y * G) (pow-add 2 1 w)) in
    let P : 0 < 2 * 2 ^ w * G = mul-pos (mul-pos (pow_pos 1) (pow_pos w)) (pow_pos g) in
    let cut : (x : ℕ) → closest ((h * G + x) * 2 ^ 149) (2 ^ L * 2 ^ k) ≡ closest (h * G + x) (2 * 2 ^ w * G) = λ x.
    closest_same ((h * G + x) * 2 ^ 149) (2 ^ L * 2 ^ k) (h * G + x) (2 * 2 ^ w * G) (mul-pos (pow_pos L) (pow_pos k)) P
    (mul_assoc (h * G + x) (2 ^ 149) (2 * 2 ^ w * G) ∙ ap (λ (y : ℕ). (h * G + x) * y) (mul_comm (2 ^ 149) (2 * 2 ^ w * G) ∙ sym e)) in
    round_at s (h * G + l) L c (lo l) (hi l q)
    ∙ ap (λ (y : ℕ). units binary32 s y k) (cut l ∙ closest_sticky h l l' G (2 ^ w) p q p' q' (pow_pos w) ∙ sym (cut l'))
    ∙ sym (round_at s (h * G + l') L c (lo l') (hi l' q'))
  where
    pred : (z : ℕ) → 25 < z → z - 1 < z
    pred z h = omega arith

    back : (z : ℕ) → 25 < z → z ≡ suc (z - 1)
    back z h = omega arith

    two-six : (z : ℕ) → 25 < z → 25 ≤ z - 1
    two-six z h = omega arith

    more : (a x : ℕ) → a ≤ a + x
    more a x = omega arith

    next : (a x G b : ℕ) → b ≡ a + G → x < G → a + x < b
    next a x G b e h = omega arith

    room : (b g L k : ℕ) → 25 ≤ b → k ≡ suc (b + g + 149) - L - 24 → L + k ≡ 1 + (L + k - g - 150) + g + 149
    room b g L k h e = omega arith

-- ---- an m of 62 digits
pub round_final : (s : Bool) (m e d k : ℕ) → 0x2000_0000_0000_0000 ≤ m → m < 0x4000_0000_0000_0000 → k ≡ suc (61 + e + 149) - 421 - 24 → 421 + k ≡ d + (e + 149)
    → round binary32 s (m * 2 ^ e) (2 ^ 421) ≡ units binary32 s (closest m (2 ^ d)) k
round_final s m e d k lo hi K D =
    let cut : closest (m * 2 ^ e * 2 ^ 149) (2 ^ 421 * 2 ^ k) ≡ closest m (2 ^ d) =
    closest_same (m * 2 ^ e * 2 ^ 149) (2 ^ 421 * 2 ^ k) m (2 ^ d) (mul-pos (pow_pos 421) (pow_pos k)) (pow_pos d)
    (ap (λ (y : ℕ). y * 2 ^ d) (mul_assoc m (2 ^ e) (2 ^ 149) ∙ ap (λ (y : ℕ). m * y) (sym (pow-add 2 e 149)))
    ∙ mul_assoc m (2 ^ (e + 149)) (2 ^ d)
    ∙ ap (λ (y : ℕ). m * y) (mul_comm (2 ^ (e + 149)) (2 ^ d) ∙ sym (pow-add 2 d (e + 149)) ∙ ap (λ (y : ℕ). 2 ^ y) (sym D) ∙ pow-add 2 421 k)) in
    round_at s (m * 2 ^ e) 421 (61 + e) (le_trans (le_of_eq (pow-add 2 61 e)) (mul-le-mul_right (2 ^ e) lo)) (subst (λ (y : ℕ). m * 2 ^ e < 2 ^ y) (suc-add 61 e) (shl_lt 62 e hi))
    ∙ ap (λ (y : ℕ). units binary32 s (closest (m * 2 ^ e * 2 ^ 149) (2 ^ 421 * 2 ^ y)) y) (sym K)
    ∙ ap (λ (y : ℕ). units binary32 s y k) cut
