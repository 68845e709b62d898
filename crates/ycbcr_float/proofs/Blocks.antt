-- A block of a piece that is converted block by block is ready where the piece was, and is what was kept of it.
-- The block that comes next is still the piece's own (`Pieces`), place by place.
use Rattle.std.proofs.Common.{◌≡◌, ℕ, ◌+◌, ◌-◌, ◌<◌, ◌≤◌, List, length, get_or, take, drop, sym, ap, ◌∙◌, subst, arith, get_or-drop, get_or-take}
use lib.Ieee.{Float, nan}
use Rattle.notation.proofs.Rewriting.{Rewritten}
use Rattle.ciexyz.specs.declared.Vec3.{Vec3}
use Rattle.channels.specs.Channels.{Channels, channels, vec}
use Rattle.channels.proofs.InStep.{Stepped}
use Rattle.channels.proofs.Pieces.{length-piece, piece_of}
use Rattle.ycbcr_float.specs.Steps.{AllReady, Ready}

module _ {R x s : List Float} {j : ℕ} (r : Rewritten R x j s) (m : ℕ) (h : j + m ≤ length x) where
  same_block : take (j + m - j) (drop j x) ≡ take (j + m - j) (drop j s)
  same_block = ap (λ (k : ℕ). take k (drop j x)) (span j m) ∙ sym (piece_of r m h)
    where
      span : (j m : ℕ) → j + m - j ≡ m
      span j m = omega arith

  block_at : (i : ℕ) → i < m → get_or (take (j + m - j) (drop j s)) i nan ≡ get_or x (j + i) nan
  block_at i l = ap (λ (t : List Float). get_or t i nan) (piece_of r m h) ∙ get_or-take m (drop j x) i nan l ∙ get_or-drop j x i nan

module _ {f : Vec3 → Vec3} {x y z a b c : List Float} {j : ℕ} (s : Stepped f x y z j a b c) (m : ℕ) (h : j + m ≤ length x) where
  on-y : j + m ≤ length y
  on-y = omega (arith, s.as_long.as_y)

  on-z : j + m ≤ length z
  on-z = omega (arith, s.as_long.as_z)

  pub block-kept : (p q r : List Float) → channels p q r ≡ channels x y z
      → channels (take (j + m - j) (drop j p)) (take (j + m - j) (drop j q)) (take (j + m - j) (drop j r)) ≡ channels (take (j + m - j) (drop j a)) (take (j + m - j) (drop j b)) (take (j + m - j) (drop j c))
  block-kept p q r e =
      ap (λ (t : Channels). channels (take (j + m - j) (drop j t.a)) (take (j + m - j) (drop j t.b)) (take (j + m - j) (drop j t.c))) e
      ∙ (λ i. channels (same_block s.on_r m h i) (same_block s.on_g m on-y i) (same_block s.on_b m on-z i))

  pub block-ready : AllReady x y z → AllReady (take (j + m - j) (drop j a)) (take (j + m - j) (drop j b)) (take (j + m - j) (drop j c))
  block-ready ready i l =
      let k : i < m = omega (arith, l, length-piece s.on_r m h) in
      subst Ready (sym (λ t. vec (block_at s.on_r m h i k t) (block_at s.on_g m on-y i k t) (block_at s.on_b m on-z i k t))) (ready (j + i) (omega arith))
