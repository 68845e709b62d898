-- "starting from RGB bytes, going there and back moves no channel of any pixel by more than 1, at both sets of weights, argued once." (02, W11).
-- Definitions and relations only.
use Rattle.std.specs.Prelude.{ℕ, ◌+◌, ◌*◌, ◌≤◌, ◌<◌}
use Rattle.ycbcr_weights.specs.declared.Weights.{Weights}
use Rattle.ycbcr_weights.specs.declared.Pixel.{Pixel}
use Rattle.ycbcr_weights.specs.Weights.{whole}

-- two numbers differ by at most 1
abbrev pub Beside : ℕ → ℕ → Type 0
Beside x y = (y ≤ x + 1) × (x ≤ y + 1)

-- no channel of q lies further than 1 from p's
pub record Near (p q : Pixel) : Type 0 where
  pub first : Beside p.c0 q.c0
  pub second : Beside p.c1 q.c1
  pub third : Beside p.c2 q.c2

-- what is asked of the weights: red and blue weigh something, and kb(N - kb) + kr(N - kr) < kg N
pub record Balanced (w : Weights) : Type 0 where
  pub red : 0 < w.kr
  pub blue : 0 < w.kb
  pub green : w.kb * (w.kr + w.kg) + w.kr * (w.kg + w.kb) < w.kg * whole w
