-- The text lies within the buffer, so that `&text[..size]` is its bytes.
-- The buffer begins with the text.
use Prim.Native.Nat.{ℕ, ◌≤◌}
use mathlib.Core.Path.{◌≡◌, ap, sym}
use mathlib.Core.List.{List}
use native.Mathlib.Omega.{arith}
use lib.ListN.{length, take, drop, length-append}
use lib.Seq.{length-take-le, take_at}
use Rattle.buffer.specs.Buffer.{Listed}

module _ {text old new : List ℕ} {r : ℕ} (l : Listed text old new r) where
  pub within : r ≤ length new
  within = omega (arith, l.size, ap length l.contents, length-append text (drop (length text) old))

  pub counts : r ≡ length (take r new)
  counts = sym (length-take-le r new within)

  pub is-the-text : take r new ≡ text
  is-the-text = rw l.contents (take_at text (drop (length text) old) r (sym l.size))
