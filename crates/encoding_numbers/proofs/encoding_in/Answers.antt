-- `encoding_in` meets its contract.
-- Each part is that of its number, and of the points behind it.
use Rattle.encoding_numbers.specs.Sides.{encoding_in}
use Rattle.encoding_numbers.proofs.encoding_in.Goals as goal

pub returns : goal.returns
unfolding encoding_in
returns c =
    let i = c in
    let t = i in
    let g = t in
    let n = g in
    let p = n in
    let m = p in
    let w = m in
    let l = w in
    let s = l in
    let k = s in
    let blue = k in
    let green = blue in
    let red = green in
    let white = red in
    rw (
      c.intent_numbered.ensures,
      i.natural_at-6.ensures,
      t.curve_numbered.ensures,
      g.natural_at-5.ensures,
      n.natural_at-4.ensures,
      p.primaries_numbered.ensures,
      m.natural_at-3.ensures,
      w.white_numbered.ensures,
      l.natural_at-2.ensures,
      s.space_numbered.ensures,
      k.natural_at.ensures,
      blue.point_at-blue.ensures,
      green.point_at-green.ensures,
      red.point_at-red.ensures,
      white.point_at-white.ensures,
    )
