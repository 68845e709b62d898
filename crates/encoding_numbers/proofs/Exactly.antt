-- The reading finds the encoding that fourteen numbers mean, and none where they mean none; and they mean at most one.
-- The tests hold exactly where each number stands in its table, and there the tables give value and number back (Tables).
use Rattle.std.specs.Prelude.{Some, None}
use Prim.Native.Nat.{ℕ, ◌≤◌, ◌<◌}
use mathlib.Core.Path.{◌≡◌, refl, ap, sym, subst, ◌∙◌}
use mathlib.Core.Bool.{Bool, true, false}
use mathlib.Core.List.{List}
use mathlib.Core.Logic.{◌↔◌, ◌⊎◌, inl, inr, ⊎_elim}
use native.Mathlib.Omega.{arith}
use borrow.Author.Tests.{eq-eqb, ne_eqb, eqb-true, leb-true, le-leb, ltb-true, lt-ltb}
use lib.Dec.{eqb, leb, ltb}
use lib.IntN.{ℤ, pos}
use mir.Syntax.{w32}
use mir.Val.{SFits}
use Rattle.notation.proofs.Tests.{both-exactly, either-exactly}
use Rattle.ciexyz.specs.declared.Millionths.{Millionths}
use Rattle.op.specs.declared.Curve.{Curve}
use Rattle.op.specs.declared.Curve.TheVariants as C
use Rattle.op_fields.specs.Curves.{curve_number, curve_numbered}
use Rattle.op_fields.proofs.Numbers.{number_back}
use Rattle.encoding.specs.declared.EnumColourEncoding.{EnumColourEncoding}
use Rattle.encoding.specs.declared.ColourEncoding.{ColourEncoding}
use Rattle.encoding.specs.declared.ColourEncoding.TheVariants as E
use Rattle.encoding_numbers.specs.Means.{number_at, IsPoint, AreOf, Mean}
use Rattle.encoding_numbers.specs.Sides.{natural, natural_at, space_numbered, intent_numbered, white_numbered, primaries_numbered, point_at, in_tables, encoding_in, side_of}
use Rattle.encoding_numbers.specs.Sides.{Side}
use Rattle.encoding_numbers.proofs.Tables.{whole, space-small, space-back, space-number, intent-small, intent-back, intent-number, white_small, white-back, white-number, white-point, primaries-small, primaries-back, primaries-number, primaries-points, curve_small, curve_back, curve_gamma}

at_most : (a b : ℕ) → (leb a b ≡ true) ↔ (a ≤ b)
at_most a b = (leb-true a b, le-leb a b)

below : (a b : ℕ) → (ltb a b ≡ true) ↔ (a < b)
below a b = (ltb-true a b, lt-ltb a b)

inside : {e f : ColourEncoding} → Some e ≡ Some f → e ≡ f
inside h = cc

no_side : {e : ColourEncoding} → None ≡ Some e → ⊥
no_side h = let z : ◌≡◌ {A = ℕ} 0 1 = cc in omega arith

-- the numbers of a lent array: `g` is an i32
module _ (ns : List ℤ) (held : SFits w32 (number_at ns 12)) where
  abbrev Small : ℕ → ℕ → Type 0
  Small i last = natural_at ns i ≤ last

  abbrev Tabled : Type 0
  Tabled = ((((Small 0 3 × Small 1 3) × Small 4 3) × Small 11 8) × Small 13 3) × ((1 < natural_at ns 11) ⊎ Small 12 0x7fff_ffff)

  tabled-exactly : (in_tables ns ≡ true) ↔ Tabled
  unfolding in_tables
  tabled-exactly =
      both-exactly
      (both-exactly
      (both-exactly
      (both-exactly (both-exactly (at_most (natural_at ns 0) 3) (at_most (natural_at ns 1) 3)) (at_most (natural_at ns 4) 3))
      (at_most (natural_at ns 11) 8))
      (at_most (natural_at ns 13) 3))
      (either-exactly (below 1 (natural_at ns 11)) (at_most (natural_at ns 12) 0x7fff_ffff))

  -- ---- numbers of an encoding are read as it

  module _ (e : EnumColourEncoding) (m : AreOf ns e) where
    small : (i n last : ℕ) → number_at ns i ≡ pos n → n ≤ last → Small i last
    small i n last k h = subst (λ (z : ℤ). natural z ≤ last) (sym k) h

    gamma-small : (c : Curve) → ((g : ℕ) (inverted : Bool) → c ≡ C.Gamma g inverted → number_at ns 12 ≡ pos g) → natural_at ns 11 ≡ curve_number c
        → (1 < natural_at ns 11) ⊎ Small 12 0x7fff_ffff
    gamma-small (C.Gamma g inverted) k n =
        let h = (subst (SFits w32) (k g inverted refl) held).sfits in
        inr (small 12 g 0x7fff_ffff (k g inverted refl) (omega arith))
    gamma-small C.Bt709 k n = inl (omega arith)
    gamma-small C.Unknown k n = inl (omega arith)
    gamma-small C.Linear k n = inl (omega arith)
    gamma-small C.Srgb k n = inl (omega arith)
    gamma-small C.Pq k n = inl (omega arith)
    gamma-small C.Dci k n = inl (omega arith)
    gamma-small C.Hlg k n = inl (omega arith)

    tabled : in_tables ns ≡ true
    tabled =
        tabled-exactly.1 (
          (
            (
              (
                (small 0 _ 3 m.space (space-small e.colour_space), small 1 _ 3 m.white (white_small e.white_point)),
                small 4 _ 3 m.primaries (primaries-small e.primaries),
              ),
              small 11 _ 8 m.curve (curve_small e.tf),
            ),
            small 13 _ 3 m.intent (intent-small e.rendering_intent),
          ),
          gamma-small e.tf (λ g inverted k. m.gamma k) (ap natural m.curve),
        )

    point-is : (i : ℕ) (p : Millionths) → IsPoint ns i p → point_at ns i ≡ p
    point-is i p h = rw (h.0, h.1)

    encoding-is : encoding_in ns ≡ e
    unfolding encoding_in
    encoding-is =
        let s : space_numbered (natural_at ns 0) ≡ e.colour_space = ap (λ (z : ℤ). space_numbered (natural z)) m.space ∙ space-back e.colour_space in
        let w : white_numbered (natural_at ns 1) (point_at ns 2) ≡ e.white_point =
        ap (λ (z : ℤ). white_numbered (natural z) (point_at ns 2)) m.white
        ∙ white-back (point_at ns 2) e.white_point (λ q k. point-is 2 q (m.point k)) in
        let p : primaries_numbered (natural_at ns 4) (point_at ns 5) (point_at ns 7) (point_at ns 9) ≡ e.primaries =
        ap (λ (z : ℤ). primaries_numbered (natural z) (point_at ns 5) (point_at ns 7) (point_at ns 9)) m.primaries
        ∙ primaries-back (point_at ns 5) (point_at ns 7) (point_at ns 9) e.primaries (λ x y z k. let h = m.points k in (point-is 5 x h.0, point-is 7 y h.1, point-is 9 z h.2)) in
        let c : curve_numbered (natural_at ns 11) (natural_at ns 12) ≡ e.tf =
        ap (λ (z : ℤ). curve_numbered (natural z) (natural_at ns 12)) m.curve ∙ curve_back e.tf (natural_at ns 12) (λ g inverted k. ap natural (m.gamma k)) in
        let i : intent_numbered (natural_at ns 13) ≡ e.rendering_intent = ap (λ (z : ℤ). intent_numbered (natural z)) m.intent ∙ intent-back e.rendering_intent in
        rw (s, w, p, c, i)

    not-four : ¬ (natural_at ns 0 ≡ 4)
    not-four k = let h = small 0 _ 3 m.space (space-small e.colour_space) in absurd (omega arith)

  found : (e : ColourEncoding) → Mean ns e → side_of ns ≡ Some e
  found E.IccProfile m = rw (eq-eqb (natural_at ns 0) 4 (ap natural m))
  found (E.Enum e) m = rw (ne_eqb (natural_at ns 0) 4 (not-four e m), tabled e m, encoding-is e m)

  -- ---- and what is read are their numbers

  read : Tabled → AreOf ns (encoding_in ns)
  unfolding encoding_in
  read t =
      let s = t.0.0.0.0.0 in
      let w = t.0.0.0.0.1 in
      let p = t.0.0.0.1 in
      let c = t.0.0.1 in
      let i = t.0.1 in
      record {
        space = whole (number_at ns 0) 3 s (omega arith) ∙ ap pos (sym (space-number (natural_at ns 0) s));
        white = whole (number_at ns 1) 3 w (omega arith) ∙ ap pos (sym (white-number (point_at ns 2) (natural_at ns 1) w));
        point = λ {p = q} k. both 2 (white-point (point_at ns 2) q (natural_at ns 1) w k);
        primaries = whole (number_at ns 4) 3 p (omega arith) ∙ ap pos (sym (primaries-number (point_at ns 5) (point_at ns 7) (point_at ns 9) (natural_at ns 4) p));
        points = λ {r = x} {g = y} {b = z} k. let h = primaries-points (point_at ns 5) (point_at ns 7) (point_at ns 9) x y z (natural_at ns 4) p k in (both 5 h.0, both 7 h.1, both 9 h.2);
        curve = whole (number_at ns 11) 8 c (omega arith) ∙ ap pos (sym (number_back (natural_at ns 11) (natural_at ns 12) c));
        gamma = λ {g} {inverted} k. let h = curve_gamma (natural_at ns 11) (natural_at ns 12) g inverted c k in whole (number_at ns 12) 0x7fff_ffff (small-gamma h.0 t.1) (omega arith) ∙ ap pos h.1;
        intent = whole (number_at ns 13) 3 i (omega arith) ∙ ap pos (sym (intent-number (natural_at ns 13) i));
      }
    where
      both : (i : ℕ) {p : Millionths} → point_at ns i ≡ p → IsPoint ns i p
      both i h = (ap (λ (m : Millionths). m.x) h, ap (λ (m : Millionths). m.y) h)

      small-gamma : natural_at ns 11 ≤ 1 → (1 < natural_at ns 11) ⊎ Small 12 0x7fff_ffff → Small 12 0x7fff_ffff
      small-gamma h = ⊎_elim (λ k. absurd (omega arith)) (λ k. k)

  means : (e : ColourEncoding) → side_of ns ≡ Some e → Mean ns e
  means e k = by (eqb (natural_at ns 0) 4) (in_tables ns) refl refl
    where
      by : (a b : Bool) → eqb (natural_at ns 0) 4 ≡ a → in_tables ns ≡ b → Mean ns e
      by true b f g =
          let n = eqb-true (natural_at ns 0) 4 f in
          let h : Some E.IccProfile ≡ Some e = sym (rw f) ∙ k in
          subst (Mean ns) (inside h) (whole (number_at ns 0) 4 (omega arith) (omega arith) ∙ ap pos n)
      by false true f g = let h : Some (E.Enum (encoding_in ns)) ≡ Some e = sym (rw (f, g)) ∙ k in subst (Mean ns) (inside h) (read (tabled-exactly.0 g))
      by false false f g = absurd (no_side (sym (rw (f, g)) ∙ k))

  -- the encoding that is read is the one that the numbers mean
  pub means_exactly : (e : ColourEncoding) → (side_of ns ≡ Some e) ↔ Mean ns e
  means_exactly e = (means e, found e)

  -- they mean at most one
  pub at_most_one : (e f : ColourEncoding) → Mean ns e → Mean ns f → e ≡ f
  at_most_one e f m n = inside (sym (found e m) ∙ found f n)

  -- none is read exactly where they mean none
  pub nothing-exactly : (side_of ns ≡ None) ↔ ((e : ColourEncoding) → ¬ Mean ns e)
  nothing-exactly = (λ k e m. no_side (sym k ∙ found e m), λ h. by (side_of ns) refl h)
    where
      by : (s : Side) → side_of ns ≡ s → ((e : ColourEncoding) → ¬ Mean ns e) → side_of ns ≡ None
      by (Some e) k h = absurd (h e (means e k))
      by None k h = k
