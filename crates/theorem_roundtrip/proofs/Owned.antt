-- Every list that code holds is `Typed`: room for thirty_two, every float an f32, every `g` a u32.
-- Whoever holds a value of a declared type knows this of its fields, and of theirs in turn.
use Prim.Native.Nat.{ℕ, zero, suc, ◌<◌}
use mathlib.Core.Path.{sym, subst}
use mathlib.Core.List.{List, [], ◌∷◌, ◌++◌, map}
use native.Mathlib.Omega.{arith}
use mir.Val.{Val}
use lib.Dec.{T}
use lib.Ieee.{Float, binary32, fits}
use lib.ListN.{take}
use denote.Laws.{Is}
use denote.Shadow.{shadow}
use denote.Floats.{FloatOf}
use denote.Array.{each}
use denote.Enum.Declared as EnumOf
use denote.Struct.Declared as StructOf
use denote.Enum.Laws as Enum
use denote.Struct.Laws as Struct
use Rattle.ciexyz.specs.contracts.Vec3 as TVec3
use Rattle.ciexyz.proofs.Vec3.TheLaws as LVec3
use Rattle.ciexyz.specs.contracts.Mat3 as TMat3
use Rattle.ciexyz.proofs.Mat3.TheLaws as LMat3
use Rattle.ciexyz.specs.contracts.Xy as TXy
use Rattle.ciexyz.proofs.Xy.TheLaws as LXy
use Rattle.op.specs.declared.Luminances.{Luminances}
use Rattle.op.specs.contracts.Luminances as TLuminances
use Rattle.op.proofs.Luminances.TheLaws as LLuminances
use Rattle.op.specs.declared.HdrParams.{HdrParams}
use Rattle.op.specs.contracts.HdrParams as THdrParams
use Rattle.op.proofs.HdrParams.TheLaws as LHdrParams
use Rattle.op.specs.declared.Curve.{Curve}
use Rattle.op.specs.contracts.Curve as TCurve
use Rattle.op.proofs.Curve.TheLaws as LCurve
use Rattle.op.specs.declared.Op.{Op}
use Rattle.op.specs.contracts.Op as TOp
use Rattle.op.proofs.Op.TheLaws as LOp
use Rattle.list.specs.declared.Slot.{Slot}
use Rattle.list.specs.contracts.Slot as TSlot
use Rattle.list.proofs.Slot.TheLaws as LSlot
use Rattle.list.specs.declared.Plan.{Plan}
use Rattle.list.specs.contracts.Plan as TPlan
use Rattle.list.proofs.Plan.TheLaws as LPlan
use Rattle.op.specs.declared.Curve.TheVariants as C
use Rattle.op.specs.declared.Op.TheVariants as O
use Rattle.list.specs.Lists.{op_of}
use Rattle.op_fields.specs.declared.Value.{Value}
use Rattle.op_fields.specs.declared.Value.TheVariants.{Float as the_float, Flag as the_flag}
use Rattle.op_fields.specs.Curves.{gamma_of}
use Rattle.op_fields.specs.Parts.{luminances_values, params_values}
use Rattle.list.proofs.Owned.{thirty_two}
use Rattle.theorem_roundtrip.specs.Typed.{Held, All, OpHeld, Typed}

f32 : (x : Float) {vs : List Val} → Is (FloatOf binary32) x vs → T (fits binary32 x)
f32 x p = subst T (sym p.1) tt

-- of several values, and of those behind them
followed : (us ts : List Value) → All Held us → All Held ts → All Held (us ++ ts)
followed [] ts h k = k
followed (u ∷ us) ts h k = (h.0, followed us ts h.1 k)

luminances_held : (l : Luminances) {vs : List Val} → Is (StructOf.row TLuminances.the_type) l vs → All Held (luminances_values l)
luminances_held l p =
    let q = Struct.owed TLuminances.the_type LLuminances.the_laws l _ p in
    (f32 l.red q.0, (f32 l.green q.1.0, (f32 l.blue q.1.1.0, tt)))

params-held : (h : HdrParams) {vs : List Val} → Is (StructOf.row THdrParams.the_type) h vs → All Held (params_values h)
params-held h p =
    let q = Struct.owed THdrParams.the_type LHdrParams.the_laws h _ p in
    followed (luminances_values h.luminances) (the_float h.intensity_target ∷ the_float h.min_nits ∷ []) (luminances_held h.luminances q.0) (f32 h.intensity_target q.1.0, (f32 h.min_nits q.1.1.0, tt))

curve_held : (c : Curve) {vs : List Val} → Is (EnumOf.row TCurve.the_type) c vs → gamma_of c < 0x1_0000_0000
curve_held (C.Gamma g inverted) p = let q = Enum.owed TCurve.the_type LCurve.the_laws (C.Gamma g inverted) _ p in let r = q.0.1 in omega arith
curve_held C.Bt709 p = omega arith
curve_held C.Unknown p = omega arith
curve_held C.Linear p = omega arith
curve_held C.Srgb p = omega arith
curve_held C.Pq p = omega arith
curve_held C.Dci p = omega arith
curve_held C.Hlg p = omega arith

op-held : (o : Op) {vs : List Val} → Is (EnumOf.row TOp.the_type) o vs → OpHeld o
op-held o p = by o (Enum.owed TOp.the_type LOp.the_laws o _ p)
  where
    by : (o : Op) → Enum.Fields (EnumOf.variants TOp.the_type) (Enum.spellss (TOp.the_type).parts LOp.the_laws) ((TOp.the_type).to o) → OpHeld o
    by (O.XybToMixedLms b i) q =
        let r = Struct.owed TVec3.the_type LVec3.the_laws b _ q.0 in
        (f32 b.v0 r.0, (f32 b.v1 r.1.0, (f32 b.v2 r.1.1.0, (f32 i q.1.0, tt))))
    by (O.LumaToXyz w) q = let r = Struct.owed TXy.the_type LXy.the_laws w _ q.0 in (f32 w.x r.0, (f32 w.y r.1.0, tt))
    by O.XyzToLuma q = tt
    by (O.Matrix m) q =
        let r = Struct.owed TMat3.the_type LMat3.the_laws m _ q.0 in
        let s = r.1.1.1 in
        let t = s.1.1.1 in (
          f32 m.m0 r.0,
          (
            f32 m.m1 r.1.0,
            (
              f32 m.m2 r.1.1.0,
              (
                f32 m.m3 s.0,
                (
                  f32 m.m4 s.1.0,
                  (
                    f32 m.m5 s.1.1.0,
                    (f32 m.m6 t.0, (f32 m.m7 t.1.0, (f32 m.m8 t.1.1.0, tt))),
                  ),
                ),
              ),
            ),
          ),
        )
    by (O.TransferFunction c h i) q = (curve_held c q.0, (tt, params-held h q.1.0))
    by (O.HlgInverseOotf h) q = params-held h q.0
    by (O.ToneMapRec2408 h d b) q = followed (params_values h) (the_float d ∷ the_flag b ∷ []) (params-held h q.0) (f32 d q.1.0, (tt, tt))
    by (O.ToneMapLumaRec2408 h d b) q = followed (params_values h) (the_float d ∷ the_flag b ∷ []) (params-held h q.0) (f32 d q.1.0, (tt, tt))
    by (O.GamutMap l f) q = followed (luminances_values l) (the_float f ∷ []) (luminances_held l q.0) (f32 f q.1.0, tt)
    by O.Clip q = tt

slots_held : (n : ℕ) (ss : List Slot) (us : List Val) → shadow (each (TSlot.the_row).Denot (TSlot.the_row).own_val ss us) → All OpHeld (map op_of (take n ss))
slots_held zero ss us p = tt
slots_held (suc n) [] us p = tt
slots_held (suc n) (s ∷ ss) [] p = absurd p
slots_held (suc n) (s ∷ ss) (u ∷ us) p = (op-held s.op (Struct.owed TSlot.the_type LSlot.the_laws s _ p.0).0, slots_held n ss us p.1)

pub typed : (p : Plan) {vs : List Val} → Is (StructOf.row TPlan.the_type) p vs → Typed p
typed p h =
    let q = (Struct.owed TPlan.the_type LPlan.the_laws p _ h).1.1.1.0 in
    record { slots = thirty_two p h; values = slots_held p.count p.ops q.0 q.1.1 }
