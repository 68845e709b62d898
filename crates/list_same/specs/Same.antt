-- When two lists are the same: start width, count, end width and the ops below the count agree; slots past the count are "not compared
-- when lists are called the same" (01, Refusal numbers). An end width that is true follows from the rest, and a false one is not hidden.
-- Ops agree where their kind and their values do.
use Rattle.std.specs.Prelude.{Bool, true, false, ◌&&◌, List, [], ◌∷◌, eqb, ℤ, pos, negsuc, Float}
use Rattle.std.specs.Bool.{beq}
use Rattle.std.specs.Float.{nan, inf, fin}
use Rattle.list.specs.Lists.{ops_of}
use Rattle.op.specs.declared.Curve.{Curve}
use Rattle.op.specs.declared.Op.{Op}
use Rattle.op_fields.specs.declared.Value.{Value}
use Rattle.op_fields.specs.declared.Value.TheVariants.{Float as the_float, Flag as the_flag, Curve as the_curve}
use Rattle.op_fields.specs.declared.Cell.{Cell}
use Rattle.op_fields.specs.Curves.{curve_number, gamma_of}
use Rattle.op_fields.specs.Parts.{kind_of, values_of}
use Rattle.list.specs.declared.Plan.{Plan}

-- one value of the model: NaN is NaN, and +0 is not -0
abbrev pub same_whole : ℤ → ℤ → Bool
same_whole (pos m) (pos n) = eqb m n
same_whole (pos m) (negsuc n) = false
same_whole (negsuc m) (pos n) = false
same_whole (negsuc m) (negsuc n) = eqb m n

abbrev pub same_float : Float → Float → Bool
same_float nan nan = true
same_float nan (inf t) = false
same_float nan (fin t n d) = false
same_float (inf s) nan = false
same_float (inf s) (inf t) = beq s t
same_float (inf s) (fin t n d) = false
same_float (fin s m e) nan = false
same_float (fin s m e) (inf t) = false
same_float (fin s m e) (fin t n d) = beq s t && eqb m n && same_whole e d

abbrev pub same_all : {A : Type 0} → (A → A → Bool) → List A → List A → Bool
same_all same [] [] = true
same_all same [] (y ∷ ys) = false
same_all same (x ∷ xs) [] = false
same_all same (x ∷ xs) (y ∷ ys) = same x y && same_all same xs ys

-- curves agree where their number and `g` do
abbrev pub same_curve : Curve → Curve → Bool
same_curve a b = eqb (curve_number a) (curve_number b) && eqb (gamma_of a) (gamma_of b)

abbrev pub same_value : Value → Value → Bool
same_value (the_float x) (the_float y) = same_float x y
same_value (the_float x) (the_flag c) = false
same_value (the_float x) (the_curve d) = false
same_value (the_flag b) (the_float y) = false
same_value (the_flag b) (the_flag c) = beq b c
same_value (the_flag b) (the_curve d) = false
same_value (the_curve c) (the_float y) = false
same_value (the_curve c) (the_flag b) = false
same_value (the_curve c) (the_curve d) = same_curve c d

-- of values as the code holds them
abbrev pub same_cell : Cell → Cell → Bool
same_cell a b = same_value a.0 b.0

abbrev pub same_op : Op → Op → Bool
same_op a b = eqb (kind_of a) (kind_of b) && same_all same_value (values_of a) (values_of b)

abbrev pub same_list : Plan → Plan → Bool
same_list a b = eqb a.start b.start && eqb a.count b.count && eqb a.end b.end && same_all same_op (ops_of a) (ops_of b)
