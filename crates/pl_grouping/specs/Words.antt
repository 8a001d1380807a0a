-- Types, values and operators that are equal, as a truth that can be computed.
use Rattle.std.specs.Prelude.{Bool, true, false, ◌&&◌, List, [], ◌∷◌, bytes_eq}
use Rattle.std.specs.Ordering.{int_eq}
use Rattle.pl_base.specs.declared.operator.Arithmetic.{Arithmetic}
use Rattle.pl_base.specs.declared.operator.Arithmetic.TheVariants as arithmetic
use Rattle.pl_base.specs.declared.operator.Comparison.{Comparison}
use Rattle.pl_base.specs.declared.operator.Comparison.TheVariants as comparison
use Rattle.pl_base.specs.declared.operator.Operator.{Operator}
use Rattle.pl_base.specs.declared.operator.Operator.TheVariants as operator
use Rattle.pl_base.specs.declared.operator.Test.{Test}
use Rattle.pl_base.specs.declared.operator.Test.TheVariants as test
use Rattle.pl_base.specs.declared.types.Ty.{Ty}
use Rattle.pl_base.specs.declared.types.Ty.TheVariants as type
use Rattle.pl_base.specs.declared.value.Value.{Value}
use Rattle.pl_base.specs.declared.value.Value.TheVariants as value
use Rattle.pl_calc.specs.declared.functions.Builtin.{Builtin}
use Rattle.pl_calc.specs.declared.functions.Builtin.TheVariants as function
use Rattle.pl_resolved.specs.declared.expression.Combination.{Combination}
use Rattle.pl_resolved.specs.declared.expression.Combination.TheVariants as combination
use Rattle.pl_resolved.specs.declared.query.Aggregate.{Aggregate}
use Rattle.pl_resolved.specs.declared.query.Aggregate.TheVariants as aggregate

abbrev pub same_arithmetic : Arithmetic → Arithmetic → Bool
same_arithmetic arithmetic.Add arithmetic.Add = true
same_arithmetic arithmetic.Subtract arithmetic.Subtract = true
same_arithmetic arithmetic.Multiply arithmetic.Multiply = true
same_arithmetic arithmetic.Divide arithmetic.Divide = true
same_arithmetic arithmetic.Remainder arithmetic.Remainder = true
same_arithmetic a b = false

abbrev pub same_comparison : Comparison → Comparison → Bool
same_comparison comparison.Equal comparison.Equal = true
same_comparison comparison.NotEqual comparison.NotEqual = true
same_comparison comparison.Less comparison.Less = true
same_comparison comparison.Greater comparison.Greater = true
same_comparison comparison.LessOrEqual comparison.LessOrEqual = true
same_comparison comparison.GreaterOrEqual comparison.GreaterOrEqual = true
same_comparison a b = false

abbrev pub same_test : Test → Test → Bool
same_test test.Null test.Null = true
same_test test.True test.True = true
same_test test.False test.False = true
same_test test.Unknown test.Unknown = true
same_test a b = false

abbrev pub same_operator : Operator → Operator → Bool
same_operator operator.Plus operator.Plus = true
same_operator operator.Minus operator.Minus = true
same_operator operator.Distinct operator.Distinct = true
same_operator operator.NotDistinct operator.NotDistinct = true
same_operator operator.Concatenate operator.Concatenate = true
same_operator operator.Like operator.Like = true
same_operator operator.And operator.And = true
same_operator operator.Or operator.Or = true
same_operator operator.Not operator.Not = true
same_operator (operator.Arithmetic a) (operator.Arithmetic b) = same_arithmetic a b
same_operator (operator.Compare a) (operator.Compare b) = same_comparison a b
same_operator (operator.Is a) (operator.Is b) = same_test a b
same_operator (operator.IsNot a) (operator.IsNot b) = same_test a b
same_operator a b = false

abbrev pub same_type : Ty → Ty → Bool
same_type type.Unknown type.Unknown = true
same_type type.Int type.Int = true
same_type type.Big type.Big = true
same_type type.Text type.Text = true
same_type type.Bool type.Bool = true
same_type type.Rec type.Rec = true
same_type type.Void type.Void = true
same_type type.Trigger type.Trigger = true
same_type (type.Row a) (type.Row b) = bytes_eq a b
same_type a b = false

-- one for one
abbrev pub same_types : List Ty → List Ty → Bool
same_types [] [] = true
same_types [] (b ∷ others) = false
same_types (a ∷ more) [] = false
same_types (a ∷ more) (b ∷ others) = same_type a b && same_types more others

abbrev pub same_function : Builtin → Builtin → Bool
same_function function.Abs function.Abs = true
same_function function.Mod function.Mod = true
same_function function.Length function.Length = true
same_function function.Upper function.Upper = true
same_function function.Lower function.Lower = true
same_function function.Btrim function.Btrim = true
same_function function.Substr function.Substr = true
same_function function.Strpos function.Strpos = true
same_function function.Replace function.Replace = true
same_function function.Repeat function.Repeat = true
same_function a b = false

abbrev pub same_kind : Aggregate → Aggregate → Bool
same_kind aggregate.CountRows aggregate.CountRows = true
same_kind aggregate.Count aggregate.Count = true
same_kind aggregate.Sum aggregate.Sum = true
same_kind aggregate.Min aggregate.Min = true
same_kind aggregate.Max aggregate.Max = true
same_kind aggregate.BoolAnd aggregate.BoolAnd = true
same_kind aggregate.BoolOr aggregate.BoolOr = true
same_kind aggregate.StringAgg aggregate.StringAgg = true
same_kind a b = false

abbrev pub same_combination : Combination → Combination → Bool
same_combination (combination.Function a) (combination.Function b) = same_function a b
same_combination (combination.Greatest a) (combination.Greatest b) = same_type a b
same_combination (combination.Least a) (combination.Least b) = same_type a b
same_combination combination.NullIf combination.NullIf = true
same_combination combination.Between combination.Between = true
same_combination (combination.In a) (combination.In b) = same_type a b
same_combination a b = false

abbrev pub same_truth : Bool → Bool → Bool
same_truth true true = true
same_truth false false = true
same_truth a b = false

-- of one type too. No literal is a row, so none equals another
abbrev pub same_value : Value → Value → Bool
same_value value.Null value.Null = true
same_value (value.Int a) (value.Int b) = int_eq a b
same_value (value.Big a) (value.Big b) = int_eq a b
same_value (value.Text a) (value.Text b) = bytes_eq a b
same_value (value.Bool a) (value.Bool b) = same_truth a b
same_value a b = false
