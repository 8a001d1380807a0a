-- Values that are known with their types.
use Rattle.std.specs.Prelude.{◌≡◌, ◌||◌, ◌&&◌, Bool, true, false, not, Ok, Some, slice_get}
use Rattle.pl_base.specs.declared.operator.Operator.{Operator}
use Rattle.pl_base.specs.declared.operator.Operator.TheVariants.{Plus, Minus, Not, Is, IsNot}
use Rattle.pl_base.specs.declared.operator.Test.TheVariants.{Null}
use Rattle.pl_base.specs.declared.types.Ty.{Ty}
use Rattle.pl_base.specs.declared.types.Ty.TheVariants as type
use Rattle.pl_base.specs.declared.value.Value.{Value}
use Rattle.pl_base.specs.declared.value.Value.TheVariants as value
use Rattle.pl_calc.specs.Operators.{binary_value, unary_value}
use Rattle.pl_calc.specs.Types.{operator_type}
use Rattle.pl_direct.specs.declared.known.Known.{Known}
use Rattle.pl_direct.specs.declared.known.Known.TheVariants.{Int, Big, Bool as Truth}
use Rattle.pl_names.specs.declared.found.Meaning.{Meaning}
use Rattle.pl_value.specs.Frames.{Row}

abbrev pub type_of : Known → Ty
type_of (Int z) = type.Int
type_of (Big z) = type.Big
type_of (Truth b) = type.Bool

abbrev pub value_of : Known → Value
value_of (Int z) = value.Int z
value_of (Big z) = value.Big z
value_of (Truth b) = value.Bool b

-- it is this value, of this type
pub record Holds (k : Known) (ty : Ty) (v : Value) : Type 0 where
  pub is_type : ty ≡ type_of k
  pub is_value : v ≡ value_of k

-- the variable has this type and value
pub record Stands (m : Meaning) (row : Row) (ty : Ty) (v : Value) : Type 0 where
  pub is_type : m.ty ≡ ty
  pub is_value : slice_get row m.column ≡ Some v

-- the operator takes the two, and gives the third
pub record Operates (op : Operator) (a b k : Known) : Type 0 where
  pub types : operator_type op (type_of a) (type_of b) ≡ Ok (type_of k)
  pub values : binary_value op (value_of a) (value_of b) ≡ Ok (value_of k)

-- a minus before the first gives the second
pub record Turns (k turned : Known) : Type 0 where
  pub types : operator_type Plus (type_of k) (type_of k) ≡ Ok (type_of turned)
  pub values : unary_value Minus (value_of k) ≡ Ok (value_of turned)

-- NOT before the first gives the second; both are truths
pub record Opposes (k turned : Known) : Type 0 where
  pub operand : type_of k ≡ type.Bool
  pub types : type_of turned ≡ type.Bool
  pub values : unary_value Not (value_of k) ≡ Ok (value_of turned)

-- AND, or OR where true is what fixes it
abbrev pub together : Bool → Bool → Bool → Bool
together true a b = a || b
together false a b = a && b

-- what IS NULL and IS NOT NULL say of a value
pub record NullIs (v : Value) (is : Bool) : Type 0 where
  pub is_null : unary_value (Is Null) v ≡ Ok (value.Bool is)
  pub is_not_null : unary_value (IsNot Null) v ≡ Ok (value.Bool (not is))

-- what they say of a variable
pub record NullAt (m : Meaning) (row : Row) (is : Bool) : Type 0 where
  pub v : Value
  pub stands : slice_get row m.column ≡ Some v
  pub says : NullIs v is
