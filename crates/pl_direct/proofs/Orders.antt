-- Comparisons by the order of the two.
use Rattle.std.proofs.Common.{◌≡◌, ◌∙◌, ap, refl, sym, Bool, Option, Some, None, Ok}
use Rattle.std.specs.Prelude.{option_map}
use Rattle.std.specs.declared.cmp.Ordering.{Ordering}
use Rattle.pl_base.specs.declared.operator.Comparison.{Comparison}
use Rattle.pl_base.specs.declared.operator.Operator.TheVariants as operator
use Rattle.pl_calc.specs.Comparison.{answered, holds, order_of}
use Rattle.pl_calc.specs.Operators.{binary_value}
use Rattle.pl_calc.specs.Types.{operator_type}
use Rattle.pl_base.specs.declared.types.Ty.TheVariants as type
use Rattle.pl_base.specs.declared.value.Value.TheVariants as value
use Rattle.pl_direct.specs.Known.{Operates, type_of, value_of}
use Rattle.pl_direct.specs.declared.known.Known.{Known}
use Rattle.pl_direct.specs.declared.known.Known.TheVariants.{Int, Big, Bool as Truth}

alike : (op : Comparison) (a b : Known) (order : Ordering) → order_of (value_of a) (value_of b) ≡ Some order
    → operator_type (operator.Compare op) (type_of a) (type_of b) ≡ Ok type.Bool
alike op (Int a) (Int b) order is = refl
alike op (Int a) (Big b) order is = refl
alike op (Big a) (Int b) order is = refl
alike op (Big a) (Big b) order is = refl
alike op (Truth a) (Truth b) order is = refl
alike op (Int a) (Truth b) order is = absurd (let no : None ≡ Some order = is in cc)
alike op (Big a) (Truth b) order is = absurd (let no : None ≡ Some order = is in cc)
alike op (Truth a) (Int b) order is = absurd (let no : None ≡ Some order = is in cc)
alike op (Truth a) (Big b) order is = absurd (let no : None ≡ Some order = is in cc)

answers : (op : Comparison) (a b : Known) → binary_value (operator.Compare op) (value_of a) (value_of b) ≡ answered (option_map (holds op) (order_of (value_of a) (value_of b)))
answers op (Int a) (Int b) = refl
answers op (Int a) (Big b) = refl
answers op (Big a) (Int b) = refl
answers op (Big a) (Big b) = refl
answers op (Truth a) (Truth b) = refl
answers op (Int a) (Truth b) = refl
answers op (Big a) (Truth b) = refl
answers op (Truth a) (Int b) = refl
answers op (Truth a) (Big b) = refl

pub compared_in : (op : Comparison) (a b : Known) (order : Ordering) (t : Bool) → order_of (value_of a) (value_of b) ≡ Some order → t ≡ holds op order
    → Operates (operator.Compare op) a b (Truth t)
compared_in op a b order t is-order is = record {
  types = alike op a b order is-order;
  values = answers op a b
      ∙ (ap (λ (o : Option Ordering). answered (option_map (holds op) o)) is-order ∙ ap (λ (t : Bool). Ok (value.Bool t)) (sym is));
}
