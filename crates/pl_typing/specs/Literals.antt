-- Values that are written down: PostgreSQL manual, "Constants".
use Rattle.std.specs.Prelude.{ℕ, ℤ, pos, neg_ℤ, Option, Some, None, Ok, Bool, if◌then◌else◌}
use Rattle.pl_base.specs.declared.types.Ty.{Ty}
use Rattle.pl_base.specs.declared.types.Ty.TheVariants as type
use Rattle.pl_base.specs.declared.value.Value.{Value}
use Rattle.pl_base.specs.declared.value.Value.TheVariants as value
use Rattle.pl_calc.specs.Answer.{out_of_range}
use Rattle.pl_calc.specs.Numbers.{is_within}
use Rattle.pl_resolved.specs.declared.expression.RExpr.TheVariants.{Constant}
use Rattle.pl_tree.specs.declared.tree.Literal.{Literal}
use Rattle.pl_tree.specs.declared.tree.Literal.TheVariants.{Null, Bool as Truth, Number, Text}
use Rattle.pl_typing.specs.declared.typed.Typed.{Typed}
use Rattle.pl_typing.specs.Resolved.{Resolved}
use Rattle.pl_typing.specs.Typing.{typed}

abbrev pub constant : Value → Ty → Typed
constant v ty = typed (Constant v) ty

abbrev pub signed : Bool → ℕ → ℤ
signed is_negative size = if is_negative then neg_ℤ (pos size) else pos size

abbrev pub in_64_bits : ℤ → Option ℤ
in_64_bits z = if is_within 63 z then Some z else None

-- an integer where 32 bits hold it, else a bigint
abbrev pub sized : ℤ → Typed
sized z =
    if is_within 31 z then constant (value.Int z) type.Int else constant (value.Big z) type.Big

abbrev pub number_by : Option ℤ → Resolved Typed
number_by (Some z) = Ok (sized z)
number_by None = out_of_range

abbrev pub number_means : ℤ → Resolved Typed
number_means z = number_by (in_64_bits z)

abbrev pub literal_means : Literal → Resolved Typed
literal_means Null = Ok (constant value.Null type.Unknown)
literal_means (Truth b) = Ok (constant (value.Bool b) type.Bool)
literal_means (Number is_negative size) = number_means (signed is_negative size)
literal_means (Text t) = Ok (constant (value.Text t) type.Unknown)
