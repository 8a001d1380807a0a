-- Casts that are written: PostgreSQL manual, "Type Casts", "CREATE CAST".
use Rattle.std.specs.Prelude.{List, [], ◌∷◌, Result, Ok, Err, bytes_eq, if◌then◌else◌}
use Rattle.pl_base.specs.States.{CANNOT_COERCE, FEATURE_NOT_SUPPORTED}
use Rattle.pl_base.specs.declared.state.State.{State}
use Rattle.pl_base.specs.declared.types.Ty.{Ty}
use Rattle.pl_base.specs.declared.types.Ty.TheVariants.{Unknown, Int, Big, Text, Bool as Boolean}
use Rattle.pl_base.specs.declared.types.Ty.TheVariants.{Row, Rec}
use Rattle.pl_resolved.specs.declared.expression.RExpr.TheVariants.{Cast}
use Rattle.pl_typing.specs.declared.typed.Typed.{Typed}
use Rattle.pl_typing.specs.Headings.{cast_heading}
use Rattle.pl_typing.specs.Resolved.{Resolved, ◌>>=◌}
use Rattle.pl_typing.specs.Typing.{Name, headed}

-- there is no such cast
abbrev pub no_cast : Result Ty State
no_cast = Err CANNOT_COERCE

-- of a text, or of a literal that has no type
abbrev pub cast_of_text : Ty → Result Ty State
cast_of_text Int = Ok Int
cast_of_text Big = Ok Big
cast_of_text Text = Ok Text
cast_of_text Boolean = Ok Boolean
cast_of_text (Row name) = Err FEATURE_NOT_SUPPORTED
cast_of_text Rec = Err FEATURE_NOT_SUPPORTED
cast_of_text to = no_cast

abbrev pub cast_of_integer : Ty → Result Ty State
cast_of_integer Int = Ok Int
cast_of_integer Big = Ok Big
cast_of_integer Text = Ok Text
cast_of_integer Boolean = Ok Boolean
cast_of_integer to = no_cast

abbrev pub cast_of_bigint : Ty → Result Ty State
cast_of_bigint Int = Ok Int
cast_of_bigint Big = Ok Big
cast_of_bigint Text = Ok Text
cast_of_bigint to = no_cast

abbrev pub cast_of_boolean : Ty → Result Ty State
cast_of_boolean Int = Ok Int
cast_of_boolean Text = Ok Text
cast_of_boolean Boolean = Ok Boolean
cast_of_boolean to = no_cast

-- a row type is cast to itself alone
abbrev pub to_row : Name → Name → Result Ty State
to_row from to = if bytes_eq from to then Ok (Row to) else no_cast

abbrev pub cast_of_row : Name → Ty → Result Ty State
cast_of_row from Text = Ok Text
cast_of_row from (Row to) = to_row from to
cast_of_row from to = no_cast

abbrev pub cast_of_record : Ty → Result Ty State
cast_of_record Text = Ok Text
cast_of_record Rec = Ok Rec
cast_of_record to = no_cast

-- the type that a cast gives, where there is one
abbrev pub cast_type : Ty → Ty → Result Ty State
cast_type Unknown to = cast_of_text to
cast_type Text to = cast_of_text to
cast_type Int to = cast_of_integer to
cast_type Big to = cast_of_bigint to
cast_type Boolean to = cast_of_boolean to
cast_type (Row from) to = cast_of_row from to
cast_type Rec to = cast_of_record to
cast_type from to = no_cast

-- to each type in turn
abbrev pub cast_through : Ty → List Ty → Result Ty State
cast_through from [] = Ok from
cast_through from (to ∷ more) = cast_type from to >>= (λ ty. cast_through ty more)

-- of the first cast
abbrev pub heading : Name → List Ty → Name
heading head [] = head
heading head (ty ∷ more) = cast_heading head ty

unfoldable pub cast : Typed → List Ty → Resolved Typed
cast x types = cast_through x.ty types >>= (λ ty.
    Ok (headed (Cast x.tree types) ty (heading x.head types)))
