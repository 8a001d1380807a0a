-- How the value of an expression goes into a column: PostgreSQL manual, "Value Storage".
use Rattle.std.specs.Prelude.{Ok, Err, Bool, true, false, bytes_eq, if◌then◌else◌}
use Rattle.pl_base.specs.States.{DATATYPE_MISMATCH}
use Rattle.pl_base.specs.declared.types.Ty.{Ty}
use Rattle.pl_base.specs.declared.types.Ty.TheVariants.{Unknown, Int, Big, Text, Bool as Boolean}
use Rattle.pl_base.specs.declared.types.Ty.TheVariants.{Row, Rec}
use Rattle.pl_resolved.specs.declared.expression.RExpr.{RExpr}
use Rattle.pl_typing.specs.Resolved.{Resolved}
use Rattle.pl_typing.specs.Typing.{cast_node}
use Rattle.pl_typing.specs.declared.typed.Typed.{Typed}

-- a value of the first type is one of the second; a literal of no type is a text
abbrev pub is_kept : Ty → Ty → Bool
is_kept Unknown Text = true
is_kept Int Int = true
is_kept Big Big = true
is_kept Text Text = true
is_kept Boolean Boolean = true
is_kept (Row from) (Row to) = bytes_eq from to
is_kept from to = false

-- there is a cast that an assignment makes
abbrev pub is_assignable : Ty → Ty → Bool
is_assignable Unknown to = true
is_assignable Int Big = true
is_assignable Int Text = true
is_assignable Big Int = true
is_assignable Big Text = true
is_assignable Boolean Text = true
is_assignable (Row name) Text = true
is_assignable Rec Text = true
is_assignable from to = false

abbrev pub cast_assigned : Ty → Typed → Resolved RExpr
cast_assigned to x =
    if is_assignable x.ty to then Ok (cast_node to x.tree) else Err DATATYPE_MISMATCH

unfoldable pub assigned : Ty → Typed → Resolved RExpr
assigned to x = if is_kept x.ty to then Ok x.tree else cast_assigned to x
