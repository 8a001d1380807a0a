-- What RETURN, RETURN NEXT and RETURN QUERY may be in a routine: PostgreSQL manual, PL/pgSQL,
-- "Returning from a Function".
use Rattle.std.specs.Prelude.{Bool, true, false, if◌then◌else◌, ◌||◌, Option, Some, None}
use Rattle.std.specs.List.{list_any}
use Rattle.pl_base.specs.States.{SYNTAX_ERROR, DATATYPE_MISMATCH}
use Rattle.pl_base.specs.declared.state.State.{State}
use Rattle.pl_base.specs.declared.types.Ty.TheVariants as ty
use Rattle.pl_base.specs.declared.types.Ty.{Ty}
use Rattle.pl_body_rules.specs.Heading.{Routine}
use Rattle.pl_body_rules.specs.declared.heading.Kind.TheVariants.{Function, Procedure, Do}
use Rattle.pl_body_rules.specs.declared.heading.Kind.{Kind}
use Rattle.pl_body_rules.specs.declared.returning.Returns.TheVariants.{Nothing, Value, Rows, Variables}
use Rattle.pl_body_rules.specs.declared.returning.Returns.{Returns}
use Rattle.pl_tree.specs.declared.command.ResultType.TheVariants.{Absent, One, Set, Columns}
use Rattle.pl_tree.specs.declared.command.ResultType.{ResultType}
use Rattle.pl_tree.specs.declared.command.Way.TheVariants.{In, Out, InOut}
use Rattle.pl_tree.specs.declared.command.Way.{Way}

abbrev pub goes_out : Way → Bool
goes_out In = false
goes_out Out = true
goes_out InOut = true

abbrev pub is_void : Ty → Bool
is_void ty.Void = true
is_void t = false

-- with parameters that go out, or without
abbrev pub of_result : Bool → ResultType → Returns
of_result has_out Absent = Nothing
of_result has_out (One t) = if is_void t || has_out then Nothing else Value
of_result has_out (Set t) = if has_out then Variables else Rows
of_result has_out (Columns columns) = Variables

abbrev pub of_kind : Kind → Returns → Returns
of_kind Function r = r
of_kind Procedure r = Nothing
of_kind Do r = Nothing

abbrev pub returns_of : Routine → Returns
returns_of r = of_kind r.kind (of_result (list_any (λ p. goes_out p.way) r.params) r.result)

-- RETURN, with a value or without
abbrev pub return_state : Returns → Bool → Option State
return_state Value true = None
return_state Value false = Some SYNTAX_ERROR
return_state r true = Some DATATYPE_MISMATCH
return_state r false = None

-- RETURN NEXT, with a value or without
abbrev pub next_state : Returns → Bool → Option State
next_state Rows true = None
next_state Rows false = Some SYNTAX_ERROR
next_state Variables true = Some DATATYPE_MISMATCH
next_state Variables false = None
next_state r has_value = Some DATATYPE_MISMATCH

abbrev pub query_state : Returns → Option State
query_state Rows = None
query_state Variables = None
query_state r = Some DATATYPE_MISMATCH
