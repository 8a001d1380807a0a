-- Which rule a statement breaks that holds no other: PostgreSQL manual, PL/pgSQL, "Basic
-- Statements", "Control Structures", "Cursors" and "Errors and Messages".
use Rattle.std.specs.Prelude.{ℕ, ◌==◌, Bool, false, if◌then◌else◌, bytes_eq, is_some, is_none, length}
use Rattle.std.specs.Prelude.{List, [], ◌∷◌, Option, Some, None}
use Rattle.std.specs.List.{list_any}
use Rattle.std.specs.Option.{option_or}
use Rattle.pl_base.specs.States.{SYNTAX_ERROR, ERROR_IN_ASSIGNMENT, DATATYPE_MISMATCH}
use Rattle.pl_base.specs.declared.state.State.{State}
use Rattle.pl_bodies.specs.declared.simple.IntoClause.{IntoClause}
use Rattle.pl_bodies.specs.declared.simple.Jump.TheVariants.{Continue}
use Rattle.pl_bodies.specs.declared.simple.Jump.{Jump}
use Rattle.pl_bodies.specs.declared.simple.OpenSource.TheVariants as from
use Rattle.pl_bodies.specs.declared.simple.OpenSource.{OpenSource}
use Rattle.pl_bodies.specs.declared.simple.Simple.TheVariants as does
use Rattle.pl_bodies.specs.declared.simple.Simple.{Simple}
use Rattle.pl_bodies.specs.declared.simple.Target.{Target}
use Rattle.pl_body_rules.specs.Frames.{Name, innermost, variable_at, variable_named, goal_in}
use Rattle.pl_body_rules.specs.Raising.{raise_state}
use Rattle.pl_body_rules.specs.Returning.{return_state, next_state, query_state}
use Rattle.pl_body_rules.specs.declared.frames.Frame.{Frame}
use Rattle.pl_body_rules.specs.declared.frames.FrameKind.TheVariants as kind
use Rattle.pl_body_rules.specs.declared.frames.FrameKind.{FrameKind}
use Rattle.pl_body_rules.specs.declared.returning.Returns.{Returns}
use Rattle.pl_body_rules.specs.declared.variables.Variable.{Variable}
use Rattle.pl_body_rules.specs.declared.variables.VariableKind.TheVariants.{Cursor, Bound}
use Rattle.pl_body_rules.specs.declared.variables.VariableKind.{VariableKind}

-- ---- variables that are given values

abbrev pub is_constant : Option Variable → Bool
is_constant None = false
is_constant (Some v) = v.is_constant

-- one of them is no variable, or else one is a constant
abbrev pub targets_state : {A : Type 0} → (A → Target) → List A → List Frame → Option State
targets_state target_of given frames =
    if list_any (λ x. is_none (variable_at (target_of x) frames)) given then Some SYNTAX_ERROR
    else (if list_any (λ x. is_constant (variable_at (target_of x) frames)) given
    then Some ERROR_IN_ASSIGNMENT else None)

abbrev pub written_state : List Target → List Frame → Option State
written_state targets frames = targets_state (λ target. target) targets frames

abbrev pub into_state : Option IntoClause → List Frame → Option State
into_state None frames = None
into_state (Some into) frames = written_state into.targets frames

-- ---- EXIT, CONTINUE and END

abbrev pub goes_to : Jump → Option FrameKind → Option State
goes_to jump None = Some SYNTAX_ERROR
goes_to Continue (Some kind.Block) = Some SYNTAX_ERROR
goes_to jump (Some k) = None

abbrev pub jump_state : Jump → Option Name → List Frame → Option State
jump_state jump label frames = goes_to jump (innermost (goal_in label) frames)

-- the name behind END is the label
abbrev pub end_state : Option Name → Option Name → Option State
end_state label None = None
end_state None (Some x) = Some SYNTAX_ERROR
end_state (Some label) (Some x) = if bytes_eq label x then None else Some SYNTAX_ERROR

-- ---- cursors

abbrev pub used_state : VariableKind → Option State
used_state Cursor = None
used_state (Bound parameters) = None
used_state k = Some DATATYPE_MISMATCH

-- MOVE and CLOSE
abbrev pub cursor_state : Option Variable → Option State
cursor_state None = Some SYNTAX_ERROR
cursor_state (Some v) = used_state v.kind

-- with the state of the targets
abbrev pub fetch_state : Option Variable → Option State → Option State
fetch_state None targets = Some SYNTAX_ERROR
fetch_state (Some v) targets = option_or targets (used_state v.kind)

abbrev pub arguments_state : ℕ → ℕ → Option State
arguments_state parameters arguments =
    if parameters == arguments then None else Some SYNTAX_ERROR

-- of a bound cursor
abbrev pub bound_state : ℕ → OpenSource → Option State
bound_state parameters (from.Bound arguments) = arguments_state parameters (length arguments)
bound_state parameters s = Some SYNTAX_ERROR

-- of one that isn't bound
abbrev pub free_state : OpenSource → Option State
free_state (from.Bound arguments) = Some SYNTAX_ERROR
free_state s = None

abbrev pub opened_state : VariableKind → OpenSource → Option State
opened_state Cursor s = free_state s
opened_state (Bound parameters) s = bound_state parameters s
opened_state k s = Some DATATYPE_MISMATCH

abbrev pub open_state : Option Variable → OpenSource → Option State
open_state None s = Some SYNTAX_ERROR
open_state (Some v) s = opened_state v.kind s

abbrev pub looped_state : VariableKind → ℕ → Option State
looped_state (Bound parameters) arguments = arguments_state parameters arguments
looped_state k arguments = Some SYNTAX_ERROR

-- FOR over a cursor, which has to be bound
abbrev pub cursor_loop_state : Option Variable → ℕ → Option State
cursor_loop_state None arguments = Some SYNTAX_ERROR
cursor_loop_state (Some v) arguments = looped_state v.kind arguments

-- ---- all of them

abbrev pub simple_state : Returns → Simple → List Frame → Option State
simple_state r (does.Assign target value) frames = written_state (target ∷ []) frames
simple_state r (does.Query query into) frames = into_state into frames
simple_state r (does.Change change into) frames = into_state into frames
simple_state r (does.Execute command into) frames = into_state into frames
simple_state r (does.GetDiagnostics targets) frames = written_state targets frames
simple_state r (does.GetStackedDiagnostics items) frames =
    targets_state (λ item. item.target) items frames
simple_state r (does.Jump jump label condition) frames = jump_state jump label frames
simple_state r (does.Return value) frames = return_state r (is_some value)
simple_state r (does.ReturnNext value) frames = next_state r (is_some value)
simple_state r (does.ReturnQuery query) frames = query_state r
simple_state r (does.ReturnExecute command) frames = query_state r
simple_state r (does.Raise raise) frames = raise_state raise
simple_state r (does.Open cursor source) frames = open_state (variable_named cursor frames) source
simple_state r (does.Fetch cursor direction targets) frames =
    fetch_state (variable_named cursor frames) (written_state targets frames)
simple_state r (does.Move cursor motion) frames = cursor_state (variable_named cursor frames)
simple_state r (does.Close cursor) frames = cursor_state (variable_named cursor frames)
simple_state r statement frames = None
