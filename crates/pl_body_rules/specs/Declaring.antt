-- What a block declares: PostgreSQL manual, PL/pgSQL, "Declarations".
use Rattle.std.specs.Prelude.{ℕ, ◌&&◌, Bool, false, if◌then◌else◌, is_some, is_none, length}
use Rattle.std.specs.Prelude.{List, [], ◌∷◌, Option, Some, None}
use Rattle.std.specs.Option.{option_or}
use Rattle.pl_base.specs.States.{SYNTAX_ERROR, NULL_VALUE_NOT_ALLOWED}
use Rattle.pl_base.specs.declared.state.State.{State}
use Rattle.pl_bodies.specs.declared.declaration.Declaration.{Declaration}
use Rattle.pl_bodies.specs.declared.declaration.DeclarationKind.TheVariants as declares
use Rattle.pl_bodies.specs.declared.declaration.DeclarationKind.{DeclarationKind}
use Rattle.pl_bodies.specs.declared.declaration.VariableType.TheVariants as ty
use Rattle.pl_bodies.specs.declared.declaration.VariableType.{VariableType}
use Rattle.pl_body_rules.specs.Frames.{Name, Variables, variable_in, with_variable, variable_named}
use Rattle.pl_body_rules.specs.Heading.{kind_of_type, variable}
use Rattle.pl_body_rules.specs.declared.declaring.Declared.TheVariants as made
use Rattle.pl_body_rules.specs.declared.declaring.Declared.{Declared}
use Rattle.pl_body_rules.specs.declared.frames.Frame.{Frame}
use Rattle.pl_body_rules.specs.declared.frames.FrameKind.TheVariants as kind
use Rattle.pl_body_rules.specs.declared.variables.Variable.{Variable}
use Rattle.pl_body_rules.specs.declared.variables.VariableKind.TheVariants.{Plain, Cursor, Bound}
use Rattle.pl_body_rules.specs.declared.variables.VariableKind.{VariableKind}

-- ---- one declaration, behind those before it in its block

-- what is of the type of a bound cursor is bound to nothing
abbrev pub unbound : VariableKind → VariableKind
unbound (Bound parameters) = Cursor
unbound k = k

abbrev pub kind_like : Option Variable → VariableKind
kind_like None = Plain
kind_like (Some v) = unbound v.kind

abbrev pub kind_of : VariableType → List Frame → Variables → VariableKind
kind_of (ty.Ty t) outer before = kind_of_type t
kind_of ty.Cursor outer before = Cursor
kind_of (ty.OfVariable x) outer before =
    kind_like (option_or (variable_in x before) (variable_named x outer))
kind_of (ty.OfColumn table column) outer before = Plain

abbrev pub variable_of : DeclarationKind → List Frame → Variables → Variable
variable_of (declares.Variable is_constant t is_not_null default) outer before =
    record { kind = kind_of t outer before; is_constant = is_constant }
variable_of (declares.Cursor can_scroll parameters query) outer before =
    variable (Bound (length parameters))

-- NOT NULL without a value
abbrev pub lacks_default : DeclarationKind → Bool
lacks_default (declares.Variable is_constant t is_not_null default) =
    is_not_null && is_none default
lacks_default (declares.Cursor can_scroll parameters query) = false

abbrev pub declaration_state : Declaration → Variables → Option State
declaration_state d before =
    if is_some (variable_in d.name before) then Some SYNTAX_ERROR
    else (if lacks_default d.kind then Some NULL_VALUE_NOT_ALLOWED else None)

-- ---- the declarations of a block

abbrev pub block_frame : Option Name → Variables → Frame
block_frame label vs = record { label = label; kind = kind.Block; variables = vs }

abbrev pub unless : Option State → ℕ → Declared → Declared
unless None line more = more
unless (Some state) line more = made.Breach (record { state = state; line = line })

-- the frame that they make, or the first that breaks a rule
abbrev pub declared : Option Name → List Declaration → List Frame → Variables → Declared
declared label [] outer before = made.Frame (block_frame label before)
declared label (d ∷ ds) outer before =
    unless (declaration_state d before) d.line
    (declared label ds outer (with_variable d.name (variable_of d.kind outer before) before))
