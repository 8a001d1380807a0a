-- What names and labels mean at a statement: PostgreSQL manual, PL/pgSQL, "Structure of PL/pgSQL"
-- and "Variable Scope". Of two that have a name the inner one is meant.
use Rattle.std.specs.Prelude.{ℕ, Bool, false, if◌then◌else◌, bytes_eq, is_some}
use Rattle.std.specs.Prelude.{List, [], ◌∷◌, ◌++◌, Option, Some, None}
use Rattle.std.specs.Map.{lookup}
use Rattle.std.specs.Option.{option_or}
use Rattle.pl_bodies.specs.declared.simple.Target.{Target}
use Rattle.pl_body_rules.specs.declared.frames.Frame.{Frame}
use Rattle.pl_body_rules.specs.declared.frames.FrameKind.TheVariants as kind
use Rattle.pl_body_rules.specs.declared.frames.FrameKind.{FrameKind}
use Rattle.pl_body_rules.specs.declared.variables.Variable.{Variable}
use Rattle.pl_body_rules.specs.declared.variables.VariableKind.TheVariants.{Row}
use Rattle.pl_body_rules.specs.declared.variables.VariableKind.{VariableKind}

abbrev pub Name : Type 0
Name = List ℕ

-- ---- the variables of one frame

abbrev pub Variables : Type 0
Variables = List (Name × Variable)

abbrev pub variable_in : Name → Variables → Option Variable
variable_in x vs = lookup (bytes_eq x) vs

-- a variable more; one of its name that is there already stays as it is
abbrev pub with_variable : Name → Variable → Variables → Variables
with_variable x v vs = if is_some (variable_in x vs) then vs else vs ++ (x, v) ∷ []

-- ---- the frames around a statement, the outermost first

-- of the innermost frame that has one
abbrev pub innermost : {A : Type 0} → (Frame → Option A) → List Frame → Option A
innermost f [] = None
innermost f (frame ∷ inner) = option_or (innermost f inner) (f frame)

-- whether the frame has this label
abbrev pub has_label : Name → Option Name → Bool
has_label x None = false
has_label x (Some label) = bytes_eq label x

abbrev pub is_labelled : Name → Frame → Bool
is_labelled x frame = has_label x frame.label

-- ---- variables

abbrev pub row_of_kind : VariableKind → Variable → Option Variable
row_of_kind Row v = Some v
row_of_kind k v = None

abbrev pub if_row : Option Variable → Option Variable
if_row None = None
if_row (Some v) = row_of_kind v.kind v

abbrev pub of_label : Name → Name → Frame → Option Variable
of_label q x frame =
    if is_labelled q frame then variable_in x frame.variables else None

-- `x`, or `q.x`: a field of the row or record q, or the variable x of what has the label q
abbrev pub named_in : Option Name → Name → Frame → Option Variable
named_in None x frame = variable_in x frame.variables
named_in (Some q) x frame = option_or (if_row (variable_in q frame.variables)) (of_label q x frame)

abbrev pub target_in : Target → Frame → Option Variable
target_in t frame = named_in t.qualifier t.name frame

-- the variable that a target is, or is a field of
abbrev pub variable_at : Target → List Frame → Option Variable
variable_at t frames = innermost (target_in t) frames

abbrev pub variable_named : Name → List Frame → Option Variable
variable_named x frames = variable_at (record { qualifier = None; name = x }) frames

-- ---- what EXIT and CONTINUE go to

abbrev pub if_loop : FrameKind → Option FrameKind
if_loop kind.Loop = Some kind.Loop
if_loop k = None

abbrev pub if_statement : FrameKind → Option FrameKind
if_statement kind.Block = Some kind.Block
if_statement kind.Loop = Some kind.Loop
if_statement k = None

-- the block or loop of this label, or without one the loop
abbrev pub goal_in : Option Name → Frame → Option FrameKind
goal_in None frame = if_loop frame.kind
goal_in (Some x) frame = if is_labelled x frame then if_statement frame.kind else None
