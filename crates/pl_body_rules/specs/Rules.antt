-- The first rule that a body breaks, in reading order: PostgreSQL manual, PL/pgSQL, "Structure of
-- PL/pgSQL", "Control Structures", "Trapping Errors" and "Looping Through a Cursor's Result".
use Rattle.std.specs.Prelude.{ℕ, List, [], ◌∷◌, ◌++◌, length, map, Option, Some, None}
use Rattle.std.specs.Option.{option_or}
use Rattle.pl_base.specs.declared.state.State.{State}
use Rattle.pl_bodies.specs.declared.declaration.Declaration.{Declaration}
use Rattle.pl_bodies.specs.declared.simple.Simple.{Simple}
use Rattle.pl_bodies.specs.declared.statement.Block.{Block, out-Block, fold-Block}
use Rattle.pl_bodies.specs.declared.statement.Body.{Body}
use Rattle.pl_bodies.specs.declared.statement.Caught.{Caught}
use Rattle.pl_bodies.specs.declared.statement.Branch.{Branch, out-Branch}
use Rattle.pl_bodies.specs.declared.statement.CaseArm.{CaseArm, out-CaseArm}
use Rattle.pl_bodies.specs.declared.statement.Handler.{Handler, out-Handler}
use Rattle.pl_bodies.specs.declared.statement.Loop.{Loop, fold-Loop}
use Rattle.pl_bodies.specs.declared.statement.LoopHead.TheVariants as head
use Rattle.pl_bodies.specs.declared.statement.LoopHead.{LoopHead}
use Rattle.pl_bodies.specs.declared.statement.Otherwise.{Otherwise, out-Otherwise}
use Rattle.pl_bodies.specs.declared.statement.Statement.{Statement, fold-Statement}
use Rattle.pl_bodies.specs.declared.statement.StatementKind.TheOpen as l
use Rattle.pl_bodies.specs.declared.statement.StatementKind.TheOpen.{StatementKind-F, Block-F}
use Rattle.pl_bodies.specs.declared.statement.StatementKind.TheOpen.{Branch-F, CaseArm-F, Handler-F}
use Rattle.pl_bodies.specs.declared.statement.StatementKind.TheOpen.{Loop-F, Otherwise-F, Statement-F}
use Rattle.pl_bodies.specs.declared.statement.StatementKind.{StatementKind, fold-StatementKind}
use Rattle.pl_body_rules.specs.Conditions.{caught_state}
use Rattle.pl_body_rules.specs.Declaring.{declared}
use Rattle.pl_body_rules.specs.Frames.{Name, Variables, variable_named, with_variable}
use Rattle.pl_body_rules.specs.Heading.{Routine, routine_frame, handler_frame, variable}
use Rattle.pl_body_rules.specs.Returning.{returns_of}
use Rattle.pl_body_rules.specs.Simple.{simple_state, written_state, cursor_loop_state, end_state}
use Rattle.pl_body_rules.specs.declared.breach.Breach.{Breach}
use Rattle.pl_body_rules.specs.declared.declaring.Declared.TheVariants as made
use Rattle.pl_body_rules.specs.declared.declaring.Declared.{Declared}
use Rattle.pl_body_rules.specs.declared.frames.Frame.{Frame}
use Rattle.pl_body_rules.specs.declared.frames.FrameKind.TheVariants as kind
use Rattle.pl_body_rules.specs.declared.returning.Returns.{Returns}
use Rattle.pl_body_rules.specs.declared.variables.VariableKind.TheVariants.{Plain, Row}

-- what a part breaks first where these frames stand around it, the outermost first
abbrev pub Means : Type 0
Means = List Frame → Option Breach

-- a part of the statement on this line
abbrev pub Part : Type 0
Part = ℕ → Means

-- a handler of the block that has this label
abbrev pub HandlerPart : Type 0
HandlerPart = Option Name → Part

abbrev pub at : ℕ → Option State → Option Breach
at line None = None
at line (Some state) = Some (record { state = state; line = line })

-- ---- lists of parts

abbrev pub first : List Means → List Frame → Option Breach
first [] frames = None
first (m ∷ ms) frames = option_or (m frames) (first ms frames)

abbrev pub first_on : Option Name → ℕ → List HandlerPart → List Frame → Option Breach
first_on label line [] frames = None
first_on label line (h ∷ hs) frames =
    option_or (h label line frames) (first_on label line hs frames)

abbrev pub if_there : Option Means → List Frame → Option Breach
if_there None frames = None
if_there (Some m) frames = m frames

-- ---- loops

abbrev pub head_state : LoopHead → List Frame → Option State
head_state (head.Rows targets source) frames = written_state targets frames
head_state (head.Cursor x cursor arguments) frames =
    cursor_loop_state (variable_named cursor frames) (length arguments)
head_state h frames = None

-- the variable of its own that a loop has
abbrev pub with_loop_variable : LoopHead → Variables → Variables
with_loop_variable (head.Range x is_reverse low high step) vs =
    with_variable x (variable Plain) vs
with_loop_variable (head.Cursor x cursor arguments) vs = with_variable x (variable Row) vs
with_loop_variable h vs = vs

abbrev pub loop_frame : Option Name → LoopHead → Frame
loop_frame label h = record {
  label = label;
  kind = kind.Loop;
  variables = with_loop_variable h [];
}

abbrev pub loop_means : Option Name → LoopHead → List Means → Option Name → ℕ → List Frame
    → Option Breach
loop_means label h statements end_label line frames =
    option_or (at line (head_state h frames))
    (option_or (first statements (frames ++ loop_frame label h ∷ []))
    (at line (end_state label end_label)))

-- ---- blocks

abbrev pub handler_means : List Caught → List Means → Option Name → ℕ → List Frame → Option Breach
handler_means conditions statements label line frames =
    option_or (at line (caught_state conditions))
    (first statements (frames ++ handler_frame label ∷ []))

abbrev pub parts_means : List Means → List HandlerPart → Option Name → ℕ → List Frame
    → Option Breach
parts_means statements handlers label line frames =
    option_or (first statements frames) (first_on label line handlers frames)

-- the declarations, and if they break no rule the rest, where their frame is the innermost
abbrev pub then_inside : Declared → Means → List Frame → Option Breach
then_inside (made.Breach breach) rest outer = Some breach
then_inside (made.Frame frame) rest outer = rest (outer ++ frame ∷ [])

abbrev pub block_rest : Option Name → List Means → List HandlerPart → Option Name → ℕ → List Frame
    → Option Breach
block_rest label statements handlers end_label line frames =
    option_or (parts_means statements handlers label line frames)
    (at line (end_state label end_label))

abbrev pub block_means : Option Name → List Declaration → List Means → List HandlerPart
    → Option Name → ℕ → List Frame → Option Breach
block_means label declarations statements handlers end_label line frames =
    then_inside (declared label declarations frames [])
    (block_rest label statements handlers end_label line) frames

-- ---- one level of each tree, over what the parts break

abbrev pub Kinds : Type 1
Kinds = Type 0 → Type 0 → Type 0 → Type 0 → Type 0 → Type 0 → Type 0 → Type 0 → Type 0

-- statements' kinds, blocks, branches, arms, handlers, loops, ELSE, statements
abbrev pub Over : Kinds → Type 0
Over F = F Part Part Means Means HandlerPart Part Means Means

-- IF and CASE
abbrev pub choice_means : List Means → Option Means → ℕ → List Frame → Option Breach
choice_means parts otherwise line frames =
    option_or (first parts frames) (if_there otherwise frames)

abbrev pub simple_means : Returns → Simple → ℕ → List Frame → Option Breach
simple_means r simple line frames = at line (simple_state r simple frames)

abbrev pub kind_step : Returns → Over StatementKind-F → Part
kind_step r (l.Block block) = block
kind_step r (l.If branches otherwise) = choice_means branches otherwise
kind_step r (l.Case operand arms otherwise) = choice_means arms otherwise
kind_step r (l.Loop inner) = inner
kind_step r (l.Simple simple) = simple_means r simple

abbrev pub block_step : Over Block-F → Part
block_step b = block_means b.label b.declarations b.statements b.handlers b.end_label

abbrev pub branch_step : Over Branch-F → Means
branch_step b = first b.statements

abbrev pub arm_step : Over CaseArm-F → Means
arm_step a = first a.statements

abbrev pub handler_step : Over Handler-F → HandlerPart
handler_step h = handler_means h.conditions h.statements

abbrev pub loop_step : Over Loop-F → Part
loop_step inner = loop_means inner.label inner.head inner.statements inner.end_label

abbrev pub otherwise_step : Over Otherwise-F → Means
otherwise_step o = first o.statements

abbrev pub statement_step : Over Statement-F → Means
statement_step s = s.kind s.line

-- ---- whole trees

unfoldable pub in_kind : Returns → StatementKind → Part
in_kind r = fold-StatementKind Part Part Means Means HandlerPart Part Means Means
    (kind_step r) block_step branch_step arm_step handler_step loop_step otherwise_step
    statement_step

unfoldable pub in_block : Returns → Block → Part
in_block r = fold-Block Part Part Means Means HandlerPart Part Means Means
    (kind_step r) block_step branch_step arm_step handler_step loop_step otherwise_step
    statement_step

unfoldable pub in_loop : Returns → Loop → Part
in_loop r = fold-Loop Part Part Means Means HandlerPart Part Means Means
    (kind_step r) block_step branch_step arm_step handler_step loop_step otherwise_step
    statement_step

unfoldable pub in_statement : Returns → Statement → Means
in_statement r = fold-Statement Part Part Means Means HandlerPart Part Means Means
    (kind_step r) block_step branch_step arm_step handler_step loop_step otherwise_step
    statement_step

-- ---- a branch, an arm and the like, as the code comes to it

abbrev pub branch_view : Returns → Branch → Means
branch_view r b = first (map (in_statement r) (out-Branch b).statements)

abbrev pub arm_view : Returns → CaseArm → Means
arm_view r a = first (map (in_statement r) (out-CaseArm a).statements)

abbrev pub otherwise_view : Returns → Otherwise → Means
otherwise_view r o = first (map (in_statement r) (out-Otherwise o).statements)

abbrev pub handler_view : Returns → Handler → HandlerPart
handler_view r h =
    handler_means (out-Handler h).conditions (map (in_statement r) (out-Handler h).statements)

abbrev pub parts_view : Returns → Block → Part
parts_view r b =
    parts_means (map (in_statement r) (out-Block b).statements)
    (map (handler_view r) (out-Block b).handlers) (out-Block b).label

-- ---- bodies

abbrev pub first_breach : Routine → Body → Option Breach
first_breach r body = in_block (returns_of r) body.block body.line (routine_frame r ∷ [])
