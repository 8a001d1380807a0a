-- The forms of bodies that a later part of the language brings. A body that has one is 0A000 where
-- it is made, and where a DO begins, so no run comes to one.
use Rattle.std.specs.Prelude.{Bool, true, false, ◌||◌, if◌then◌else◌, List, [], ◌∷◌, map}
use Rattle.std.specs.Prelude.{Option, Some, None}
use Rattle.std.specs.List.{list_any}
use Rattle.pl_base.specs.declared.types.Ty.{Ty}
use Rattle.pl_base.specs.declared.types.Ty.TheVariants as ty
use Rattle.pl_bodies.specs.declared.declaration.Declaration.{Declaration}
use Rattle.pl_bodies.specs.declared.declaration.DeclarationKind.{DeclarationKind}
use Rattle.pl_bodies.specs.declared.declaration.DeclarationKind.TheVariants as declare
use Rattle.pl_bodies.specs.declared.declaration.VariableType.{VariableType}
use Rattle.pl_bodies.specs.declared.declaration.VariableType.TheVariants as type
use Rattle.pl_bodies.specs.declared.simple.Simple.{Simple}
use Rattle.pl_bodies.specs.declared.simple.Simple.TheVariants as simple
use Rattle.pl_bodies.specs.declared.statement.Block.{Block, fold-Block}
use Rattle.pl_bodies.specs.declared.statement.Body.{Body}
use Rattle.pl_bodies.specs.declared.statement.Branch.{Branch, out-Branch}
use Rattle.pl_bodies.specs.declared.statement.CaseArm.{CaseArm, out-CaseArm}
use Rattle.pl_bodies.specs.declared.statement.Handler.{Handler, out-Handler}
use Rattle.pl_bodies.specs.declared.statement.Loop.{Loop, fold-Loop}
use Rattle.pl_bodies.specs.declared.statement.LoopHead.{LoopHead}
use Rattle.pl_bodies.specs.declared.statement.LoopHead.TheVariants as head
use Rattle.pl_bodies.specs.declared.statement.Otherwise.{Otherwise, out-Otherwise}
use Rattle.pl_bodies.specs.declared.statement.Statement.{Statement, fold-Statement}
use Rattle.pl_bodies.specs.declared.statement.StatementKind.{StatementKind, fold-StatementKind}
use Rattle.pl_bodies.specs.declared.statement.StatementKind.TheOpen.{Block-F, Branch-F, CaseArm-F}
use Rattle.pl_bodies.specs.declared.statement.StatementKind.TheOpen.{Handler-F, Loop-F, Otherwise-F}
use Rattle.pl_bodies.specs.declared.statement.StatementKind.TheOpen.{Statement-F, StatementKind-F}
use Rattle.pl_bodies.specs.declared.statement.StatementKind.TheOpen as kind

-- ---- variables

-- rows and records
abbrev pub is_scalar : Ty → Bool
is_scalar ty.Int = true
is_scalar ty.Big = true
is_scalar ty.Text = true
is_scalar ty.Bool = true
is_scalar t = false

abbrev pub type_waits : VariableType → Bool
type_waits (type.Ty t) = if is_scalar t then false else true
type_waits type.Cursor = true
type_waits (type.OfVariable x) = false
type_waits (type.OfColumn table column) = true

abbrev pub declared_waits : DeclarationKind → Bool
declared_waits (declare.Variable is_constant t is_not_null default) = type_waits t
declared_waits (declare.Cursor can_scroll parameters query) = true

abbrev pub declaration_waits : Declaration → Bool
declaration_waits d = declared_waits d.kind

-- ---- statements

-- cursors, EXECUTE, and what returns a set
abbrev pub simple_waits : Simple → Bool
simple_waits (simple.ReturnNext value) = true
simple_waits (simple.ReturnQuery query) = true
simple_waits (simple.ReturnExecute command) = true
simple_waits (simple.Execute command into) = true
simple_waits (simple.Open cursor source) = true
simple_waits (simple.Fetch cursor direction targets) = true
simple_waits (simple.Move cursor motion) = true
simple_waits (simple.Close cursor) = true
simple_waits s = false

-- loops over rows and cursors
abbrev pub head_waits : LoopHead → Bool
head_waits head.Forever = false
head_waits (head.While e) = false
head_waits (head.Range variable is_reverse first last step) = false
head_waits (head.Rows targets source) = true
head_waits (head.Cursor variable cursor arguments) = true

-- ---- whole bodies: whether a part waits, or one of its own parts does

abbrev pub any_waits : List Bool → Bool
any_waits [] = false
any_waits (b ∷ bs) = b || any_waits bs

-- a part that may be left out
abbrev pub if_there : Option Bool → Bool
if_there None = false
if_there (Some b) = b

abbrev pub Over : (Type 0 → Type 0 → Type 0 → Type 0 → Type 0 → Type 0 → Type 0 → Type 0 → Type 0)
    → Type 0
Over F = F Bool Bool Bool Bool Bool Bool Bool Bool

abbrev pub statement_kind_step : Over StatementKind-F → Bool
statement_kind_step (kind.Block b) = b
statement_kind_step (kind.If bs otherwise) = any_waits bs || if_there otherwise
statement_kind_step (kind.Case operand arms otherwise) = any_waits arms || if_there otherwise
statement_kind_step (kind.Loop l) = l
statement_kind_step (kind.Simple s) = simple_waits s

abbrev pub block_step : Over Block-F → Bool
block_step b =
    list_any declaration_waits b.declarations || any_waits b.statements || any_waits b.handlers

abbrev pub branch_step : Over Branch-F → Bool
branch_step b = any_waits b.statements

abbrev pub arm_step : Over CaseArm-F → Bool
arm_step a = any_waits a.statements

abbrev pub handler_step : Over Handler-F → Bool
handler_step h = any_waits h.statements

abbrev pub loop_step : Over Loop-F → Bool
loop_step l = head_waits l.head || any_waits l.statements

abbrev pub otherwise_step : Over Otherwise-F → Bool
otherwise_step o = any_waits o.statements

abbrev pub statement_step : Over Statement-F → Bool
statement_step s = s.kind

-- ---- whole trees

unfoldable pub kind_waits : StatementKind → Bool
kind_waits = fold-StatementKind Bool Bool Bool Bool Bool Bool Bool Bool
    statement_kind_step block_step branch_step arm_step handler_step loop_step otherwise_step
    statement_step

unfoldable pub block_waits : Block → Bool
block_waits = fold-Block Bool Bool Bool Bool Bool Bool Bool Bool
    statement_kind_step block_step branch_step arm_step handler_step loop_step otherwise_step
    statement_step

unfoldable pub loop_waits : Loop → Bool
loop_waits = fold-Loop Bool Bool Bool Bool Bool Bool Bool Bool
    statement_kind_step block_step branch_step arm_step handler_step loop_step otherwise_step
    statement_step

unfoldable pub statement_waits : Statement → Bool
statement_waits = fold-Statement Bool Bool Bool Bool Bool Bool Bool Bool
    statement_kind_step block_step branch_step arm_step handler_step loop_step otherwise_step
    statement_step

-- ---- a branch, an arm and the like, as the code comes to it

abbrev pub branch_waits : Branch → Bool
branch_waits b = any_waits (map statement_waits (out-Branch b).statements)

abbrev pub arm_waits : CaseArm → Bool
arm_waits a = any_waits (map statement_waits (out-CaseArm a).statements)

abbrev pub otherwise_waits : Otherwise → Bool
otherwise_waits o = any_waits (map statement_waits (out-Otherwise o).statements)

abbrev pub handler_waits : Handler → Bool
handler_waits h = any_waits (map statement_waits (out-Handler h).statements)

-- ---- bodies

abbrev pub body_waits : Body → Bool
body_waits b = block_waits b.block
