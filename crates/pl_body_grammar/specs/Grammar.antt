-- The pieces of a body, on the grammars of expressions and of commands.
use Rattle.std.specs.Prelude.{ℕ, Bool, true, false, List, [], ◌∷◌, Option, Some, None}
use Rattle.pl_tree.specs.declared.tree.Expr.{Expr}
use Rattle.pl_tree.specs.declared.tree.Item.{Item}
use Rattle.pl_tree.specs.declared.tree.Query.{Query as QueryTree}
use Rattle.pl_tree.specs.declared.command.Command.{Command as Command_}
use Rattle.pl_tree.specs.declared.command.Command.TheVariants as c
use Rattle.pl_tree.specs.declared.command.Definition.{Definition as Definition_}
use Rattle.pl_base.specs.declared.types.Ty.{Ty}
use Rattle.pl_bodies.specs.declared.declaration.CursorParameter.{CursorParameter as CursorParameter_}
use Rattle.pl_bodies.specs.declared.declaration.DeclarationKind.{DeclarationKind}
use Rattle.pl_bodies.specs.declared.declaration.DeclarationKind.TheVariants as d
use Rattle.pl_bodies.specs.declared.declaration.VariableType.{VariableType as VariableType_}
use Rattle.pl_bodies.specs.declared.simple.Change.{Change as Change_}
use Rattle.pl_bodies.specs.declared.simple.Condition.{Condition as Condition_}
use Rattle.pl_bodies.specs.declared.simple.Condition.TheVariants as condition
use Rattle.pl_bodies.specs.declared.simple.Direction.{Direction as Direction_}
use Rattle.pl_bodies.specs.declared.simple.Direction.TheVariants as direction
use Rattle.pl_bodies.specs.declared.simple.Dynamic.{Dynamic as Dynamic_}
use Rattle.pl_bodies.specs.declared.simple.IntoClause.{IntoClause}
use Rattle.pl_bodies.specs.declared.simple.Jump.TheVariants as jump
use Rattle.pl_bodies.specs.declared.simple.Level.{Level as Level_}
use Rattle.pl_bodies.specs.declared.simple.Level.TheVariants as level
use Rattle.pl_bodies.specs.declared.simple.Motion.{Motion as Motion_}
use Rattle.pl_bodies.specs.declared.simple.Motion.TheVariants as motion
use Rattle.pl_bodies.specs.declared.simple.OpenSource.{OpenSource}
use Rattle.pl_bodies.specs.declared.simple.OpenSource.TheVariants as opened
use Rattle.pl_bodies.specs.declared.simple.Raised.{Raised as Raised_}
use Rattle.pl_bodies.specs.declared.simple.Raised.TheVariants as raised
use Rattle.pl_bodies.specs.declared.simple.RaiseOption.{RaiseOption as Option_}
use Rattle.pl_bodies.specs.declared.simple.RaiseOptionKind.{RaiseOptionKind as OptionKind_}
use Rattle.pl_bodies.specs.declared.simple.RaiseOptionKind.TheVariants as kind
use Rattle.pl_bodies.specs.declared.simple.Simple.{Simple as Simple_}
use Rattle.pl_bodies.specs.declared.simple.Simple.TheVariants as simple
use Rattle.pl_bodies.specs.declared.simple.StackedItem.{StackedItem as StackedItem_}
use Rattle.pl_bodies.specs.declared.simple.StackedItem.TheVariants as item
use Rattle.pl_bodies.specs.declared.simple.StackedTarget.{StackedTarget as StackedTarget_}
use Rattle.pl_bodies.specs.declared.simple.Target.{Target as Target_}
use Rattle.pl_bodies.specs.declared.statement.Caught.{Caught as Caught_}
use Rattle.pl_bodies.specs.declared.statement.Caught.TheVariants as caught
use Rattle.pl_bodies.specs.declared.statement.LoopHead.{LoopHead}
use Rattle.pl_bodies.specs.declared.statement.LoopHead.TheVariants as head
use Rattle.pl_bodies.specs.declared.statement.RowSource.TheVariants as rows
use Rattle.pl_grammar.specs.Marks.{Tokens, Mark, name, text, a_name, a_text, a_written_name, sees}
use Rattle.pl_grammar.specs.Rule.{Rule, part, given, one, nothing, maybe, ◌before◌, ◌until◌, ◌then◌, make, check, fork, ◌or◌, prefer, links}
use Rattle.pl_grammar.specs.Forms.{alone, by, optional, list_of}
use Rattle.pl_grammar.specs.Words.{ALL, BY, CASE, DISTINCT, ELSE, END, FROM, IN, IS, NOT, NULL, OR, SELECT, THEN, WHEN, FIRST, LAST, OPEN, CLOSE, COMMA, DOT, EQUAL, PERCENT}
use Rattle.pl_expr_parse.specs.FirstFollow as first
use Rattle.pl_expr_parse.specs.Grammar as x
use Rattle.pl_expr_parse.specs.Finished.{finished}
use Rattle.pl_sql_parse.specs.Grammar as sql
use Rattle.pl_sql_parse.specs.Finished.{finished as finished_sql}
use Rattle.pl_sql_parse.specs.Words.{BEGIN, DECLARE, DEFAULT, DELETE, DO, EXECUTE, FOR, IF, INSERT, INTO, UPDATE, CALL, COMMIT, RELEASE, ROLLBACK, SAVEPOINT, START, TRANSACTION}
use Rattle.pl_body_grammar.specs.Ahead.{sees_pair}
use Rattle.pl_body_grammar.specs.Trees.{target_of, into_of, stacked_of, Tail, with_tail, dynamic_of, change_of, changed_of, variable_type_of, cursor_parameter_of, raise_of, option_of, upward_of, for_of}
use Rattle.pl_body_grammar.specs.Words.{LOOP, STRICT, USING, WHILE, ABSOLUTE, ASSERT, BACKWARD, CLOSE_CURSOR, CONSTANT, CONTINUE, CURRENT, CURSOR, DEBUG, DETAIL, DIAGNOSTICS, ELSEIF, ELSIF, ERRCODE, EXCEPTION, EXIT, FETCH, FORWARD, GET, HINT, INFO, LOG, MESSAGE, MESSAGE_TEXT, MOVE, NEXT, NO, NOTICE, OPEN_CURSOR, OTHERS, PERFORM, PG_EXCEPTION_DETAIL, PG_EXCEPTION_HINT, PRIOR, QUERY, RAISE, RELATIVE, RETURN, RETURNED_SQLSTATE, REVERSE, ROWTYPE, ROW_COUNT, SCROLL, SQLSTATE, STACKED, TYPE, WARNING, ASSIGN, CLOSE_LABEL, DOT_DOT, OPEN_LABEL, SEMICOLON}
use Rattle.pl_body_grammar.specs.declared.parts.ForSource.{ForSource as ForSource_}
use Rattle.pl_body_grammar.specs.declared.parts.ForSource.TheVariants as source
use Rattle.pl_body_grammar.specs.declared.parts.Piece.{Piece as Piece_}
use Rattle.pl_body_grammar.specs.declared.parts.Piece.TheVariants as piece
use Rattle.pl_body_grammar.specs.declared.parts.TypeSuffix.{TypeSuffix as TypeSuffix_}
use Rattle.pl_body_grammar.specs.declared.parts.TypeSuffix.TheVariants as suffix

pub data Part : Type 0 where
  BlockPiece : Part
  CasePiece : Part
  DeclarationPiece : Part
  Piece : Part
  OtherPiece : Part
  Ended : Part
  OptionalName : Part
  Opening : Part
  Condition : Part
  FirstArm : Part
  Values : Part
  Handler : Part
  Conditions : Part
  Caught : Part
  ConditionName : Part
  For : Part
  ForSource : Part
  Counted : Part
  Downward : Part
  Upward : Part
  Upper : Part
  Last : Part
  Declared : Part
  CursorDeclared : Part
  Scroll : Part
  CursorParameters : Part
  CursorParameter : Part
  BoundQuery : Part
  ForOrIs : Part
  VariableDeclared : Part
  Typed : Part
  VariableType : Part
  TypeSuffix : Part
  NotNull : Part
  Default : Part
  DefaultSign : Part
  Becomes : Part
  Assignment : Part
  Target : Part
  Targets : Part
  Into : Part
  Dynamic : Part
  Using : Part
  Expressions : Part
  Statement : Part
  Action : Part
  Control : Part
  Jump : Part
  Return : Part
  ReturnNext : Part
  ReturnQuery : Part
  Raise : Part
  Level : Part
  Raised : Part
  Format : Part
  UsingOptions : Part
  Options : Part
  RaiseOption : Part
  OptionKind : Part
  Assert : Part
  Get : Part
  RowCounts : Part
  StackedTargets : Part
  RowCount : Part
  StackedTarget : Part
  StackedItem : Part
  Cursor : Part
  Opened : Part
  OpenedFor : Part
  Scrolled : Part
  NotScrolled : Part
  Fetch : Part
  FetchedFrom : Part
  Direction : Part
  Place : Part
  FromName : Part
  FromOrIn : Part
  Move : Part
  Motion : Part
  Forward : Part
  Backward : Part
  Command : Part
  Perform : Part
  Select : Part
  QueryEnd : Part
  Selected : Part
  IntoItems : Part
  Execute : Part
  Changed : Part
  Change : Part
  Transaction : Part
  OtherCommand : Part

abbrev pub Name : Type 0
Name = List ℕ

-- what each is read as
abbrev pub Tree : Part → Type 0
Tree BlockPiece = Piece_
Tree CasePiece = Piece_
Tree DeclarationPiece = Piece_
Tree Piece = Piece_
Tree OtherPiece = Piece_
Tree Ended = Piece_
Tree OptionalName = Option Name
Tree Opening = Piece_
Tree Condition = Expr
Tree FirstArm = Option Expr × List Expr
Tree Values = List Expr
Tree Handler = List Caught_
Tree Conditions = List Caught_
Tree Caught = Caught_
Tree ConditionName = Condition_
Tree For = LoopHead
Tree ForSource = ForSource_
Tree Counted = ForSource_
Tree Downward = ForSource_
Tree Upward = ForSource_
Tree Upper = Option (Expr × Option Expr)
Tree Last = Expr × Option Expr
Tree Declared = DeclarationKind
Tree CursorDeclared = DeclarationKind
Tree Scroll = Bool
Tree CursorParameters = List CursorParameter_
Tree CursorParameter = CursorParameter_
Tree BoundQuery = QueryTree
Tree ForOrIs = Unit {0}
Tree VariableDeclared = DeclarationKind
Tree Typed = VariableType_ × (Bool × Option Expr)
Tree VariableType = VariableType_
Tree TypeSuffix = TypeSuffix_
Tree NotNull = Bool
Tree Default = Option Expr
Tree DefaultSign = Unit {0}
Tree Becomes = Unit {0}
Tree Assignment = Simple_
Tree Target = Target_
Tree Targets = List Target_
Tree Into = IntoClause
Tree Dynamic = Dynamic_
Tree Using = List Expr
Tree Expressions = List Expr
Tree Statement = Piece_
Tree Action = Simple_
Tree Control = Simple_
Tree Jump = Option Name × Option Expr
Tree Return = Simple_
Tree ReturnNext = Option Expr
Tree ReturnQuery = Simple_
Tree Raise = Simple_
Tree Level = Level_
Tree Raised = Raised_ × List Option_
Tree Format = List ℕ × List Expr
Tree UsingOptions = List Option_
Tree Options = List Option_
Tree RaiseOption = Option_
Tree OptionKind = OptionKind_
Tree Assert = Simple_
Tree Get = Simple_
Tree RowCounts = List Target_
Tree StackedTargets = List StackedTarget_
Tree RowCount = Target_
Tree StackedTarget = StackedTarget_
Tree StackedItem = StackedItem_
Tree Cursor = Simple_
Tree Opened = OpenSource
Tree OpenedFor = OpenSource
Tree Scrolled = OpenSource
Tree NotScrolled = OpenSource
Tree Fetch = Simple_
Tree FetchedFrom = Direction_ × Name
Tree Direction = Direction_
Tree Place = Direction_
Tree FromName = Name
Tree FromOrIn = Unit {0}
Tree Move = Simple_
Tree Motion = Motion_ × Name
Tree Forward = Motion_ × Name
Tree Backward = Motion_ × Name
Tree Command = Simple_
Tree Perform = Simple_
Tree Select = Simple_
Tree QueryEnd = Tail
Tree Selected = Bool × (Option IntoClause × List Item)
Tree IntoItems = Option IntoClause × List Item
Tree Execute = Simple_
Tree Changed = Simple_
Tree Change = Change_
Tree Transaction = Simple_
Tree OtherCommand = Command_

abbrev pub R : Type 0 → Type 1
R A = Rule Tree A

-- ---- what other grammars spell

abbrev pub expression : R Expr
expression = given (finished x.Expression)

-- an expression of level 6 or tighter
abbrev pub operand : R Expr
operand = given (finished x.Concatenation)

abbrev pub query : R QueryTree
query = given (finished x.Query)

-- [DISTINCT | ALL] items
abbrev pub selected : R (Bool × List Item)
selected = given (finished x.Selected)

abbrev pub items : R (List Item)
items = given (finished x.Items)

-- what stands behind the items of a query
abbrev pub tail : R Tail
tail =
    given (finished x.Sources) then given (finished x.Condition) then given (finished x.Groups)
    then given (finished x.Having) then given (finished x.Order) then given (finished x.Paging)

abbrev pub type : R Ty
type = given (finished x.TypeName)

-- INSERT, UPDATE, DELETE, DO and CALL, each behind its word
abbrev pub insert : R Command_
insert = given (finished_sql sql.Insert)

abbrev pub update : R Command_
update = given (finished_sql sql.Update)

abbrev pub delete : R Command_
delete = given (finished_sql sql.Delete)

abbrev pub do_body : R Command_
do_body = given (finished_sql sql.Do)

abbrev pub call : R Command_
call = given (finished_sql sql.Call)

-- [SAVEPOINT] name
abbrev pub savepoint_name : R Name
savepoint_name = given (finished_sql sql.SavepointName)

abbrev pub definition : R Definition_
definition = given (finished_sql sql.Definition)

-- ---- what is told by tokens ahead. A word that may be a name too is the word in capitals where
-- what stands behind it may stand behind that word.

abbrev pub is_assignment : Tokens → Bool
is_assignment = sees_pair (name ∷ []) (DOT ∷ ASSIGN ∷ EQUAL ∷ [])

abbrev pub is_others : Tokens → Bool
is_others = sees OTHERS

abbrev pub is_code : Tokens → Bool
is_code = sees_pair (SQLSTATE ∷ []) (text ∷ [])

abbrev pub is_reverse : Tokens → Bool
is_reverse = sees_pair (REVERSE ∷ []) first.expression

abbrev pub is_cursor : Tokens → Bool
is_cursor = sees_pair (NO ∷ SCROLL ∷ CURSOR ∷ []) (SCROLL ∷ CURSOR ∷ OPEN ∷ FOR ∷ IS ∷ [])

abbrev pub is_constant : Tokens → Bool
is_constant = sees_pair (CONSTANT ∷ []) (name ∷ [])

abbrev pub returns_next : Tokens → Bool
returns_next = sees_pair (NEXT ∷ []) (SEMICOLON ∷ first.expression)

abbrev pub returns_query : Tokens → Bool
returns_query = sees_pair (QUERY ∷ []) (SELECT ∷ EXECUTE ∷ [])

abbrev pub levels : List Mark
levels = DEBUG ∷ LOG ∷ INFO ∷ NOTICE ∷ WARNING ∷ EXCEPTION ∷ []

abbrev pub has_level : Tokens → Bool
has_level = sees_pair levels (USING ∷ SQLSTATE ∷ name ∷ text ∷ [])

abbrev pub is_fetched : Tokens → Bool
is_fetched = sees_pair (name ∷ []) (INTO ∷ [])

abbrev pub is_moved : Tokens → Bool
is_moved = sees_pair (name ∷ []) (SEMICOLON ∷ [])

-- ---- what stands in a rule

-- [INTO into]
abbrev pub optional_into : R (Option IntoClause)
optional_into = optional INTO (part Into)

-- e;
abbrev pub before_semicolon : R Expr
before_semicolon = expression until SEMICOLON

-- QUERY and what it returns, or e;
abbrev pub returned_value : R Simple_
returned_value =
    prefer returns_query [] (QUERY before part ReturnQuery)
    (make (λ x. simple.Return (Some x)) before_semicolon)

-- a name with := or = or a point behind it is no word in capitals
abbrev pub assignment_or_other : R Piece_
assignment_or_other =
    prefer is_assignment [] (make piece.Simple (part Assignment)) (part OtherPiece)

-- e LOOP, behind WHILE
abbrev pub while_head : R Piece_
while_head = make (λ x. piece.Loop (head.While x)) (expression until LOOP)

abbrev pub changing : R Command_
changing = fork INSERT insert (fork UPDATE update (DELETE before delete))

-- TRANSACTION; behind START
abbrev pub started : R Command_
started = TRANSACTION before nothing c.StartTransaction until SEMICOLON

-- SAVEPOINT name; RELEASE [SAVEPOINT] name;
abbrev pub savepoint_command : R Command_
savepoint_command =
    fork SAVEPOINT (make c.Savepoint (one a_name until SEMICOLON))
    (RELEASE before make c.Release (savepoint_name until SEMICOLON))

-- DIAGNOSTICS target (:= | =) item {, target (:= | =) item}; behind STACKED
abbrev pub stacked_diagnostics : R Simple_
stacked_diagnostics = DIAGNOSTICS before make simple.GetStackedDiagnostics (part StackedTargets)

abbrev pub exception_item : R StackedItem_
exception_item =
    fork PG_EXCEPTION_DETAIL (nothing item.PgExceptionDetail)
    (PG_EXCEPTION_HINT before nothing item.PgExceptionHint)

-- ---- the grammar

abbrev pub rule : (p : Part) → R (Tree p)
-- ---- pieces, by what is open: the statements of a block, those of CASE, and declarations
rule BlockPiece = fork WHEN (make piece.Handler (part Handler)) (part Piece)
rule CasePiece = fork WHEN (make piece.Arm (part Values)) (part Piece)
rule DeclarationPiece =
    fork BEGIN (nothing piece.Begin)
    (make (λ p. piece.Declaration p.0 p.1) (one a_name then part Declared))
-- a name with := or = or a point behind it is no word in capitals
rule Piece =
    fork DECLARE (nothing piece.Declare)
    (fork BEGIN (nothing piece.Begin)
    (fork ELSE (nothing piece.Else)
    (fork LOOP (nothing (piece.Loop head.Forever)) assignment_or_other)))
rule OtherPiece =
    fork OPEN_LABEL (make piece.Label (one a_name until CLOSE_LABEL))
    (fork EXCEPTION (WHEN before make piece.Exception (part Handler))
    (fork END (part Ended) (part Opening or part Statement)))
-- what is behind END
rule Ended =
    fork IF (nothing piece.EndIf until SEMICOLON)
    (fork CASE (nothing piece.EndCase until SEMICOLON)
    (fork LOOP (make piece.EndLoop (part OptionalName until SEMICOLON))
    (make piece.End (part OptionalName until SEMICOLON))))
-- [name]
rule OptionalName = make Some (one a_name) or nothing None
-- what opens a part of a statement that holds others
rule Opening =
    fork IF (make piece.If (part Condition))
    (fork ELSIF (make piece.Elsif (part Condition))
    (fork ELSEIF (make piece.Elsif (part Condition))
    (fork CASE (make (λ p. piece.Case p.0 p.1) (part FirstArm))
    (fork WHILE while_head
    (FOR before make piece.Loop (part For))))))
-- e THEN
rule Condition = expression until THEN
-- [e] WHEN e {, e} THEN
rule FirstArm =
    fork WHEN (make (λ xs. (None, xs)) (part Values))
    (make (λ p. (Some p.0, p.1)) ((expression until WHEN) then part Values))
-- e {, e} THEN
rule Values = part Expressions until THEN
-- condition {OR condition} THEN
rule Handler = part Conditions until THEN
rule Conditions =
    make (λ p. p.0 ∷ p.1) (part Caught then links (by OR) (part Caught) alone)
rule Caught =
    prefer is_others [] (OTHERS before nothing caught.Others)
    (make caught.Condition (part ConditionName))
-- SQLSTATE text | name
rule ConditionName =
    prefer is_code (text ∷ []) (SQLSTATE before make condition.Code (one a_text))
    (make condition.Name (one a_name))
-- ---- loops
-- target {, target} IN source LOOP, behind FOR
rule For = check (λ p. for_of p.0 p.1) ((part Targets until IN) then part ForSource)
rule ForSource =
    fork EXECUTE (make (λ x. source.Rows (rows.Execute x)) (part Dynamic until LOOP))
    (make (λ x. source.Rows (rows.Query x)) (query until LOOP)
    or make (λ x. source.Rows (rows.Change x)) (part Change until LOOP)
    or part Counted)
-- REVERSE e .. e [BY e] LOOP, or the same without REVERSE, or a cursor and LOOP
rule Counted = prefer is_reverse [] (REVERSE before part Downward) (part Upward)
rule Downward =
    make (λ p. source.Range true p.0 p.1.0 p.1.1) ((expression until DOT_DOT) then part Last)
rule Upward = check (λ p. upward_of p.0 p.1) (expression then part Upper)
rule Upper =
    fork DOT_DOT (make Some (part Last)) (nothing None until LOOP)
-- e [BY e] LOOP
rule Last = (expression then optional BY expression) until LOOP
-- ---- declarations
-- what is behind the name
rule Declared =
    prefer is_cursor [] (part CursorDeclared) (part VariableDeclared)
rule CursorDeclared =
    make (λ p. d.Cursor p.0 p.1.0 p.1.1)
    (part Scroll then CURSOR before part CursorParameters then part BoundQuery)
-- [[NO] SCROLL]
rule Scroll = fork NO (SCROLL before nothing false) (maybe SCROLL)
-- [(name type {, name type})]
rule CursorParameters =
    fork OPEN (list_of (part CursorParameter) until CLOSE) (nothing [])
rule CursorParameter =
    make (λ p. cursor_parameter_of p.0 p.1) (one a_name then type)
-- (FOR | IS) query;
rule BoundQuery = make (λ p. p.1) (part ForOrIs then query until SEMICOLON)
rule ForOrIs = fork FOR (nothing tt) (IS before nothing tt)
rule VariableDeclared =
    prefer is_constant [] (CONSTANT before make (λ p. d.Variable true p.0 p.1.0 p.1.1) (part Typed))
    (make (λ p. d.Variable false p.0 p.1.0 p.1.1) (part Typed))
rule Typed =
    part VariableType then part NotNull then part Default
rule VariableType =
    make (λ p. variable_type_of p.0.0 p.0.1 p.1) (one a_written_name then part TypeSuffix)
rule TypeSuffix =
    fork PERCENT (fork ROWTYPE (nothing suffix.RowType) (TYPE before nothing suffix.OfVariable))
    (fork DOT (make suffix.OfColumn (one a_name until PERCENT until TYPE)) (nothing suffix.Nothing))
-- [NOT NULL]
rule NotNull = fork NOT (NULL before nothing true) (nothing false)
-- [(DEFAULT | := | =) e];
rule Default =
    fork SEMICOLON (nothing None)
    (make (λ p. Some p.1) (part DefaultSign then expression until SEMICOLON))
rule DefaultSign = fork DEFAULT (nothing tt) (part Becomes)
-- := | =
rule Becomes = fork ASSIGN (nothing tt) (EQUAL before nothing tt)
-- ---- statements that hold no other, with their semicolon
rule Assignment =
    make (λ p. simple.Assign p.0 p.1.1)
    (part Target then part Becomes then expression until SEMICOLON)
-- name [. name]
rule Target = make (λ p. target_of p.0 p.1) (one a_name then optional DOT (one a_name))
rule Targets = list_of (part Target)
-- [STRICT] targets, behind INTO
rule Into = make (λ p. into_of p.0 p.1) (maybe STRICT then part Targets)
-- e [USING e {, e}]
rule Dynamic = make (λ p. dynamic_of p.0 p.1) (expression then part Using)
rule Using = fork USING (part Expressions) (nothing [])
rule Expressions = list_of expression
rule Statement =
    fork NULL (nothing (piece.Simple simple.Null) until SEMICOLON)
    (make piece.Definition (definition until SEMICOLON) or make piece.Simple (part Action))
rule Action = part Control or part Cursor or part Command
rule Control =
    fork EXIT (make (λ p. simple.Jump jump.Exit p.0 p.1) (part Jump))
    (fork CONTINUE (make (λ p. simple.Jump jump.Continue p.0 p.1) (part Jump))
    (fork RETURN (part Return)
    (fork RAISE (part Raise)
    (fork ASSERT (part Assert)
    (GET before part Get)))))
-- [name] [WHEN e];
rule Jump = (part OptionalName then optional WHEN expression) until SEMICOLON
rule Return =
    fork SEMICOLON (nothing (simple.Return None))
    (prefer returns_next [] (NEXT before make simple.ReturnNext (part ReturnNext)) returned_value)
-- [e];
rule ReturnNext =
    fork SEMICOLON (nothing None) (make Some before_semicolon)
rule ReturnQuery =
    fork EXECUTE (make simple.ReturnExecute (part Dynamic until SEMICOLON))
    (make simple.ReturnQuery (query until SEMICOLON))
rule Raise =
    fork SEMICOLON (nothing simple.RaiseAgain)
    (prefer has_level [] (make (λ p. raise_of p.0 p.1.0 p.1.1) (part Level then part Raised))
    (make (λ p. raise_of level.Exception p.0 p.1) (part Raised)))
rule Level =
    fork DEBUG (nothing level.Debug)
    (fork LOG (nothing level.Log)
    (fork INFO (nothing level.Info)
    (fork NOTICE (nothing level.Notice)
    (fork WARNING (nothing level.Warning) (EXCEPTION before nothing level.Exception)))))
-- what is raised, and options
rule Raised =
    fork USING (make (λ xs. (raised.Nothing, xs)) (part Options until SEMICOLON))
    (make (λ p. (raised.Text p.0.0 p.0.1, p.1)) (part Format then part UsingOptions)
    or make (λ p. (raised.Condition p.0, p.1)) (part ConditionName then part UsingOptions))
-- text {, e}
rule Format = one a_text then links (by COMMA) expression alone
-- [USING options];
rule UsingOptions =
    fork SEMICOLON (nothing []) (USING before part Options until SEMICOLON)
rule Options = list_of (part RaiseOption)
rule RaiseOption =
    make (λ p. option_of p.0 p.1.1) (part OptionKind then part Becomes then expression)
rule OptionKind =
    fork MESSAGE (nothing kind.Message)
    (fork DETAIL (nothing kind.Detail)
    (fork HINT (nothing kind.Hint) (ERRCODE before nothing kind.Errcode)))
-- e [, e];
rule Assert =
    make (λ p. simple.Assert p.0 p.1) ((expression then optional COMMA expression) until SEMICOLON)
rule Get =
    fork STACKED stacked_diagnostics
    (make (λ p. simple.GetDiagnostics p.1) (maybe CURRENT then DIAGNOSTICS before part RowCounts))
rule RowCounts = list_of (part RowCount) until SEMICOLON
rule StackedTargets = list_of (part StackedTarget) until SEMICOLON
rule RowCount = make (λ p. p.0) (part Target then part Becomes until ROW_COUNT)
rule StackedTarget =
    make (λ p. stacked_of p.0 p.1.1) (part Target then part Becomes then part StackedItem)
rule StackedItem =
    fork RETURNED_SQLSTATE (nothing item.ReturnedSqlstate)
    (fork MESSAGE_TEXT (nothing item.MessageText) exception_item)
-- ---- cursors
rule Cursor =
    fork OPEN_CURSOR (make (λ p. simple.Open p.0 p.1) (one a_name then part Opened))
    (fork FETCH (part Fetch)
    (fork MOVE (part Move)
    (CLOSE_CURSOR before make simple.Close (one a_name until SEMICOLON))))
-- [(args)]; | [[NO] SCROLL] FOR (query | EXECUTE dynamic);
rule Opened =
    fork SEMICOLON (nothing (opened.Bound []))
    (fork OPEN (make opened.Bound (part Expressions until CLOSE until SEMICOLON)) (part OpenedFor))
rule OpenedFor =
    fork NO (SCROLL before FOR before part NotScrolled)
    (fork SCROLL (FOR before part Scrolled) (FOR before part NotScrolled))
rule Scrolled =
    fork EXECUTE (make (opened.Execute true) (part Dynamic until SEMICOLON))
    (make (opened.Query true) (query until SEMICOLON))
rule NotScrolled =
    fork EXECUTE (make (opened.Execute false) (part Dynamic until SEMICOLON))
    (make (opened.Query false) (query until SEMICOLON))
-- [direction (FROM | IN)] name INTO targets;
rule Fetch =
    make (λ p. simple.Fetch p.0.1 p.0.0 p.1) (part FetchedFrom then part Targets until SEMICOLON)
rule FetchedFrom =
    prefer is_fetched [] (make (λ n. (direction.Next, n)) (one a_name until INTO))
    ((part Direction then part FromName) until INTO)
rule Direction =
    fork FORWARD (nothing direction.Next) (fork BACKWARD (nothing direction.Prior) (part Place))
-- the count is of level 6 or tighter, since IN may stand behind it
rule Place =
    fork NEXT (nothing direction.Next)
    (fork PRIOR (nothing direction.Prior)
    (fork FIRST (nothing direction.First)
    (fork LAST (nothing direction.Last)
    (fork ABSOLUTE (make direction.Absolute operand)
    (RELATIVE before make direction.Relative operand)))))
rule FromName = make (λ p. p.1) (part FromOrIn then one a_name)
rule FromOrIn = fork FROM (nothing tt) (IN before nothing tt)
rule Move =
    prefer is_moved []
    (make (λ n. simple.Move n (motion.To direction.Next)) (one a_name until SEMICOLON))
    (make (λ p. simple.Move p.1 p.0) (part Motion until SEMICOLON))
-- direction (FROM | IN) name
rule Motion =
    fork ALL (make (λ n. (motion.ForwardAll, n)) (part FromName))
    (fork FORWARD (part Forward)
    (fork BACKWARD (part Backward)
    (make (λ p. (motion.To p.0, p.1)) (part Place then part FromName))))
rule Forward =
    fork ALL (make (λ n. (motion.ForwardAll, n)) (part FromName))
    (make (λ n. (motion.To direction.Next, n)) (part FromName)
    or make (λ p. (motion.Forward p.0, p.1)) (operand then part FromName))
rule Backward =
    fork ALL (make (λ n. (motion.BackwardAll, n)) (part FromName))
    (make (λ n. (motion.To direction.Prior, n)) (part FromName)
    or make (λ p. (motion.Backward p.0, p.1)) (operand then part FromName))
-- ---- commands
rule Command =
    fork SELECT (part Select)
    (fork PERFORM (part Perform)
    (fork EXECUTE (part Execute)
    (part Transaction or part Changed or make simple.Command (part OtherCommand))))
rule Perform =
    make (λ p. simple.Perform (with_tail p.0.0 p.0.1 p.1)) (selected then part QueryEnd)
-- behind SELECT: INTO before or behind the items
rule Select =
    make (λ p. simple.Query (with_tail p.0.0 p.0.1.1 p.1) p.0.1.0)
    (part Selected then part QueryEnd)
-- FROM and what stands behind it
rule QueryEnd = tail until SEMICOLON
rule Selected =
    fork DISTINCT (make (λ p. (true, p)) (part IntoItems))
    (make (λ p. (false, p.1)) (maybe ALL then part IntoItems))
rule IntoItems =
    fork INTO (make (λ p. (Some p.0, p.1)) (part Into then items))
    (make (λ p. (p.1, p.0)) (items then optional_into))
-- e [INTO [STRICT] targets] [USING e {, e}];
rule Execute =
    make (λ p. simple.Execute (dynamic_of p.0 p.1.1) p.1.0)
    ((expression then optional_into then part Using) until SEMICOLON)
-- a change, with INTO behind RETURNING
rule Changed =
    check (λ p. changed_of p.0 p.1) ((part Change then optional_into) until SEMICOLON)
rule Change = check change_of changing
rule Transaction =
    fork COMMIT (nothing simple.Commit until SEMICOLON)
    (ROLLBACK before nothing simple.Rollback until SEMICOLON)
rule OtherCommand =
    fork DO (do_body until SEMICOLON)
    (fork CALL (call until SEMICOLON) (fork START started savepoint_command))
