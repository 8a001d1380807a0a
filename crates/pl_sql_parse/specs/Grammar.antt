-- The grammar of commands, on that of expressions and queries.
use Rattle.std.specs.Prelude.{ℕ, Bool, true, false, ◌||◌, List, [], ◌∷◌, Option, Some, None}
use Rattle.pl_base.specs.declared.types.Ty.{Ty}
use Rattle.pl_tree.specs.declared.tree.Expr.{Expr}
use Rattle.pl_tree.specs.declared.tree.Item.{Item}
use Rattle.pl_tree.specs.declared.tree.Argument.{Argument}
use Rattle.pl_tree.specs.declared.tree.Query.{Query as QueryTree}
use Rattle.pl_tree.specs.declared.command.Command.{Command as Command_}
use Rattle.pl_tree.specs.declared.command.Command.TheVariants as c
use Rattle.pl_tree.specs.declared.command.Definition.{Definition as Definition_}
use Rattle.pl_tree.specs.declared.command.Definition.TheVariants as d
use Rattle.pl_tree.specs.declared.command.NewRows.{NewRows as NewRows_}
use Rattle.pl_tree.specs.declared.command.NewRows.TheVariants as rows
use Rattle.pl_tree.specs.declared.command.NewRow.{NewRow as NewRow_}
use Rattle.pl_tree.specs.declared.command.NewValue.{NewValue as NewValue_}
use Rattle.pl_tree.specs.declared.command.NewValue.TheVariants as value
use Rattle.pl_tree.specs.declared.command.Assignment.{Assignment as Assignment_}
use Rattle.pl_tree.specs.declared.command.Element.{Element as Element_}
use Rattle.pl_tree.specs.declared.command.Element.TheVariants as element
use Rattle.pl_tree.specs.declared.command.ColumnRule.{ColumnRule as ColumnRule_}
use Rattle.pl_tree.specs.declared.command.ColumnRuleKind.{ColumnRuleKind as ColumnRuleKind_}
use Rattle.pl_tree.specs.declared.command.ColumnRuleKind.TheVariants as asks
use Rattle.pl_tree.specs.declared.command.TableRule.{TableRule as TableRule_}
use Rattle.pl_tree.specs.declared.command.TableRule.TheVariants as table_rule
use Rattle.pl_tree.specs.declared.command.RoutineKind.{RoutineKind}
use Rattle.pl_tree.specs.declared.command.RoutineKind.TheVariants as kind
use Rattle.pl_tree.specs.declared.command.Way.TheVariants as way
use Rattle.pl_tree.specs.declared.command.Param.{Param as Param_}
use Rattle.pl_tree.specs.declared.command.ResultType.{ResultType}
use Rattle.pl_tree.specs.declared.command.ResultType.TheVariants as result
use Rattle.pl_tree.specs.declared.command.Timing.{Timing as Timing_}
use Rattle.pl_tree.specs.declared.command.Timing.TheVariants as timing
use Rattle.pl_tree.specs.declared.command.TriggerEvent.{TriggerEvent}
use Rattle.pl_tree.specs.declared.command.TriggerEvent.TheVariants as event
use Rattle.pl_grammar.specs.Marks.{Tokens, name, a_name, a_text, a_table_name, a_bare_alias, sees_two, sees_three}
use Rattle.pl_grammar.specs.Rule.{Rule, part, given, one, nothing, maybe, ◌before◌, ◌until◌, ◌then◌, make, check, fork, ◌or◌, ahead, prefer, links, many}
use Rattle.pl_grammar.specs.Forms.{alone, by, optional, list_of, in_brackets}
use Rattle.pl_grammar.specs.Words.{AS, END, EXISTS, FROM, IN, NOT, NULL, ON, OR, ROW, WHERE, OPEN, CLOSE, COMMA, EQUAL}
use Rattle.pl_expr_parse.specs.Grammar as x
use Rattle.pl_expr_parse.specs.Finished.{finished}
use Rattle.pl_sql_parse.specs.Words.{ABORT, AFTER, BEFORE, BEGIN, CALL, CHECK, COMMIT, CONSTRAINT, CREATE, DEFAULT, DELETE, DO, DROP, EACH, EXECUTE, FOR, FOREIGN, FUNCTION, IF, IMMUTABLE, INOUT, INSERT, INTO, KEY, LANGUAGE, OUT, PRIMARY, PROCEDURE, REFERENCES, RELEASE, REPLACE, RESTRICT, RETURNING, RETURNS, ROLLBACK, SAVEPOINT, SET, SETOF, STABLE, START, TABLE, TO, TRANSACTION, TRIGGER, UNIQUE, UPDATE, VALUES, VOLATILE, WORK}
use Rattle.pl_sql_parse.specs.declared.parts.Clause.{Clause as Clause_}
use Rattle.pl_sql_parse.specs.declared.parts.Clause.TheVariants as clause
use Rattle.pl_sql_parse.specs.Trees.{insert_of, new_row_of, assignment_of, update_of, delete_of, call_of, rollback_of, new_table_of, column_rule_of, column_of, foreign_key_of, param_of, routine_of, trigger_of, drop_routine_of}

pub data Part : Type 0 where
  Command : Part
  Transaction : Part
  Work : Part
  Rollback : Part
  SavepointName : Part
  Do : Part
  Call : Part
  Insert : Part
  InsertAlias : Part
  Columns : Part
  Names : Part
  BracketedNames : Part
  NewRows : Part
  NewRow : Part
  NewValue : Part
  Returning : Part
  Update : Part
  FirstColumn : Part
  Assignment : Part
  Condition : Part
  Delete : Part
  Definition : Part
  Create : Part
  NewTable : Part
  IfNotExists : Part
  Element : Part
  TableRule : Part
  ForeignKey : Part
  BracketedExpression : Part
  Column : Part
  ColumnRules : Part
  ColumnRule : Part
  ColumnRuleKind : Part
  Referenced : Part
  NewRoutine : Part
  OrReplace : Part
  Signature : Part
  Params : Part
  Param : Part
  WayParam : Part
  NamedType : Part
  Returned : Part
  Result : Part
  ResultColumns : Part
  ResultColumn : Part
  Clauses : Part
  Clause : Part
  LanguageName : Part
  NewTrigger : Part
  Timing : Part
  Events : Part
  Event : Part
  Executed : Part
  Drop : Part
  DropRoutine : Part
  Dropped : Part
  IfExists : Part
  Types : Part

abbrev pub Name : Type 0
Name = List ℕ

-- what each is read as
abbrev pub Tree : Part → Type 0
Tree Command = Command_
Tree Transaction = Command_
Tree Work = Unit {0}
Tree Rollback = Command_
Tree SavepointName = Name
Tree Do = Command_
Tree Call = Command_
Tree Insert = Command_
Tree InsertAlias = Option Name
Tree Columns = List Name
Tree Names = List Name
Tree BracketedNames = List Name
Tree NewRows = NewRows_
Tree NewRow = NewRow_
Tree NewValue = NewValue_
Tree Returning = List Item
Tree Update = Command_
Tree FirstColumn = Option Name × Name
Tree Assignment = Assignment_
Tree Condition = Option Expr
Tree Delete = Command_
Tree Definition = Definition_
Tree Create = Definition_
Tree NewTable = Definition_
Tree IfNotExists = Bool
Tree Element = Element_
Tree TableRule = TableRule_
Tree ForeignKey = TableRule_
Tree BracketedExpression = Expr
Tree Column = Element_
Tree ColumnRules = List ColumnRule_
Tree ColumnRule = ColumnRule_
Tree ColumnRuleKind = ColumnRuleKind_
Tree Referenced = ColumnRuleKind_
Tree NewRoutine = Definition_
Tree OrReplace = Bool
Tree Signature = Name × List Param_
Tree Params = List Param_
Tree Param = Param_
Tree WayParam = Param_
Tree NamedType = Option Name × Ty
Tree Returned = ResultType × List Clause_
Tree Result = ResultType × List Clause_
Tree ResultColumns = List Param_
Tree ResultColumn = Param_
Tree Clauses = List Clause_
Tree Clause = Clause_
Tree LanguageName = List ℕ
Tree NewTrigger = Definition_
Tree Timing = Timing_
Tree Events = List TriggerEvent
Tree Event = TriggerEvent
Tree Executed = Name
Tree Drop = Definition_
Tree DropRoutine = Definition_
Tree Dropped = Bool × Name × Option (List Ty)
Tree IfExists = Bool
Tree Types = Option (List Ty)

abbrev pub R : Type 0 → Type 1
R A = Rule Tree A

-- a function has its result, a procedure has none
abbrev pub Routine : Type 0
Routine = RoutineKind × ((Name × List Param_) × (ResultType × List Clause_))

abbrev pub function_of : (Name × List Param_) × (ResultType × List Clause_) → Routine
function_of p = (kind.Function, p)

abbrev pub procedure_of : (Name × List Param_) × List Clause_ → Routine
procedure_of p = (kind.Procedure, (p.0, (result.Absent, p.1)))

-- ---- what another grammar spells

abbrev pub expression : R Expr
expression = given (finished x.Expression)

-- an expression of level 6 or tighter
abbrev pub operand : R Expr
operand = given (finished x.Concatenation)

abbrev pub query : R QueryTree
query = given (finished x.Query)

abbrev pub items : R (List Item)
items = given (finished x.Items)

-- [arguments])
abbrev pub arguments : R (List Argument)
arguments = given (finished x.Arguments)

-- [[AS] name]
abbrev pub alias : R (Option Name)
alias = given (finished x.Alias)

abbrev pub type : R Ty
type = given (finished x.TypeName)

-- ---- what is told by tokens ahead

-- an alias, SET and a column: SET itself may be an alias
abbrev pub has_alias : Tokens → Bool
has_alias = sees_three name SET name

abbrev pub names_savepoint : Tokens → Bool
names_savepoint = sees_two SAVEPOINT name

abbrev pub is_named : Tokens → Bool
is_named = sees_two name name

-- OUT or INOUT before what may be a type is the word in capitals
abbrev pub has_way : Tokens → Bool
has_way ts = sees_two OUT name ts || sees_two INOUT name ts

-- and so is SETOF
abbrev pub is_set : Tokens → Bool
is_set = sees_two SETOF name

-- ---- what stands in a rule

-- ROLLBACK, ABORT, SAVEPOINT, RELEASE
abbrev pub undoing : R Command_
undoing =
    fork ROLLBACK (part Rollback)
    (fork ABORT (make (λ w. c.Rollback) (part Work))
    (fork SAVEPOINT (make c.Savepoint (one a_name))
    (RELEASE before make c.Release (part SavepointName))))

-- = value {, name = value}
abbrev pub assigned : R (NewValue_ × List Assignment_)
assigned = EQUAL before part NewValue then links (by COMMA) (part Assignment) alone

-- CHECK (e) | UNIQUE | PRIMARY KEY | REFERENCES name [(name)]
abbrev pub other_rule_kind : R ColumnRuleKind_
other_rule_kind =
    fork CHECK (make asks.Check (part BracketedExpression))
    (fork UNIQUE (nothing asks.Unique)
    (fork PRIMARY (KEY before nothing asks.PrimaryKey)
    (REFERENCES before part Referenced)))

-- ---- the grammar

abbrev pub rule : (p : Part) → R (Tree p)
-- commands that define nothing
rule Command =
    fork INSERT (part Insert)
    (fork UPDATE (part Update)
    (fork DELETE (part Delete)
    (fork DO (part Do)
    (fork CALL (part Call)
    (make c.Query query or part Transaction)))))
rule Transaction =
    fork BEGIN (make (λ w. c.Begin) (part Work))
    (fork START (TRANSACTION before nothing c.StartTransaction)
    (fork COMMIT (make (λ w. c.Commit) (part Work))
    (fork END (make (λ w. c.Commit) (part Work)) undoing)))
-- [WORK | TRANSACTION]
rule Work = fork WORK (nothing tt) (make (λ w. tt) (maybe TRANSACTION))
-- [work] [TO savepoint]
rule Rollback = make (λ p. rollback_of p.1) (part Work then optional TO (part SavepointName))
-- [SAVEPOINT] name
rule SavepointName = ahead names_savepoint (name ∷ []) (SAVEPOINT before one a_name) (one a_name)
-- LANGUAGE name text | text [LANGUAGE name]
rule Do =
    fork LANGUAGE (make (λ p. c.Do (Some p.0) p.1) (one a_name then one a_text))
    (make (λ p. c.Do p.1 p.0) (one a_text then optional LANGUAGE (one a_name)))
-- name([arguments])
rule Call = check (λ p. call_of p.0 p.1) (one a_name then OPEN before arguments)
-- ---- rows that are written
-- INTO name [AS name] [(names)] rows [RETURNING items]
rule Insert =
    make (λ p. insert_of p.0 p.1.0 p.1.1.0 p.1.1.1.0 p.1.1.1.1)
    (INTO before one a_table_name then part InsertAlias then part Columns then part NewRows then part Returning)
rule InsertAlias = optional AS (one a_name)
-- [(names)]
rule Columns = fork OPEN (part Names until CLOSE) (nothing [])
rule Names = list_of (one a_name)
rule BracketedNames = in_brackets (part Names)
-- VALUES row {, row} | DEFAULT VALUES | query
rule NewRows = fork VALUES (make rows.Values (list_of (part NewRow))) (fork DEFAULT (VALUES before nothing rows.Defaults) (make rows.Query query))
-- (value {, value})
rule NewRow = make new_row_of (in_brackets (list_of (part NewValue)))
-- e | DEFAULT
rule NewValue = fork DEFAULT (nothing value.Default) (make value.Value expression)
-- [RETURNING items]
rule Returning = fork RETURNING items (nothing [])
-- name [[AS] name] SET name = value {, name = value} [WHERE e] [RETURNING items]
rule Update =
    make (λ p. update_of p.0 p.1.0.0 p.1.0.1 p.1.1.0.0 p.1.1.0.1 p.1.1.1.0 p.1.1.1.1)
    (one a_table_name then part FirstColumn then assigned then part Condition then part Returning)
-- [[AS] name] SET name
rule FirstColumn =
    fork AS (make (λ p. (Some p.0, p.1)) ((one a_name until SET) then one a_name))
    (ahead has_alias (name ∷ []) (make (λ p. (Some p.0, p.1)) ((one a_bare_alias until SET) then one a_name)) (SET before make (λ n. (None, n)) (one a_name)))
rule Assignment = make (λ p. assignment_of p.0 p.1) (one a_name then EQUAL before part NewValue)
-- [WHERE e]
rule Condition = optional WHERE expression
-- FROM name [[AS] name] [WHERE e] [RETURNING items]
rule Delete = make (λ p. delete_of p.0 p.1.0 p.1.1.0 p.1.1.1) (FROM before one a_table_name then alias then part Condition then part Returning)
-- ---- definitions
rule Definition = fork CREATE (part Create) (DROP before part Drop)
rule Create = fork TABLE (part NewTable) (fork TRIGGER (part NewTrigger) (part NewRoutine))
-- ---- tables
-- [IF NOT EXISTS] name (element {, element})
rule NewTable = make (λ p. new_table_of p.0 p.1.0 p.1.1) (part IfNotExists then one a_table_name then in_brackets (list_of (part Element)))
rule IfNotExists = fork IF (NOT before EXISTS before nothing true) (nothing false)
-- a column, or [CONSTRAINT name] rule
rule Element =
    fork CONSTRAINT (make (λ p. element.Rule (Some p.0) p.1) (one a_name then part TableRule))
    (make (element.Rule None) (part TableRule) or part Column)
rule TableRule =
    fork CHECK (make table_rule.Check (part BracketedExpression))
    (fork UNIQUE (make table_rule.Unique (part BracketedNames))
    (fork PRIMARY (KEY before make table_rule.PrimaryKey (part BracketedNames))
    (FOREIGN before KEY before part ForeignKey)))
-- (names) REFERENCES name [(names)]
rule ForeignKey = make (λ p. foreign_key_of p.0 p.1.0 p.1.1) (part BracketedNames then REFERENCES before one a_table_name then part Columns)
-- (e)
rule BracketedExpression = in_brackets expression
-- name type {rule}
rule Column = check (λ p. column_of p.0 p.1.0 p.1.1) (one a_name then type then part ColumnRules)
rule ColumnRules = many (part ColumnRule)
-- [CONSTRAINT name] rule
rule ColumnRule =
    fork CONSTRAINT (make (λ p. column_rule_of (Some p.0) p.1) (one a_name then part ColumnRuleKind))
    (make (column_rule_of None) (part ColumnRuleKind))
rule ColumnRuleKind =
    fork NOT (NULL before nothing asks.NotNull)
    (fork NULL (nothing asks.Null)
    (fork DEFAULT (make asks.Default operand) other_rule_kind))
-- name [(name)]
rule Referenced = make (λ p. asks.References p.0 p.1) (one a_table_name then optional OPEN (one a_name until CLOSE))
-- ---- routines
-- [OR REPLACE] FUNCTION signature [RETURNS result] {clause} | [OR REPLACE] PROCEDURE signature {clause}
rule NewRoutine =
    check (λ p. routine_of p.0 p.1.0 p.1.1.0.0 p.1.1.0.1 p.1.1.1.0 p.1.1.1.1)
    (part OrReplace then
    (fork FUNCTION (make function_of (part Signature then part Returned)) (PROCEDURE before make procedure_of (part Signature then part Clauses))))
rule OrReplace = fork OR (REPLACE before nothing true) (nothing false)
-- name([param {, param}])
rule Signature = one a_name then OPEN before part Params
rule Params = fork CLOSE (nothing []) (list_of (part Param) until CLOSE)
-- [IN | OUT | INOUT] [name] type
rule Param =
    fork IN (make (λ p. param_of way.In p.0 p.1) (part NamedType))
    (prefer has_way (name ∷ []) (part WayParam) (make (λ p. param_of way.In p.0 p.1) (part NamedType)))
rule WayParam =
    fork OUT (make (λ p. param_of way.Out p.0 p.1) (part NamedType))
    (INOUT before make (λ p. param_of way.InOut p.0 p.1) (part NamedType))
-- [name] type
rule NamedType = ahead is_named (name ∷ []) (make (λ p. (Some p.0, p.1)) (one a_name then type)) (make (λ ty. (None, ty)) type)
-- [RETURNS result] {clause}
rule Returned = fork RETURNS (part Result) (make (λ clauses. (result.Absent, clauses)) (part Clauses))
-- TABLE columns {clause} | SETOF type {clause} | type {clause}
rule Result =
    fork TABLE (make (λ p. (result.Columns p.0, p.1)) (part ResultColumns then part Clauses))
    (prefer is_set (name ∷ [])
    (SETOF before make (λ p. (result.Set p.0, p.1)) (type then part Clauses))
    (make (λ p. (result.One p.0, p.1)) (type then part Clauses)))
-- (column {, column})
rule ResultColumns = in_brackets (list_of (part ResultColumn))
rule ResultColumn = make (λ p. param_of way.Out (Some p.0) p.1) (one a_name then type)
rule Clauses = many (part Clause)
rule Clause =
    fork LANGUAGE (make clause.Language (part LanguageName))
    (fork AS (make clause.Body (one a_text))
    (fork IMMUTABLE (nothing clause.Volatility)
    (fork STABLE (nothing clause.Volatility)
    (VOLATILE before nothing clause.Volatility))))
-- name | text
rule LanguageName = one a_name or one a_text
-- ---- triggers
-- name (BEFORE | AFTER) event {OR event} ON name FOR [EACH] ROW EXECUTE routine
rule NewTrigger =
    make (λ p. trigger_of p.0 p.1.0 p.1.1.0 p.1.1.1.0 p.1.1.1.1.1)
    (one a_name then part Timing then part Events then ON before one a_table_name then FOR before maybe EACH then ROW before EXECUTE before part Executed)
rule Timing = fork BEFORE (nothing timing.Before) (AFTER before nothing timing.After)
rule Events = make (λ p. p.0 ∷ p.1) (part Event then links (by OR) (part Event) alone)
rule Event = fork INSERT (nothing event.Insert) (fork UPDATE (nothing event.Update) (DELETE before nothing event.Delete))
-- (FUNCTION | PROCEDURE) name()
rule Executed = fork FUNCTION (one a_name until OPEN until CLOSE) (PROCEDURE before one a_name until OPEN until CLOSE)
-- ---- drops
rule Drop =
    fork TABLE (make (λ p. d.DropTable p.0 p.1.0) (part IfExists then one a_table_name then maybe RESTRICT))
    (fork TRIGGER (make (λ p. d.DropTrigger p.0 p.1.0 p.1.1.0) (part IfExists then one a_name then ON before one a_table_name then maybe RESTRICT))
    (part DropRoutine))
rule DropRoutine =
    fork FUNCTION (make (λ p. drop_routine_of kind.Function p.0 p.1 p.2) (part Dropped))
    (PROCEDURE before make (λ p. drop_routine_of kind.Procedure p.0 p.1 p.2) (part Dropped))
-- [IF EXISTS] name [(types)] [RESTRICT]
rule Dropped = make (λ p. (p.0, p.1.0, p.1.1.0)) (part IfExists then one a_name then part Types then maybe RESTRICT)
rule IfExists = fork IF (EXISTS before nothing true) (nothing false)
-- [([type {, type}])]
rule Types = optional OPEN (fork CLOSE (nothing []) (list_of type until CLOSE))
