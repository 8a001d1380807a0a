-- Of each part: the marks that it may begin with, those that would go on with it, its place above the parts in its rule, and whether no
-- token may spell it. These serve the parser alone.
use Rattle.std.specs.Prelude.{ℕ, Bool, true, false, List, [], ◌∷◌, ◌++◌}
use Rattle.pl_grammar.specs.Marks.{Mark, name, text}
use Rattle.pl_grammar.specs.Parser.{Parser}
use Rattle.pl_grammar.specs.Rule.{FirstFollow, read, read_part, read_inside}
use Rattle.pl_grammar.specs.Words.{AS, END, FROM, IN, NOT, NULL, OR, SELECT, WHERE, OPEN, CLOSE, COMMA}
use Rattle.pl_expr_parse.specs.FirstFollow as x
use Rattle.pl_sql_parse.specs.Words.{ABORT, AFTER, BEFORE, BEGIN, CALL, CHECK, COMMIT, CONSTRAINT, CREATE, DEFAULT, DELETE, DO, DROP, FOREIGN, FUNCTION, IF, IMMUTABLE, INOUT, INSERT, INTO, LANGUAGE, OUT, PRIMARY, PROCEDURE, REFERENCES, RELEASE, RESTRICT, RETURNING, RETURNS, ROLLBACK, SAVEPOINT, SET, SETOF, STABLE, START, TABLE, TO, TRANSACTION, TRIGGER, UNIQUE, UPDATE, VALUES, VOLATILE, WORK}
use Rattle.pl_sql_parse.specs.Grammar.{Part, Command, Transaction, Work, Rollback, SavepointName, Do, Call, Insert, InsertAlias, Columns, Names, BracketedNames, NewRows, NewRow, NewValue, Returning, Update, FirstColumn, Assignment, Condition, Delete, Definition, Create, NewTable, IfNotExists, Element, TableRule, ForeignKey, BracketedExpression, Column, ColumnRules, ColumnRule, ColumnRuleKind, Referenced, NewRoutine, OrReplace, Signature, Params, Param, WayParam, NamedType, Returned, Result, ResultColumns, ResultColumn, Clauses, Clause, LanguageName, NewTrigger, Timing, Events, Event, Executed, Drop, DropRoutine, Dropped, IfExists, Types, Tree, R, rule}

abbrev pub transaction : List Mark
transaction = BEGIN ∷ START ∷ COMMIT ∷ END ∷ ROLLBACK ∷ ABORT ∷ SAVEPOINT ∷ RELEASE ∷ []

abbrev pub table_rule : List Mark
table_rule = CHECK ∷ UNIQUE ∷ PRIMARY ∷ FOREIGN ∷ []

abbrev pub column_rule : List Mark
column_rule = NOT ∷ NULL ∷ DEFAULT ∷ CHECK ∷ UNIQUE ∷ PRIMARY ∷ REFERENCES ∷ []

abbrev pub other_clause : List Mark
other_clause = VOLATILE ∷ LANGUAGE ∷ AS ∷ []

abbrev pub clause : List Mark
clause = IMMUTABLE ∷ STABLE ∷ other_clause

-- ---- what would go on with it

abbrev pub after_rollback : List Mark
after_rollback = WORK ∷ TRANSACTION ∷ TO ∷ name ∷ []

abbrev pub after_items : List Mark
after_items = COMMA ∷ AS ∷ name ∷ x.after_expression

abbrev pub after_column_rule : List Mark
after_column_rule = column_rule ++ x.after_concatenation

abbrev pub after_routine : List Mark
after_routine = RETURNS ∷ name ∷ clause

-- ---- the parts

abbrev pub firsts : Part → List Mark
firsts Command = INSERT ∷ UPDATE ∷ DELETE ∷ DO ∷ CALL ∷ SELECT ∷ transaction
firsts Transaction = transaction
firsts Work = WORK ∷ TRANSACTION ∷ []
firsts Rollback = WORK ∷ TRANSACTION ∷ TO ∷ []
firsts SavepointName = SAVEPOINT ∷ name ∷ []
firsts Do = LANGUAGE ∷ text ∷ []
firsts Call = name ∷ []
firsts Insert = INTO ∷ []
firsts InsertAlias = AS ∷ []
firsts Columns = OPEN ∷ []
firsts Names = name ∷ []
firsts BracketedNames = OPEN ∷ []
firsts NewRows = VALUES ∷ DEFAULT ∷ SELECT ∷ []
firsts NewRow = OPEN ∷ []
firsts NewValue = DEFAULT ∷ x.expression
firsts Returning = RETURNING ∷ []
firsts Update = name ∷ []
firsts FirstColumn = AS ∷ name ∷ SET ∷ []
firsts Assignment = name ∷ []
firsts Condition = WHERE ∷ []
firsts Delete = FROM ∷ []
firsts Definition = CREATE ∷ DROP ∷ []
firsts Create = TABLE ∷ TRIGGER ∷ OR ∷ FUNCTION ∷ PROCEDURE ∷ []
firsts NewTable = IF ∷ name ∷ []
firsts IfNotExists = IF ∷ []
firsts Element = CONSTRAINT ∷ name ∷ table_rule
firsts TableRule = table_rule
firsts ForeignKey = OPEN ∷ []
firsts BracketedExpression = OPEN ∷ []
firsts Column = name ∷ []
firsts ColumnRules = CONSTRAINT ∷ column_rule
firsts ColumnRule = CONSTRAINT ∷ column_rule
firsts ColumnRuleKind = column_rule
firsts Referenced = name ∷ []
firsts NewRoutine = OR ∷ FUNCTION ∷ PROCEDURE ∷ []
firsts OrReplace = OR ∷ []
firsts Signature = name ∷ []
firsts Params = CLOSE ∷ IN ∷ OUT ∷ INOUT ∷ name ∷ []
firsts Param = IN ∷ OUT ∷ INOUT ∷ name ∷ []
firsts WayParam = OUT ∷ INOUT ∷ []
firsts NamedType = name ∷ []
firsts Returned = RETURNS ∷ clause
firsts Result = TABLE ∷ SETOF ∷ name ∷ []
firsts ResultColumns = OPEN ∷ []
firsts ResultColumn = name ∷ []
firsts Clauses = clause
firsts Clause = clause
firsts LanguageName = name ∷ text ∷ []
firsts NewTrigger = name ∷ []
firsts Timing = BEFORE ∷ AFTER ∷ []
firsts Events = INSERT ∷ UPDATE ∷ DELETE ∷ []
firsts Event = INSERT ∷ UPDATE ∷ DELETE ∷ []
firsts Executed = FUNCTION ∷ PROCEDURE ∷ []
firsts Drop = TABLE ∷ TRIGGER ∷ FUNCTION ∷ PROCEDURE ∷ []
firsts DropRoutine = FUNCTION ∷ PROCEDURE ∷ []
firsts Dropped = IF ∷ name ∷ []
firsts IfExists = IF ∷ []
firsts Types = OPEN ∷ []

abbrev pub follow_last : Part → List Mark
follow_last Command = RETURNING ∷ LANGUAGE ∷ WORK ∷ TRANSACTION ∷ TO ∷ x.after_query
follow_last Transaction = after_rollback
follow_last Work = WORK ∷ TRANSACTION ∷ []
follow_last Rollback = after_rollback
follow_last SavepointName = name ∷ []
follow_last Do = LANGUAGE ∷ []
follow_last Call = []
follow_last Insert = RETURNING ∷ x.after_query
follow_last InsertAlias = AS ∷ []
follow_last Columns = OPEN ∷ []
follow_last Names = COMMA ∷ []
follow_last BracketedNames = []
follow_last NewRows = x.after_query
follow_last NewRow = []
follow_last NewValue = x.after_expression
follow_last Returning = RETURNING ∷ after_items
follow_last Update = RETURNING ∷ WHERE ∷ after_items
follow_last FirstColumn = name ∷ []
follow_last Assignment = x.after_expression
follow_last Condition = WHERE ∷ x.after_expression
follow_last Delete = RETURNING ∷ WHERE ∷ after_items
follow_last Definition = RESTRICT ∷ OPEN ∷ after_routine
follow_last Create = after_routine
follow_last NewTable = []
follow_last IfNotExists = IF ∷ []
follow_last Element = CONSTRAINT ∷ after_column_rule
follow_last TableRule = OPEN ∷ []
follow_last ForeignKey = OPEN ∷ []
follow_last BracketedExpression = []
follow_last Column = CONSTRAINT ∷ after_column_rule
follow_last ColumnRules = CONSTRAINT ∷ after_column_rule
follow_last ColumnRule = x.after_concatenation
follow_last ColumnRuleKind = x.after_concatenation
follow_last Referenced = OPEN ∷ []
follow_last NewRoutine = after_routine
follow_last OrReplace = OR ∷ []
follow_last Signature = []
follow_last Params = []
follow_last Param = name ∷ []
follow_last WayParam = name ∷ []
follow_last NamedType = name ∷ []
follow_last Returned = after_routine
follow_last Result = name ∷ clause
follow_last ResultColumns = []
follow_last ResultColumn = []
follow_last Clauses = clause
follow_last Clause = []
follow_last LanguageName = []
follow_last NewTrigger = []
follow_last Timing = []
follow_last Events = OR ∷ []
follow_last Event = []
follow_last Executed = []
follow_last Drop = RESTRICT ∷ OPEN ∷ []
follow_last DropRoutine = RESTRICT ∷ OPEN ∷ []
follow_last Dropped = RESTRICT ∷ OPEN ∷ []
follow_last IfExists = IF ∷ []
follow_last Types = OPEN ∷ []

abbrev pub rank : Part → ℕ
rank Command = 4
rank Transaction = 2
rank Work = 0
rank Rollback = 1
rank SavepointName = 0
rank Do = 0
rank Call = 0
rank Insert = 3
rank InsertAlias = 0
rank Columns = 1
rank Names = 0
rank BracketedNames = 1
rank NewRows = 2
rank NewRow = 1
rank NewValue = 0
rank Returning = 0
rank Update = 2
rank FirstColumn = 0
rank Assignment = 1
rank Condition = 0
rank Delete = 1
rank Definition = 8
rank Create = 7
rank NewTable = 6
rank IfNotExists = 0
rank Element = 5
rank TableRule = 3
rank ForeignKey = 2
rank BracketedExpression = 0
rank Column = 4
rank ColumnRules = 3
rank ColumnRule = 2
rank ColumnRuleKind = 1
rank Referenced = 0
rank NewRoutine = 5
rank OrReplace = 0
rank Signature = 4
rank Params = 3
rank Param = 2
rank WayParam = 1
rank NamedType = 0
rank Returned = 4
rank Result = 3
rank ResultColumns = 1
rank ResultColumn = 0
rank Clauses = 2
rank Clause = 1
rank LanguageName = 0
rank NewTrigger = 2
rank Timing = 0
rank Events = 1
rank Event = 0
rank Executed = 0
rank Drop = 3
rank DropRoutine = 2
rank Dropped = 1
rank IfExists = 0
rank Types = 0

abbrev pub empty : Part → Bool
empty Work = true
empty Rollback = true
empty InsertAlias = true
empty Columns = true
empty Returning = true
empty Condition = true
empty IfNotExists = true
empty ColumnRules = true
empty OrReplace = true
empty Returned = true
empty Clauses = true
empty IfExists = true
empty Types = true
empty _ = false

-- no part stands inside another of its kind
abbrev pub behind : Part → Bool
behind p = false

abbrev pub first_follow : FirstFollow Part
first_follow = record { firsts = firsts; follow_last = follow_last; rank = rank; empty = empty; behind = behind }

-- ---- the parser

unfoldable pub reads_part : (p : Part) → Parser (Tree p)
reads_part p = read_part rule first_follow 0 p

-- a rule of the grammar
abbrev pub reads : {A : Type 0} → R A → Parser A
reads r = read first_follow (read_inside rule first_follow 0) reads_part r
