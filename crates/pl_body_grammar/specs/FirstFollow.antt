-- Of each part: the marks that it may begin with, those that would go on with it, its place above
-- the parts in its rule, and whether no token may spell it. These serve the parser alone.
use Rattle.std.specs.Prelude.{ℕ, Bool, true, false, List, [], ◌∷◌}
use Rattle.pl_grammar.specs.Marks.{Mark, name, text}
use Rattle.pl_grammar.specs.Parser.{Parser}
use Rattle.pl_grammar.specs.Rule.{FirstFollow, read, read_part, read_inside}
use Rattle.pl_grammar.specs.Words.{ALL, AS, CASE, DISTINCT, ELSE, END, FROM, GROUP, HAVING, IN, IS, LIMIT, NOT, NULL, OFFSET, OR, ORDER, SELECT, WHEN, WHERE, FIRST, LAST, OPEN, COMMA, DOT, EQUAL, STAR, PERCENT}
use Rattle.pl_expr_parse.specs.FirstFollow as x
use Rattle.pl_sql_parse.specs.Words.{BEGIN, CREATE, DECLARE, DEFAULT, DELETE, DO, EXECUTE, FOR, IF, INSERT, INTO, RETURNING, UPDATE, CALL, COMMIT, DROP, RELEASE, ROLLBACK, SAVEPOINT, START}
use Rattle.pl_body_grammar.specs.Words.{LOOP, STRICT, USING, WHILE, ABSOLUTE, ASSERT, BACKWARD, CLOSE_CURSOR, CONSTANT, CONTINUE, CURRENT, CURSOR, DEBUG, DETAIL, DIAGNOSTICS, ELSEIF, ELSIF, ERRCODE, EXCEPTION, EXIT, FETCH, FORWARD, GET, HINT, INFO, LOG, MESSAGE, MESSAGE_TEXT, MOVE, NEXT, NO, NOTICE, OPEN_CURSOR, OTHERS, PERFORM, PG_EXCEPTION_DETAIL, PG_EXCEPTION_HINT, PRIOR, QUERY, RAISE, RELATIVE, RETURN, RETURNED_SQLSTATE, REVERSE, SCROLL, SQLSTATE, STACKED, WARNING, ASSIGN, DOT_DOT, OPEN_LABEL, SEMICOLON}
use Rattle.pl_body_grammar.specs.Grammar.{Part, BlockPiece, CasePiece, DeclarationPiece, Piece, OtherPiece, Ended, OptionalName, Opening, Condition, FirstArm, Values, Handler, Conditions, Caught, ConditionName, For, ForSource, Counted, Downward, Upward, Upper, Last, Declared, CursorDeclared, Scroll, CursorParameters, CursorParameter, BoundQuery, ForOrIs, VariableDeclared, Typed, VariableType, TypeSuffix, NotNull, Default, DefaultSign, Becomes, Assignment, Target, Targets, Into, Dynamic, Using, Expressions, Statement, Action, Control, Jump, Return, ReturnNext, ReturnQuery, Raise, Level, Raised, Format, UsingOptions, Options, RaiseOption, OptionKind, Assert, Get, RowCounts, StackedTargets, RowCount, StackedTarget, StackedItem, Cursor, Opened, OpenedFor, Scrolled, NotScrolled, Fetch, FetchedFrom, Direction, Place, FromName, FromOrIn, Move, Motion, Forward, Backward, Command, Perform, Select, QueryEnd, Selected, IntoItems, Execute, Changed, Change, Transaction, OtherCommand, Tree, R, rule}

-- ---- how pieces begin

abbrev pub action : List Mark
action =
    EXIT ∷ CONTINUE ∷ RETURN ∷ RAISE ∷ ASSERT ∷ GET ∷ OPEN_CURSOR ∷ FETCH ∷ MOVE ∷ CLOSE_CURSOR ∷
    SELECT ∷ PERFORM ∷ EXECUTE ∷ COMMIT ∷ ROLLBACK ∷ DO ∷ CALL ∷ START ∷ SAVEPOINT ∷ RELEASE ∷
    INSERT ∷ UPDATE ∷ DELETE ∷ []

abbrev pub piece : List Mark
piece =
    OPEN_LABEL ∷ EXCEPTION ∷ END ∷ IF ∷ ELSIF ∷ ELSEIF ∷ CASE ∷ WHILE ∷ FOR ∷ NULL ∷ CREATE ∷
    DROP ∷ action

abbrev pub place : List Mark
place = NEXT ∷ PRIOR ∷ FIRST ∷ LAST ∷ ABSOLUTE ∷ RELATIVE ∷ []

-- ---- the parts

abbrev pub firsts : Part → List Mark
firsts BlockPiece = WHEN ∷ DECLARE ∷ BEGIN ∷ ELSE ∷ LOOP ∷ name ∷ piece
firsts CasePiece = WHEN ∷ DECLARE ∷ BEGIN ∷ ELSE ∷ LOOP ∷ name ∷ piece
firsts DeclarationPiece = BEGIN ∷ name ∷ []
firsts Piece = DECLARE ∷ BEGIN ∷ ELSE ∷ LOOP ∷ name ∷ piece
firsts OtherPiece = piece
firsts Ended = IF ∷ CASE ∷ LOOP ∷ name ∷ SEMICOLON ∷ []
firsts OptionalName = name ∷ []
firsts Opening = IF ∷ ELSIF ∷ ELSEIF ∷ CASE ∷ WHILE ∷ FOR ∷ []
firsts Condition = x.expression
firsts FirstArm = WHEN ∷ x.expression
firsts Values = x.expression
firsts Handler = OTHERS ∷ SQLSTATE ∷ name ∷ []
firsts Conditions = OTHERS ∷ SQLSTATE ∷ name ∷ []
firsts Caught = OTHERS ∷ SQLSTATE ∷ name ∷ []
firsts ConditionName = SQLSTATE ∷ name ∷ []
firsts For = name ∷ []
firsts ForSource = EXECUTE ∷ SELECT ∷ INSERT ∷ UPDATE ∷ DELETE ∷ REVERSE ∷ x.expression
firsts Counted = REVERSE ∷ x.expression
firsts Downward = x.expression
firsts Upward = x.expression
firsts Upper = DOT_DOT ∷ LOOP ∷ []
firsts Last = x.expression
firsts Declared = CONSTANT ∷ NO ∷ SCROLL ∷ CURSOR ∷ name ∷ []
firsts CursorDeclared = NO ∷ SCROLL ∷ CURSOR ∷ []
firsts Scroll = NO ∷ SCROLL ∷ []
firsts CursorParameters = OPEN ∷ []
firsts CursorParameter = name ∷ []
firsts BoundQuery = FOR ∷ IS ∷ []
firsts ForOrIs = FOR ∷ IS ∷ []
firsts VariableDeclared = CONSTANT ∷ name ∷ []
firsts Typed = name ∷ []
firsts VariableType = name ∷ []
firsts TypeSuffix = PERCENT ∷ DOT ∷ []
firsts NotNull = NOT ∷ []
firsts Default = SEMICOLON ∷ DEFAULT ∷ ASSIGN ∷ EQUAL ∷ []
firsts DefaultSign = DEFAULT ∷ ASSIGN ∷ EQUAL ∷ []
firsts Becomes = ASSIGN ∷ EQUAL ∷ []
firsts Assignment = name ∷ []
firsts Target = name ∷ []
firsts Targets = name ∷ []
firsts Into = STRICT ∷ name ∷ []
firsts Dynamic = x.expression
firsts Using = USING ∷ []
firsts Expressions = x.expression
firsts Statement = NULL ∷ CREATE ∷ DROP ∷ action
firsts Action = action
firsts Control = EXIT ∷ CONTINUE ∷ RETURN ∷ RAISE ∷ ASSERT ∷ GET ∷ []
firsts Jump = name ∷ WHEN ∷ SEMICOLON ∷ []
firsts Return = SEMICOLON ∷ NEXT ∷ QUERY ∷ x.expression
firsts ReturnNext = SEMICOLON ∷ x.expression
firsts ReturnQuery = EXECUTE ∷ SELECT ∷ []
firsts Raise =
    SEMICOLON ∷ DEBUG ∷ LOG ∷ INFO ∷ NOTICE ∷ WARNING ∷ EXCEPTION ∷ USING ∷ SQLSTATE ∷ name ∷
    text ∷ []
firsts Level = DEBUG ∷ LOG ∷ INFO ∷ NOTICE ∷ WARNING ∷ EXCEPTION ∷ []
firsts Raised = USING ∷ SQLSTATE ∷ name ∷ text ∷ []
firsts Format = text ∷ []
firsts UsingOptions = SEMICOLON ∷ USING ∷ []
firsts Options = MESSAGE ∷ DETAIL ∷ HINT ∷ ERRCODE ∷ []
firsts RaiseOption = MESSAGE ∷ DETAIL ∷ HINT ∷ ERRCODE ∷ []
firsts OptionKind = MESSAGE ∷ DETAIL ∷ HINT ∷ ERRCODE ∷ []
firsts Assert = x.expression
firsts Get = STACKED ∷ CURRENT ∷ DIAGNOSTICS ∷ []
firsts RowCounts = name ∷ []
firsts StackedTargets = name ∷ []
firsts RowCount = name ∷ []
firsts StackedTarget = name ∷ []
firsts StackedItem = RETURNED_SQLSTATE ∷ MESSAGE_TEXT ∷ PG_EXCEPTION_DETAIL ∷ PG_EXCEPTION_HINT ∷ []
firsts Cursor = OPEN_CURSOR ∷ FETCH ∷ MOVE ∷ CLOSE_CURSOR ∷ []
firsts Opened = SEMICOLON ∷ OPEN ∷ NO ∷ SCROLL ∷ FOR ∷ []
firsts OpenedFor = NO ∷ SCROLL ∷ FOR ∷ []
firsts Scrolled = EXECUTE ∷ SELECT ∷ []
firsts NotScrolled = EXECUTE ∷ SELECT ∷ []
firsts Fetch = name ∷ FORWARD ∷ BACKWARD ∷ place
firsts FetchedFrom = name ∷ FORWARD ∷ BACKWARD ∷ place
firsts Direction = FORWARD ∷ BACKWARD ∷ place
firsts Place = place
firsts FromName = FROM ∷ IN ∷ []
firsts FromOrIn = FROM ∷ IN ∷ []
firsts Move = name ∷ ALL ∷ FORWARD ∷ BACKWARD ∷ place
firsts Motion = ALL ∷ FORWARD ∷ BACKWARD ∷ place
firsts Forward = ALL ∷ FROM ∷ IN ∷ x.operand
firsts Backward = ALL ∷ FROM ∷ IN ∷ x.operand
firsts Command =
    SELECT ∷ PERFORM ∷ EXECUTE ∷ COMMIT ∷ ROLLBACK ∷ DO ∷ CALL ∷ START ∷ SAVEPOINT ∷ RELEASE ∷
    INSERT ∷ UPDATE ∷ DELETE ∷ []
firsts Perform = DISTINCT ∷ ALL ∷ STAR ∷ x.expression
firsts Select = DISTINCT ∷ ALL ∷ INTO ∷ STAR ∷ x.expression
firsts QueryEnd = FROM ∷ WHERE ∷ GROUP ∷ HAVING ∷ ORDER ∷ LIMIT ∷ OFFSET ∷ SEMICOLON ∷ []
firsts Selected = DISTINCT ∷ ALL ∷ INTO ∷ STAR ∷ x.expression
firsts IntoItems = INTO ∷ STAR ∷ x.expression
firsts Execute = x.expression
firsts Changed = INSERT ∷ UPDATE ∷ DELETE ∷ []
firsts Change = INSERT ∷ UPDATE ∷ DELETE ∷ []
firsts Transaction = COMMIT ∷ ROLLBACK ∷ []
firsts OtherCommand = DO ∷ CALL ∷ START ∷ SAVEPOINT ∷ RELEASE ∷ []

abbrev pub follow_last : Part → List Mark
follow_last BlockPiece = []
follow_last CasePiece = []
follow_last DeclarationPiece = []
follow_last Piece = []
follow_last OtherPiece = []
follow_last Ended = []
follow_last OptionalName = name ∷ []
follow_last Opening = []
follow_last Condition = []
follow_last FirstArm = []
follow_last Values = []
follow_last Handler = []
follow_last Conditions = OR ∷ text ∷ []
follow_last Caught = text ∷ []
follow_last ConditionName = text ∷ []
follow_last For = []
follow_last ForSource = []
follow_last Counted = []
follow_last Downward = []
follow_last Upward = []
follow_last Upper = []
follow_last Last = []
follow_last Declared = []
follow_last CursorDeclared = []
follow_last Scroll = SCROLL ∷ NO ∷ []
follow_last CursorParameters = OPEN ∷ []
follow_last CursorParameter = []
follow_last BoundQuery = []
follow_last ForOrIs = []
follow_last VariableDeclared = []
follow_last Typed = []
follow_last VariableType = DOT ∷ PERCENT ∷ []
follow_last TypeSuffix = DOT ∷ PERCENT ∷ []
follow_last NotNull = NOT ∷ []
follow_last Default = []
follow_last DefaultSign = []
follow_last Becomes = []
follow_last Assignment = []
follow_last Target = DOT ∷ []
follow_last Targets = COMMA ∷ DOT ∷ []
follow_last Into = COMMA ∷ DOT ∷ []
follow_last Dynamic = USING ∷ COMMA ∷ x.after_expression
follow_last Using = USING ∷ COMMA ∷ x.after_expression
follow_last Expressions = COMMA ∷ x.after_expression
follow_last Statement = []
follow_last Action = []
follow_last Control = []
follow_last Jump = []
follow_last Return = []
follow_last ReturnNext = []
follow_last ReturnQuery = []
follow_last Raise = []
follow_last Level = []
follow_last Raised = []
follow_last Format = COMMA ∷ x.after_expression
follow_last UsingOptions = []
follow_last Options = COMMA ∷ x.after_expression
follow_last RaiseOption = x.after_expression
follow_last OptionKind = []
follow_last Assert = []
follow_last Get = []
follow_last RowCounts = []
follow_last StackedTargets = []
follow_last RowCount = []
follow_last StackedTarget = []
follow_last StackedItem = []
follow_last Cursor = []
follow_last Opened = []
follow_last OpenedFor = []
follow_last Scrolled = []
follow_last NotScrolled = []
follow_last Fetch = []
follow_last FetchedFrom = []
follow_last Direction = x.after_concatenation
follow_last Place = x.after_concatenation
follow_last FromName = []
follow_last FromOrIn = []
follow_last Move = []
follow_last Motion = []
follow_last Forward = []
follow_last Backward = []
follow_last Command = []
follow_last Perform = []
follow_last Select = []
follow_last QueryEnd = []
follow_last Selected = COMMA ∷ AS ∷ name ∷ INTO ∷ x.after_expression
follow_last IntoItems = COMMA ∷ AS ∷ name ∷ INTO ∷ x.after_expression
follow_last Execute = []
follow_last Changed = []
follow_last Change = RETURNING ∷ x.after_query
follow_last Transaction = []
follow_last OtherCommand = []

abbrev pub rank : Part → ℕ
rank BlockPiece = 11
rank CasePiece = 11
rank DeclarationPiece = 6
rank Piece = 10
rank OtherPiece = 9
rank Ended = 1
rank OptionalName = 0
rank Opening = 6
rank Condition = 0
rank FirstArm = 2
rank Values = 1
rank Handler = 3
rank Conditions = 2
rank Caught = 1
rank ConditionName = 0
rank For = 5
rank ForSource = 4
rank Counted = 3
rank Downward = 1
rank Upward = 2
rank Upper = 1
rank Last = 0
rank Declared = 5
rank CursorDeclared = 2
rank Scroll = 0
rank CursorParameters = 1
rank CursorParameter = 0
rank BoundQuery = 1
rank ForOrIs = 0
rank VariableDeclared = 4
rank Typed = 3
rank VariableType = 1
rank TypeSuffix = 0
rank NotNull = 0
rank Default = 2
rank DefaultSign = 1
rank Becomes = 0
rank Assignment = 1
rank Target = 0
rank Targets = 1
rank Into = 2
rank Dynamic = 2
rank Using = 1
rank Expressions = 0
rank Statement = 8
rank Action = 7
rank Control = 6
rank Jump = 1
rank Return = 4
rank ReturnNext = 0
rank ReturnQuery = 3
rank Raise = 5
rank Level = 0
rank Raised = 4
rank Format = 0
rank UsingOptions = 3
rank Options = 2
rank RaiseOption = 1
rank OptionKind = 0
rank Assert = 0
rank Get = 3
rank RowCounts = 2
rank StackedTargets = 2
rank RowCount = 1
rank StackedTarget = 1
rank StackedItem = 0
rank Cursor = 6
rank Opened = 5
rank OpenedFor = 4
rank Scrolled = 3
rank NotScrolled = 3
rank Fetch = 3
rank FetchedFrom = 2
rank Direction = 1
rank Place = 0
rank FromName = 1
rank FromOrIn = 0
rank Move = 4
rank Motion = 3
rank Forward = 2
rank Backward = 2
rank Command = 6
rank Perform = 1
rank Select = 5
rank QueryEnd = 0
rank Selected = 4
rank IntoItems = 3
rank Execute = 3
rank Changed = 3
rank Change = 0
rank Transaction = 0
rank OtherCommand = 0

abbrev pub empty : Part → Bool
empty OptionalName = true
empty Scroll = true
empty CursorParameters = true
empty TypeSuffix = true
empty NotNull = true
empty Using = true
empty _ = false

-- no part stands inside another of its kind
abbrev pub behind : Part → Bool
behind p = false

abbrev pub first_follow : FirstFollow Part
first_follow = record {
  firsts = firsts;
  follow_last = follow_last;
  rank = rank;
  empty = empty;
  behind = behind;
}

-- ---- the parser

unfoldable pub reads_part : (p : Part) → Parser (Tree p)
reads_part p = read_part rule first_follow 0 p

-- a rule of the grammar
abbrev pub reads : {A : Type 0} → R A → Parser A
reads r = read first_follow (read_inside rule first_follow 0) reads_part r
