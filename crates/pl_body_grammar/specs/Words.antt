-- More words and signs of the grammar, in capitals as the grammar writes them.
use Rattle.std.specs.Prelude.{codes}
use Rattle.pl_lex.specs.declared.keyword.Keyword.TheVariants as k
use Rattle.pl_lex.specs.declared.sign.Sign.TheVariants as s
use Rattle.pl_grammar.specs.Marks.{Mark, keyword, sign, word}

-- ---- reserved words

abbrev pub LOOP : Mark
LOOP = keyword k.Loop

abbrev pub STRICT : Mark
STRICT = keyword k.Strict

abbrev pub USING : Mark
USING = keyword k.Using

abbrev pub WHILE : Mark
WHILE = keyword k.While

-- ---- words that may be names too

abbrev pub ABSOLUTE : Mark
ABSOLUTE = word (codes "absolute")

abbrev pub ASSERT : Mark
ASSERT = word (codes "assert")

abbrev pub BACKWARD : Mark
BACKWARD = word (codes "backward")

-- CLOSE, which is a bracket's name in the grammar
abbrev pub CLOSE_CURSOR : Mark
CLOSE_CURSOR = word (codes "close")

abbrev pub CONSTANT : Mark
CONSTANT = word (codes "constant")

abbrev pub CONTINUE : Mark
CONTINUE = word (codes "continue")

abbrev pub CURRENT : Mark
CURRENT = word (codes "current")

abbrev pub CURSOR : Mark
CURSOR = word (codes "cursor")

abbrev pub DEBUG : Mark
DEBUG = word (codes "debug")

abbrev pub DETAIL : Mark
DETAIL = word (codes "detail")

abbrev pub DIAGNOSTICS : Mark
DIAGNOSTICS = word (codes "diagnostics")

abbrev pub ELSEIF : Mark
ELSEIF = word (codes "elseif")

abbrev pub ELSIF : Mark
ELSIF = word (codes "elsif")

abbrev pub ERRCODE : Mark
ERRCODE = word (codes "errcode")

abbrev pub EXCEPTION : Mark
EXCEPTION = word (codes "exception")

abbrev pub EXIT : Mark
EXIT = word (codes "exit")

abbrev pub FETCH : Mark
FETCH = word (codes "fetch")

abbrev pub FORWARD : Mark
FORWARD = word (codes "forward")

abbrev pub GET : Mark
GET = word (codes "get")

abbrev pub HINT : Mark
HINT = word (codes "hint")

abbrev pub INFO : Mark
INFO = word (codes "info")

abbrev pub LOG : Mark
LOG = word (codes "log")

abbrev pub MESSAGE : Mark
MESSAGE = word (codes "message")

abbrev pub MESSAGE_TEXT : Mark
MESSAGE_TEXT = word (codes "message_text")

abbrev pub MOVE : Mark
MOVE = word (codes "move")

abbrev pub NEXT : Mark
NEXT = word (codes "next")

abbrev pub NO : Mark
NO = word (codes "no")

abbrev pub NOTICE : Mark
NOTICE = word (codes "notice")

-- OPEN, which is a bracket's name in the grammar
abbrev pub OPEN_CURSOR : Mark
OPEN_CURSOR = word (codes "open")

abbrev pub OTHERS : Mark
OTHERS = word (codes "others")

abbrev pub PERFORM : Mark
PERFORM = word (codes "perform")

abbrev pub PG_EXCEPTION_DETAIL : Mark
PG_EXCEPTION_DETAIL = word (codes "pg_exception_detail")

abbrev pub PG_EXCEPTION_HINT : Mark
PG_EXCEPTION_HINT = word (codes "pg_exception_hint")

abbrev pub PRIOR : Mark
PRIOR = word (codes "prior")

abbrev pub QUERY : Mark
QUERY = word (codes "query")

abbrev pub RAISE : Mark
RAISE = word (codes "raise")

abbrev pub RELATIVE : Mark
RELATIVE = word (codes "relative")

abbrev pub RETURN : Mark
RETURN = word (codes "return")

abbrev pub RETURNED_SQLSTATE : Mark
RETURNED_SQLSTATE = word (codes "returned_sqlstate")

abbrev pub REVERSE : Mark
REVERSE = word (codes "reverse")

abbrev pub ROWTYPE : Mark
ROWTYPE = word (codes "rowtype")

abbrev pub ROW_COUNT : Mark
ROW_COUNT = word (codes "row_count")

abbrev pub SCROLL : Mark
SCROLL = word (codes "scroll")

abbrev pub SQLSTATE : Mark
SQLSTATE = word (codes "sqlstate")

abbrev pub STACKED : Mark
STACKED = word (codes "stacked")

abbrev pub TYPE : Mark
TYPE = word (codes "type")

abbrev pub WARNING : Mark
WARNING = word (codes "warning")

-- ---- signs

abbrev pub ASSIGN : Mark
ASSIGN = sign s.Assign

abbrev pub CLOSE_LABEL : Mark
CLOSE_LABEL = sign s.CloseLabel

abbrev pub DOT_DOT : Mark
DOT_DOT = sign s.DotDot

abbrev pub OPEN_LABEL : Mark
OPEN_LABEL = sign s.OpenLabel

abbrev pub SEMICOLON : Mark
SEMICOLON = sign s.Semicolon
