-- Words and signs of the grammar, in capitals as the grammar writes them.
use Rattle.std.specs.Prelude.{codes}
use Rattle.pl_lex.specs.declared.keyword.Keyword.TheVariants as k
use Rattle.pl_lex.specs.declared.sign.Sign.TheVariants as s
use Rattle.pl_grammar.specs.Marks.{Mark, keyword, sign, word}

-- ---- reserved words

abbrev pub ALL : Mark
ALL = keyword k.All

abbrev pub AND : Mark
AND = keyword k.And

abbrev pub AS : Mark
AS = keyword k.As

abbrev pub ASC : Mark
ASC = keyword k.Asc

abbrev pub BETWEEN : Mark
BETWEEN = keyword k.Between

abbrev pub BY : Mark
BY = keyword k.By

abbrev pub CASE : Mark
CASE = keyword k.Case

abbrev pub CAST : Mark
CAST = keyword k.Cast

abbrev pub COALESCE : Mark
COALESCE = keyword k.Coalesce

abbrev pub CROSS : Mark
CROSS = keyword k.Cross

abbrev pub DESC : Mark
DESC = keyword k.Desc

abbrev pub DISTINCT : Mark
DISTINCT = keyword k.Distinct

abbrev pub ELSE : Mark
ELSE = keyword k.Else

abbrev pub END : Mark
END = keyword k.End

abbrev pub EXISTS : Mark
EXISTS = keyword k.Exists

abbrev pub FALSE : Mark
FALSE = keyword k.False

abbrev pub FROM : Mark
FROM = keyword k.From

abbrev pub GREATEST : Mark
GREATEST = keyword k.Greatest

abbrev pub GROUP : Mark
GROUP = keyword k.Group

abbrev pub HAVING : Mark
HAVING = keyword k.Having

abbrev pub IN : Mark
IN = keyword k.In

abbrev pub INNER : Mark
INNER = keyword k.Inner

abbrev pub IS : Mark
IS = keyword k.Is

abbrev pub JOIN : Mark
JOIN = keyword k.Join

abbrev pub LEAST : Mark
LEAST = keyword k.Least

abbrev pub LEFT : Mark
LEFT = keyword k.Left

abbrev pub LIKE : Mark
LIKE = keyword k.Like

abbrev pub LIMIT : Mark
LIMIT = keyword k.Limit

abbrev pub NOT : Mark
NOT = keyword k.Not

abbrev pub NULL : Mark
NULL = keyword k.Null

abbrev pub NULLIF : Mark
NULLIF = keyword k.Nullif

abbrev pub OFFSET : Mark
OFFSET = keyword k.Offset

abbrev pub ON : Mark
ON = keyword k.On

abbrev pub OR : Mark
OR = keyword k.Or

abbrev pub ORDER : Mark
ORDER = keyword k.Order

abbrev pub ROW : Mark
ROW = keyword k.Row

abbrev pub SELECT : Mark
SELECT = keyword k.Select

abbrev pub THEN : Mark
THEN = keyword k.Then

abbrev pub TRUE : Mark
TRUE = keyword k.True

abbrev pub WHEN : Mark
WHEN = keyword k.When

abbrev pub WHERE : Mark
WHERE = keyword k.Where

-- ---- words that may be names too

abbrev pub UNKNOWN : Mark
UNKNOWN = word (codes "unknown")

abbrev pub OUTER : Mark
OUTER = word (codes "outer")

abbrev pub NULLS : Mark
NULLS = word (codes "nulls")

abbrev pub FIRST : Mark
FIRST = word (codes "first")

abbrev pub LAST : Mark
LAST = word (codes "last")

abbrev pub FATAL_ERRORS : Mark
FATAL_ERRORS = word (codes "fatal_errors")

-- ---- signs

abbrev pub OPEN : Mark
OPEN = sign s.Open

abbrev pub CLOSE : Mark
CLOSE = sign s.Close

abbrev pub COMMA : Mark
COMMA = sign s.Comma

abbrev pub DOT : Mark
DOT = sign s.Dot

abbrev pub TO_TYPE : Mark
TO_TYPE = sign s.Cast

abbrev pub ARROW : Mark
ARROW = sign s.Arrow

abbrev pub EQUAL : Mark
EQUAL = sign s.Equal

abbrev pub NOT_EQUAL : Mark
NOT_EQUAL = sign s.NotEqual

abbrev pub LESS : Mark
LESS = sign s.Less

abbrev pub GREATER : Mark
GREATER = sign s.Greater

abbrev pub LESS_OR_EQUAL : Mark
LESS_OR_EQUAL = sign s.LessOrEqual

abbrev pub GREATER_OR_EQUAL : Mark
GREATER_OR_EQUAL = sign s.GreaterOrEqual

abbrev pub PLUS : Mark
PLUS = sign s.Plus

abbrev pub MINUS : Mark
MINUS = sign s.Minus

abbrev pub STAR : Mark
STAR = sign s.Star

abbrev pub SLASH : Mark
SLASH = sign s.Slash

abbrev pub PERCENT : Mark
PERCENT = sign s.Percent

abbrev pub BARS : Mark
BARS = sign s.Concat
