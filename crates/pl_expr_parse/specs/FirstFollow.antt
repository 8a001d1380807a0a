-- Of each part: the marks that it may begin with, those that would go on with it, its place above the parts in its rule, whether no token may
-- spell it, and whether it stands behind a token wherever it is named. These serve the parser alone.
use Rattle.std.specs.Prelude.{ℕ, Bool, true, false, List, [], ◌∷◌}
use Rattle.pl_grammar.specs.Marks.{Mark, name, number, text, parameter}
use Rattle.pl_grammar.specs.Parser.{Parser}
use Rattle.pl_grammar.specs.Rule.{FirstFollow, read, read_part, read_inside}
use Rattle.pl_grammar.specs.Words.{ALL, AND, AS, ASC, BETWEEN, CASE, CAST, COALESCE, CROSS, DESC, DISTINCT, ELSE, EXISTS, FALSE, FROM, GREATEST, GROUP, HAVING, IN, INNER, IS, JOIN, LEAST, LEFT, LIKE, LIMIT, NOT, NULL, NULLIF, OFFSET, OR, ORDER, ROW, SELECT, TRUE, WHEN, WHERE, UNKNOWN, NULLS, FATAL_ERRORS, OPEN, CLOSE, DOT, TO_TYPE, ARROW, EQUAL, NOT_EQUAL, LESS, GREATER, LESS_OR_EQUAL, GREATER_OR_EQUAL, COMMA, PLUS, MINUS, STAR, SLASH, PERCENT, BARS}
use Rattle.pl_expr_parse.specs.Grammar.{Part, Expression, Conjunction, Negation, Test, Question, Comparison, Ranged, Range, Members, Concatenation, Sum, Product, Signed, Conversion, Primary, Bracketed, TypeName, Expressions, BracketedList, Named, Suffix, Arguments, ArgumentList, Argument, NamedArgument, Worded, Exists, NullIf, BeforeComma, BeforeClose, Cast, Row, Case, Arms, Whens, Arm, Otherwise, Query, Selected, Items, Item, Label, Alias, Sources, Condition, Groups, Having, Order, Key, Direction, Nulls, Paging, Limit, Offset, From, Join, JoinedOn, Factor, Call, FactorInBrackets, Tree, R, rule}

-- ---- how an expression begins

abbrev pub worded : List Mark
worded = TRUE ∷ FALSE ∷ NULL ∷ EXISTS ∷ COALESCE ∷ GREATEST ∷ LEAST ∷ NULLIF ∷ CAST ∷ ROW ∷ CASE ∷ []

abbrev pub primary : List Mark
primary = number ∷ text ∷ parameter ∷ name ∷ OPEN ∷ worded

abbrev pub operand : List Mark
operand = PLUS ∷ MINUS ∷ primary

abbrev pub expression : List Mark
expression = NOT ∷ operand

-- ---- what would go on with it

abbrev pub after_conversion : List Mark
after_conversion = TO_TYPE ∷ DOT ∷ OPEN ∷ []

abbrev pub after_product : List Mark
after_product = STAR ∷ SLASH ∷ PERCENT ∷ after_conversion

abbrev pub after_sum : List Mark
after_sum = PLUS ∷ MINUS ∷ after_product

abbrev pub after_concatenation : List Mark
after_concatenation = BARS ∷ after_sum

abbrev pub after_range : List Mark
after_range = NOT ∷ BETWEEN ∷ LIKE ∷ IN ∷ after_concatenation

abbrev pub after_comparison : List Mark
after_comparison = EQUAL ∷ NOT_EQUAL ∷ LESS ∷ GREATER ∷ LESS_OR_EQUAL ∷ GREATER_OR_EQUAL ∷ after_range

abbrev pub after_test : List Mark
after_test = IS ∷ after_comparison

abbrev pub after_expression : List Mark
after_expression = OR ∷ AND ∷ after_test

abbrev pub after_from : List Mark
after_from = CROSS ∷ LEFT ∷ INNER ∷ JOIN ∷ AS ∷ name ∷ after_expression

abbrev pub after_key : List Mark
after_key = NULLS ∷ DESC ∷ ASC ∷ after_expression

abbrev pub after_query : List Mark
after_query = LIMIT ∷ OFFSET ∷ ORDER ∷ HAVING ∷ GROUP ∷ WHERE ∷ FROM ∷ COMMA ∷ NULLS ∷ DESC ∷ ASC ∷ after_from

-- ---- the parts

abbrev pub firsts : Part → List Mark
firsts Expression = expression
firsts Conjunction = expression
firsts Negation = expression
firsts Test = operand
firsts Question = DISTINCT ∷ NULL ∷ TRUE ∷ FALSE ∷ UNKNOWN ∷ []
firsts Comparison = operand
firsts Ranged = operand
firsts Range = BETWEEN ∷ LIKE ∷ IN ∷ []
firsts Members = OPEN ∷ []
firsts Concatenation = operand
firsts Sum = operand
firsts Product = operand
firsts Signed = operand
firsts Conversion = primary
firsts Primary = primary
firsts Bracketed = SELECT ∷ expression
firsts TypeName = name ∷ []
firsts Expressions = expression
firsts BracketedList = OPEN ∷ []
firsts Named = name ∷ []
firsts Suffix = DOT ∷ OPEN ∷ []
firsts Arguments = CLOSE ∷ FATAL_ERRORS ∷ expression
firsts ArgumentList = FATAL_ERRORS ∷ expression
firsts Argument = FATAL_ERRORS ∷ expression
firsts NamedArgument = FATAL_ERRORS ∷ []
firsts Worded = worded
firsts Exists = OPEN ∷ []
firsts NullIf = OPEN ∷ []
firsts BeforeComma = expression
firsts BeforeClose = expression
firsts Cast = OPEN ∷ []
firsts Row = OPEN ∷ []
firsts Case = CASE ∷ []
firsts Arms = expression
firsts Whens = expression
firsts Arm = expression
firsts Otherwise = ELSE ∷ []
firsts Query = SELECT ∷ []
firsts Selected = DISTINCT ∷ ALL ∷ STAR ∷ expression
firsts Items = STAR ∷ expression
firsts Item = STAR ∷ expression
firsts Label = AS ∷ name ∷ []
firsts Alias = AS ∷ name ∷ []
firsts Sources = FROM ∷ []
firsts Condition = WHERE ∷ []
firsts Groups = GROUP ∷ []
firsts Having = HAVING ∷ []
firsts Order = ORDER ∷ []
firsts Key = expression
firsts Direction = DESC ∷ ASC ∷ []
firsts Nulls = NULLS ∷ []
firsts Paging = LIMIT ∷ OFFSET ∷ []
firsts Limit = ALL ∷ expression
firsts Offset = OFFSET ∷ []
firsts From = name ∷ OPEN ∷ []
firsts Join = CROSS ∷ LEFT ∷ INNER ∷ JOIN ∷ []
firsts JoinedOn = JOIN ∷ []
firsts Factor = name ∷ OPEN ∷ []
firsts Call = OPEN ∷ []
firsts FactorInBrackets = SELECT ∷ name ∷ OPEN ∷ []

abbrev pub follow_last : Part → List Mark
follow_last Expression = after_expression
follow_last Conjunction = AND ∷ after_test
follow_last Negation = after_test
follow_last Test = after_test
follow_last Question = after_comparison
follow_last Comparison = after_comparison
follow_last Ranged = after_range
follow_last Range = after_range
follow_last Members = []
follow_last Concatenation = after_concatenation
follow_last Sum = after_sum
follow_last Product = after_product
follow_last Signed = after_conversion
follow_last Conversion = after_conversion
follow_last Primary = DOT ∷ OPEN ∷ []
follow_last Bracketed = []
follow_last TypeName = []
follow_last Expressions = COMMA ∷ after_expression
follow_last BracketedList = []
follow_last Named = DOT ∷ OPEN ∷ []
follow_last Suffix = DOT ∷ OPEN ∷ []
follow_last Arguments = []
follow_last ArgumentList = COMMA ∷ ARROW ∷ after_expression
follow_last Argument = ARROW ∷ after_expression
follow_last NamedArgument = after_expression
follow_last Worded = []
follow_last Exists = []
follow_last NullIf = []
follow_last BeforeComma = []
follow_last BeforeClose = []
follow_last Cast = []
follow_last Row = []
follow_last Case = []
follow_last Arms = []
follow_last Whens = WHEN ∷ after_expression
follow_last Arm = after_expression
follow_last Otherwise = ELSE ∷ after_expression
follow_last Query = after_query
follow_last Selected = COMMA ∷ AS ∷ name ∷ after_expression
follow_last Items = COMMA ∷ AS ∷ name ∷ after_expression
follow_last Item = AS ∷ name ∷ after_expression
follow_last Label = AS ∷ name ∷ []
follow_last Alias = AS ∷ name ∷ []
follow_last Sources = FROM ∷ COMMA ∷ after_from
follow_last Condition = WHERE ∷ after_expression
follow_last Groups = GROUP ∷ COMMA ∷ after_expression
follow_last Having = HAVING ∷ after_expression
follow_last Order = ORDER ∷ COMMA ∷ after_key
follow_last Key = after_key
follow_last Direction = DESC ∷ ASC ∷ []
follow_last Nulls = NULLS ∷ []
follow_last Paging = LIMIT ∷ OFFSET ∷ after_expression
follow_last Limit = after_expression
follow_last Offset = OFFSET ∷ after_expression
follow_last From = after_from
follow_last Join = AS ∷ name ∷ after_expression
follow_last JoinedOn = after_expression
follow_last Factor = AS ∷ name ∷ OPEN ∷ []
follow_last Call = OPEN ∷ []
follow_last FactorInBrackets = AS ∷ name ∷ []

abbrev pub rank : Part → ℕ
rank Expression = 19
rank Conjunction = 18
rank Negation = 17
rank Test = 16
rank Question = 15
rank Comparison = 14
rank Ranged = 13
rank Range = 12
rank Members = 1
rank Concatenation = 11
rank Sum = 10
rank Product = 9
rank Signed = 8
rank Conversion = 7
rank Primary = 6
rank Bracketed = 0
rank TypeName = 0
rank Expressions = 0
rank BracketedList = 1
rank Named = 5
rank Suffix = 4
rank Arguments = 3
rank ArgumentList = 2
rank Argument = 1
rank NamedArgument = 0
rank Worded = 4
rank Exists = 0
rank NullIf = 1
rank BeforeComma = 0
rank BeforeClose = 0
rank Cast = 1
rank Row = 1
rank Case = 3
rank Arms = 2
rank Whens = 1
rank Arm = 0
rank Otherwise = 0
rank Query = 10
rank Selected = 3
rank Items = 2
rank Item = 1
rank Label = 0
rank Alias = 0
rank Sources = 9
rank Condition = 0
rank Groups = 1
rank Having = 0
rank Order = 2
rank Key = 1
rank Direction = 0
rank Nulls = 0
rank Paging = 1
rank Limit = 0
rank Offset = 0
rank From = 8
rank Join = 7
rank JoinedOn = 6
rank Factor = 5
rank Call = 4
rank FactorInBrackets = 1

abbrev pub empty : Part → Bool
empty Range = true
empty Suffix = true
empty Otherwise = true
empty Label = true
empty Alias = true
empty Sources = true
empty Condition = true
empty Groups = true
empty Having = true
empty Order = true
empty Direction = true
empty Nulls = true
empty Paging = true
empty Offset = true
empty Call = true
empty _ = false

abbrev pub behind : Part → Bool
behind Bracketed = true
behind Expressions = true
behind ArgumentList = true
behind Argument = true
behind BeforeComma = true
behind BeforeClose = true
behind Arms = true
behind Whens = true
behind Arm = true
behind Selected = true
behind Items = true
behind Item = true
behind Key = true
behind Limit = true
behind FactorInBrackets = true
behind _ = false

abbrev pub first_follow : FirstFollow Part
first_follow = record { firsts = firsts; follow_last = follow_last; rank = rank; empty = empty; behind = behind }

-- ---- the parser, with at most so many parts inside one another

unfoldable pub reads_inside : ℕ → (p : Part) → Parser (Tree p)
reads_inside d p = read_inside rule first_follow d p

unfoldable pub reads_part : ℕ → (p : Part) → Parser (Tree p)
reads_part d p = read_part rule first_follow d p

-- a rule of the grammar
abbrev pub reads : ℕ → {A : Type 0} → R A → Parser A
reads d r = read first_follow (reads_inside d) (reads_part d) r
