-- The grammar of expressions and queries. A level stands on the one below it; what stands in brackets or behind a word of its own is `inside`.
use Rattle.std.specs.Prelude.{ℕ, Bool, true, false, List, [], ◌∷◌, Option, Some, None, length}
use Rattle.pl_base.specs.declared.operator.Arithmetic.{Arithmetic}
use Rattle.pl_base.specs.declared.operator.Arithmetic.TheVariants as op
use Rattle.pl_base.specs.declared.operator.Comparison.{Comparison as Compared}
use Rattle.pl_base.specs.declared.operator.Comparison.TheVariants as cmp
use Rattle.pl_base.specs.declared.operator.Test.TheVariants as ask
use Rattle.pl_base.specs.declared.types.Ty.{Ty}
use Rattle.pl_tree.specs.declared.tree.Sign.{Sign}
use Rattle.pl_tree.specs.declared.tree.Sign.TheVariants as sg
use Rattle.pl_tree.specs.declared.tree.Literal.TheVariants as l
use Rattle.pl_tree.specs.declared.tree.Pick.TheVariants as pick
use Rattle.pl_tree.specs.declared.tree.Expr.{Expr}
use Rattle.pl_tree.specs.declared.tree.Expr.TheVariants as e
use Rattle.pl_tree.specs.declared.tree.Argument.{Argument as Argument_}
use Rattle.pl_tree.specs.declared.tree.Argument.TheVariants as a
use Rattle.pl_tree.specs.declared.tree.Arm.{Arm as Arm_}
use Rattle.pl_tree.specs.declared.tree.Query.{Query as QueryTree}
use Rattle.pl_tree.specs.declared.tree.Item.{Item as Item_}
use Rattle.pl_tree.specs.declared.tree.Item.TheVariants as i
use Rattle.pl_tree.specs.declared.tree.Nulls.{Nulls as Nulls_}
use Rattle.pl_tree.specs.declared.tree.Nulls.TheVariants as nulls_are
use Rattle.pl_tree.specs.declared.tree.Key.{Key as Key_}
use Rattle.pl_tree.specs.declared.tree.From.{From as FromTree}
use Rattle.pl_tree.specs.declared.tree.From.TheVariants as f
use Rattle.pl_tree.specs.declared.tree.JoinKind.TheVariants as join_is
use Rattle.pl_tree.specs.declared.tree.Join.{Join as Join_}
use Rattle.pl_grammar.specs.Marks.{Tokens, Mark, name, a_name, a_number, a_text, a_parameter, a_label, a_written_name, a_table_name, a_bare_alias, sees_two, sees_three}
use Rattle.pl_grammar.specs.Rule.{Rule, part, inside, one, nothing, maybe, ◌before◌, ◌until◌, ◌then◌, make, check, fork, ◌or◌, ahead, links, link, many}
use Rattle.pl_grammar.specs.Forms.{alone, by, optional, list_of, in_brackets, chain}
use Rattle.pl_grammar.specs.Words.{ALL, AND, AS, ASC, BETWEEN, BY, CASE, CAST, COALESCE, CROSS, DESC, DISTINCT, ELSE, END, EXISTS, FALSE, FROM, GREATEST, GROUP, HAVING, IN, INNER, IS, JOIN, LEAST, LEFT, LIKE, LIMIT, NOT, NULL, NULLIF, OFFSET, ON, OR, ORDER, ROW, SELECT, THEN, TRUE, WHEN, WHERE, UNKNOWN, OUTER, NULLS, FIRST, LAST, FATAL_ERRORS, OPEN, CLOSE, DOT, TO_TYPE, ARROW, EQUAL, NOT_EQUAL, LESS, GREATER, LESS_OR_EQUAL, GREATER_OR_EQUAL, COMMA, PLUS, MINUS, STAR, SLASH, PERCENT, BARS}
use Rattle.pl_expr_parse.specs.declared.parts.Range.{Range as Range_}
use Rattle.pl_expr_parse.specs.declared.parts.Range.TheVariants as rg
use Rattle.pl_expr_parse.specs.declared.parts.Question.{Question as Question_}
use Rattle.pl_expr_parse.specs.declared.parts.Question.TheVariants as qu
use Rattle.pl_expr_parse.specs.declared.parts.Suffix.{Suffix as Suffix_}
use Rattle.pl_expr_parse.specs.declared.parts.Suffix.TheVariants as suf
use Rattle.pl_expr_parse.specs.Trees.{type_of, product_of, factor_of, sum_of, term_of, concatenation_of, conjunction_of, disjunction_of, conversion_of, negation_of, signed_of, null_if_of, range_of, comparison_of, test_of, named_of, arm_of, key_of, join_of, joined_of, source_of, query_of}

pub data Part : Type 0 where
  Expression : Part
  Conjunction : Part
  Negation : Part
  Test : Part
  Question : Part
  Comparison : Part
  Ranged : Part
  Range : Part
  Members : Part
  Concatenation : Part
  Sum : Part
  Product : Part
  Signed : Part
  Conversion : Part
  Primary : Part
  Bracketed : Part
  TypeName : Part
  Expressions : Part
  BracketedList : Part
  Named : Part
  Suffix : Part
  Arguments : Part
  ArgumentList : Part
  Argument : Part
  NamedArgument : Part
  Worded : Part
  Exists : Part
  NullIf : Part
  BeforeComma : Part
  BeforeClose : Part
  Cast : Part
  Row : Part
  Case : Part
  Arms : Part
  Whens : Part
  Arm : Part
  Otherwise : Part
  Query : Part
  Selected : Part
  Items : Part
  Item : Part
  Label : Part
  Alias : Part
  Sources : Part
  Condition : Part
  Groups : Part
  Having : Part
  Order : Part
  Key : Part
  Direction : Part
  Nulls : Part
  Paging : Part
  Limit : Part
  Offset : Part
  From : Part
  Join : Part
  JoinedOn : Part
  Factor : Part
  Call : Part
  FactorInBrackets : Part

-- what each is read as
abbrev pub Tree : Part → Type 0
Tree Question = Question_
Tree Range = Option Range_
Tree Members = Range_
Tree TypeName = Ty
Tree Expressions = List Expr
Tree BracketedList = List Expr
Tree Suffix = Suffix_
Tree Arguments = List Argument_
Tree ArgumentList = List Argument_
Tree Argument = Argument_
Tree NamedArgument = Argument_
Tree Arms = List Arm_ × Option Expr
Tree Whens = List Arm_
Tree Arm = Arm_
Tree Otherwise = Option Expr
Tree Query = QueryTree
Tree Selected = Bool × List Item_
Tree Items = List Item_
Tree Item = Item_
Tree Label = Option (List ℕ)
Tree Alias = Option (List ℕ)
Tree Sources = List FromTree
Tree Condition = Option Expr
Tree Groups = List Expr
Tree Having = Option Expr
Tree Order = List Key_
Tree Key = Key_
Tree Direction = Bool
Tree Nulls = Option Nulls_
Tree Paging = Option Expr × Option Expr
Tree Limit = Option Expr
Tree Offset = Option Expr
Tree From = FromTree
Tree Join = Join_
Tree JoinedOn = FromTree × Expr
Tree Factor = FromTree
Tree Call = Option (List Argument_)
Tree FactorInBrackets = FromTree
Tree _ = Expr

abbrev pub R : Type 0 → Type 1
R A = Rule Tree A

-- ---- operators

abbrev pub signs : List (Mark × Sign)
signs = (PLUS, sg.Plus) ∷ (MINUS, sg.Minus) ∷ []

abbrev pub factors : List (Mark × Arithmetic)
factors = (STAR, op.Multiply) ∷ (SLASH, op.Divide) ∷ (PERCENT, op.Remainder) ∷ []

abbrev pub terms : List (Mark × Arithmetic)
terms = (PLUS, op.Add) ∷ (MINUS, op.Subtract) ∷ []

abbrev pub comparisons : List (Mark × Compared)
comparisons = (EQUAL, cmp.Equal) ∷ (NOT_EQUAL, cmp.NotEqual) ∷ (LESS, cmp.Less) ∷ (GREATER, cmp.Greater) ∷ (LESS_OR_EQUAL, cmp.LessOrEqual) ∷ (GREATER_OR_EQUAL, cmp.GreaterOrEqual) ∷ []

abbrev pub pair : {O A : Type 0} → O → A → O × A
pair o a = (o, a)

-- ---- what is told by tokens ahead

abbrev pub is_named : Tokens → Bool
is_named = sees_two FATAL_ERRORS ARROW

abbrev pub is_all_of : Tokens → Bool
is_all_of = sees_three name DOT STAR

-- ---- the grammar

-- what may stand behind the condition of a query
abbrev pub ending : R (List Expr × (Option Expr × (List Key_ × (Option Expr × Option Expr))))
ending = part Groups then part Having then part Order then part Paging

abbrev pub rule : (p : Part) → R (Tree p)
-- ---- the levels, from the loosest to the tightest
-- 12 and 11: OR, AND
rule Expression = chain (by OR) (part Conjunction) alone disjunction_of
rule Conjunction = chain (by AND) (part Negation) alone conjunction_of
-- 10: NOT, repeated
rule Negation = make (λ p. negation_of (length p.0) p.1) (links (by NOT) (nothing (tt {0})) alone then part Test)
-- 9: IS, at most once
rule Test = make (λ p. test_of p.0 p.1) (part Comparison then optional IS (maybe NOT then part Question))
rule Question =
    fork DISTINCT (FROM before make qu.DistinctFrom (part Comparison))
    (fork NULL (nothing (qu.Is ask.Null))
    (fork TRUE (nothing (qu.Is ask.True))
    (fork FALSE (nothing (qu.Is ask.False))
    (UNKNOWN before nothing (qu.Is ask.Unknown)))))
-- 8: = <> < > <= >=, at most one
rule Comparison = make (λ p. comparison_of p.0 p.1) (part Ranged then link comparisons (part Ranged) pair)
-- 7: BETWEEN, LIKE, IN, at most one
rule Ranged = check (λ p. range_of p.0 p.1.0 p.1.1) (part Concatenation then maybe NOT then part Range)
rule Range =
    fork BETWEEN (make (λ p. Some (rg.Between p.0 p.1)) (part Concatenation then AND before part Concatenation))
    (fork LIKE (make (λ x. Some (rg.Like x)) (part Concatenation))
    (fork IN (make Some (part Members)) (nothing None)))
-- (query) or (e {, e})
rule Members = OPEN before (make rg.InQuery (inside Query) or make rg.InList (part Expressions)) until CLOSE
-- 6: ||
rule Concatenation = chain (by BARS) (part Sum) alone concatenation_of
-- 5: + -
rule Sum = chain terms (part Product) term_of sum_of
-- 4: * / %
rule Product = chain factors (part Signed) factor_of product_of
-- 3: signs, repeated
rule Signed = make (λ p. signed_of p.0 p.1) (links signs (nothing (tt {0})) (λ s _. s) then part Conversion)
-- 2: ::, repeated
rule Conversion = make (λ p. conversion_of p.0 p.1) (part Primary then links (by TO_TYPE) (part TypeName) alone)
-- 1
rule Primary =
    make (λ n. e.Literal (l.Number false n)) (one a_number)
    or make (λ t. e.Literal (l.Text t)) (one a_text)
    or make e.Parameter (one a_parameter)
    or part Named
    or fork OPEN (part Bracketed) (part Worded)
-- query) or e)
rule Bracketed = (make e.Subquery (inside Query) or inside Expression) until CLOSE
-- as it is written in quotes or without
rule TypeName = make (λ p. type_of p.0 p.1) (one a_written_name)
-- e {, e}, and the same in brackets
rule Expressions = list_of (inside Expression)
rule BracketedList = in_brackets (part Expressions)
-- ---- what begins with a name
rule Named = check (λ p. named_of p.0 p.1) (one a_name then part Suffix)
rule Suffix = fork DOT (make suf.Column (one a_name)) (fork OPEN (fork STAR (nothing suf.AllRows until CLOSE) (make suf.Call (part Arguments))) (nothing suf.Nothing))
-- [argument {, argument}])
rule Arguments = fork CLOSE (nothing []) (part ArgumentList until CLOSE)
rule ArgumentList = list_of (part Argument)
-- [fatal_errors =>] e
rule Argument = ahead is_named (ARROW ∷ []) (part NamedArgument) (make a.Value (inside Expression))
rule NamedArgument = FATAL_ERRORS before ARROW before make a.FatalErrors (inside Expression)
-- ---- what begins with a reserved word
rule Worded =
    fork TRUE (nothing (e.Literal (l.Bool true)))
    (fork FALSE (nothing (e.Literal (l.Bool false)))
    (fork NULL (nothing (e.Literal l.Null))
    (fork EXISTS (part Exists)
    (fork COALESCE (make (e.Pick pick.Coalesce) (part BracketedList))
    (fork GREATEST (make (e.Pick pick.Greatest) (part BracketedList))
    (fork LEAST (make (e.Pick pick.Least) (part BracketedList))
    (fork NULLIF (part NullIf)
    (fork CAST (part Cast)
    (fork ROW (part Row)
    (part Case))))))))))
rule Exists = make e.Exists (in_brackets (inside Query))
rule NullIf = OPEN before make (λ p. null_if_of p.0 p.1) (part BeforeComma then part BeforeClose)
rule BeforeComma = inside Expression until COMMA
rule BeforeClose = inside Expression until CLOSE
rule Cast = OPEN before make (λ p. e.Cast p.0 (p.1 ∷ [])) ((inside Expression until AS) then part TypeName) until CLOSE
rule Row = OPEN before make e.Row (fork CLOSE (nothing []) (part Expressions until CLOSE))
rule Case = CASE before
    fork WHEN (make (λ p. e.Case None p.0 p.1) (part Arms))
    (make (λ p. e.Case (Some p.0) p.1.0 p.1.1) ((inside Expression until WHEN) then part Arms))
-- the arms behind the first WHEN, and ELSE
rule Arms = (part Whens then part Otherwise) until END
rule Whens = make (λ p. p.0 ∷ p.1) (part Arm then links (by WHEN) (part Arm) alone)
rule Arm = make (λ p. arm_of p.0 p.1) (inside Expression then THEN before inside Expression)
rule Otherwise = optional ELSE (inside Expression)
-- ---- queries
rule Query =
    make (λ p. query_of p.0.0 p.0.1 p.1.0 p.1.1.0 p.1.1.1.0 p.1.1.1.1.0 p.1.1.1.1.1.0 p.1.1.1.1.1.1.0 p.1.1.1.1.1.1.1)
    (SELECT before part Selected then part Sources then part Condition then ending)
-- [DISTINCT | ALL] item {, item}
rule Selected = fork DISTINCT (make (λ xs. (true, xs)) (part Items)) (make (λ p. (false, p.1)) (maybe ALL then part Items))
rule Items = list_of (part Item)
-- * | name.* | e [label]
rule Item =
    fork STAR (nothing i.All)
    (ahead is_all_of [] (make i.AllOf (one a_name until DOT until STAR)) (make (λ p. i.Value p.0 p.1) (inside Expression then part Label)))
-- [AS label | name]: behind AS a label may be a reserved word
rule Label = fork AS (make Some (one a_label)) (make Some (one a_bare_alias) or nothing None)
-- [[AS] name]
rule Alias = fork AS (make Some (one a_name)) (make Some (one a_bare_alias) or nothing None)
-- [FROM from {, from}]
rule Sources = fork FROM (list_of (part From)) (nothing [])
-- [WHERE e]
rule Condition = optional WHERE (inside Expression)
-- [GROUP BY e {, e}]
rule Groups = fork GROUP (BY before part Expressions) (nothing [])
-- [HAVING e]
rule Having = optional HAVING (inside Expression)
-- [ORDER BY key {, key}]
rule Order = fork ORDER (BY before list_of (part Key)) (nothing [])
rule Key = make (λ p. key_of p.0 p.1.0 p.1.1) (inside Expression then part Direction then part Nulls)
-- [ASC | DESC]
rule Direction = fork DESC (nothing true) (make (λ asc. false) (maybe ASC))
-- [NULLS FIRST | NULLS LAST]
rule Nulls = fork NULLS (fork FIRST (nothing (Some nulls_are.First)) (LAST before nothing (Some nulls_are.Last))) (nothing None)
-- [LIMIT limit] [OFFSET e], in either order
rule Paging =
    fork LIMIT (part Limit then part Offset)
    (fork OFFSET (make (λ p. (p.1, Some p.0)) (inside Expression then fork LIMIT (part Limit) (nothing None)))
    (nothing (None, None)))
-- ALL | e
rule Limit = fork ALL (nothing None) (make Some (inside Expression))
-- [OFFSET e]
rule Offset = optional OFFSET (inside Expression)
-- ---- what stands in FROM
rule From = make (λ p. joined_of p.0 p.1) (part Factor then many (part Join))
rule Join =
    fork CROSS (JOIN before make (λ x. join_of join_is.Cross x None) (part Factor))
    (fork LEFT (make (λ p. join_of join_is.Left p.1.0 (Some p.1.1)) (maybe OUTER then part JoinedOn))
    (make (λ p. join_of join_is.Inner p.1.0 (Some p.1.1)) (maybe INNER then part JoinedOn)))
-- JOIN factor ON e
rule JoinedOn = JOIN before part Factor then ON before inside Expression
rule Factor =
    check (λ p. source_of p.0 p.1.0 p.1.1) (one a_table_name then part Call then part Alias)
    or OPEN before part FactorInBrackets
-- [(arguments)]
rule Call = optional OPEN (part Arguments)
-- query) [alias] | from)
rule FactorInBrackets = make (λ p. f.Subquery p.0 p.1) ((inside Query until CLOSE) then part Alias) or inside From until CLOSE
