-- Which tokens spell an expression, and which a query.
use Rattle.pl_tree.specs.declared.tree.Expr.{Expr}
use Rattle.pl_tree.specs.declared.tree.Query.{Query as QueryTree}
use Rattle.pl_grammar.specs.Relations.{Rel}
use Rattle.pl_grammar.specs.Rule.{SpelledBy}
use Rattle.pl_expr_parse.specs.Grammar.{Expression, Query, rule}

abbrev pub Spells : Rel Expr
Spells = SpelledBy rule Expression

abbrev pub SpellsQuery : Rel QueryTree
SpellsQuery = SpelledBy rule Query
