use Rattle.std.proofs.Common.{ℕ, subst, Option, IfNone}
use Rattle.pl_grammar.specs.Marks.{kinds}
use Rattle.pl_grammar.specs.Deep.{IsShallow}
use Rattle.pl_expr_parse.specs.Grammar.{Query}
use Rattle.pl_expr_parse.proofs.Theorem.{found, only, none}
use Rattle.pl_expr_parse.proofs.parse.parse_query.Goals as goal

pub returns-in-Ok-clause-found : goal.returns-in-Ok-clause-found
returns-in-Ok-clause-found c = found Query (kinds c.args.tokens.now) c.in-Ok.x c.in-Ok.ensures

pub returns-in-Ok-clause-only : goal.returns-in-Ok-clause-only
returns-in-Ok-clause-only c other spells = only Query (kinds c.args.tokens.now) c.in-Ok.x other c.in-Ok.ensures spells

pub returns-in-Err-Syntax-clause-exact : goal.returns-in-Err-Syntax-clause-exact
returns-in-Err-Syntax-clause-exact c = (
  subst (λ (o : Option ℕ). IfNone o (IsShallow (kinds c.args.tokens.now))) c.in-Ok-None.field-0-is c.in-Ok-None.ensures.none,
  none Query (kinds c.args.tokens.now) (c.in-Err-Syntax.ensures c.in-Err-Syntax.field-0-is),
)
