use Rattle.std.proofs.Common.{Some}
use Rattle.pl_grammar.specs.Parser.{expect, and_then}
use Rattle.pl_grammar.specs.Words.{CLOSE, OPEN}
use Rattle.pl_expr_parse.specs.Grammar.{Query, Exists}
use Rattle.pl_expr_parse.specs.FirstFollow.{reads_inside}
use Rattle.pl_expr_parse.specs.Follows.{before}
use Rattle.pl_expr_parse.proofs.Step.{gives_all}
use Rattle.pl_expr_parse.proofs.Follows.{follows, bound}
use Rattle.pl_tree.specs.declared.tree.Expr.TheVariants as e
use Rattle.pl_expr_parse.proofs.grammar.Grammar.exists.Goals as goal

pub returns : goal.returns
returns g c =
    let d = c.args.self.now.depth in
    let ts = c.args.tokens.now in
    let mid = c.expect.new.self in
    let query = reads_inside d Query in
    let brackets = and_then (expect OPEN ts) (λ _ ts. before CLOSE (query ts)) in
    gives_all d Exists ts c.exists_of.result c.until-query.new.tokens
    (follows (λ q. Some (e.Exists q)) brackets c.until-query.result c.exists_of.result c.until-query.new.tokens
    (bound (expect OPEN ts) (λ _ ts. before CLOSE (query ts)) c.in_ok-expect.field-0 mid c.until-query.new.tokens c.until-query.result c.in_ok-expect.ensures
    (c.until-query.ensures (query mid) c.inner_query-query.ensures))
    c.exists_of.ensures)
