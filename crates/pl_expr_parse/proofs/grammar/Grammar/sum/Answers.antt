use Rattle.std.proofs.Common.{[], Some, length}
use Rattle.pl_grammar.specs.Parser.{links_from}
use Rattle.pl_expr_parse.specs.Grammar.{Product, Sum, terms}
use Rattle.pl_expr_parse.specs.Trees.{sum_of, term_of}
use Rattle.pl_expr_parse.specs.FirstFollow.{reads_part}
use Rattle.pl_expr_parse.proofs.Step.{gives_all}
use Rattle.pl_expr_parse.proofs.Follows.{second}
use Rattle.pl_expr_parse.proofs.grammar.Grammar.sum.Goals as goal

pub returns : goal.returns
returns g c =
    let item = reads_part c.args.self.now.depth Product in
    gives_all c.args.self.now.depth Sum c.args.tokens.now c.sum_of.result c.terms.new.tokens
    (second (λ p. Some (sum_of p.0 p.1)) (item c.args.tokens.now) (λ ts. links_from terms item term_of (length ts) [] ts)
    c.in_ok-first.first c.terms.result c.sum_of.result c.product.new.tokens c.terms.new.tokens
    c.in_ok-first.ensures c.terms.ensures c.sum_of.ensures)
