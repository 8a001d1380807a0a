use Rattle.std.proofs.Common.{[], Some, length}
use Rattle.pl_grammar.specs.Parser.{links_from}
use Rattle.pl_expr_parse.specs.Grammar.{Product, Signed, factors}
use Rattle.pl_expr_parse.specs.Trees.{product_of, factor_of}
use Rattle.pl_expr_parse.specs.FirstFollow.{reads_part}
use Rattle.pl_expr_parse.proofs.Step.{gives_all}
use Rattle.pl_expr_parse.proofs.Follows.{second}
use Rattle.pl_expr_parse.proofs.grammar.Grammar.product.Goals as goal

pub returns : goal.returns
returns g c =
    let item = reads_part c.args.self.now.depth Signed in
    gives_all c.args.self.now.depth Product c.args.tokens.now c.product_of.result c.factors.new.tokens
    (second (λ p. Some (product_of p.0 p.1)) (item c.args.tokens.now) (λ ts. links_from factors item factor_of (length ts) [] ts)
    c.in_ok-first.first c.factors.result c.product_of.result c.signed.new.tokens c.factors.new.tokens
    c.in_ok-first.ensures c.factors.ensures c.product_of.ensures)
