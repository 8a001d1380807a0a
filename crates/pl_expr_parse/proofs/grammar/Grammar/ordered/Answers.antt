use Rattle.pl_expr_parse.specs.Grammar.{Order, Paging}
use Rattle.pl_expr_parse.specs.FirstFollow.{reads_part}
use Rattle.pl_expr_parse.proofs.Follows.{both}
use Rattle.pl_expr_parse.proofs.grammar.Grammar.ordered.Goals as goal

pub returns : goal.returns
returns g c =
    let d = c.args.self.now.depth in
    let ts = c.args.tokens.now in
    both (reads_part d Order ts) (reads_part d Paging) c.in_ok-order.order c.paging.result c.paired.result c.order.new.tokens c.paging.new.tokens
    c.in_ok-order.ensures c.paging.ensures c.paired.ensures
