use Rattle.pl_expr_parse.specs.Grammar.{Sources}
use Rattle.pl_expr_parse.specs.FirstFollow.{reads, reads_part}
use Rattle.pl_expr_parse.specs.Smaller.{behind_from}
use Rattle.pl_expr_parse.proofs.Follows.{both}
use Rattle.pl_expr_parse.proofs.grammar.Grammar.behind_items.Goals as goal

pub returns : goal.returns
returns g c =
    let d = c.args.self.now.depth in
    let ts = c.args.tokens.now in
    both (reads_part d Sources ts) (reads d behind_from) c.in_ok-from.from c.behind_from.result c.paired.result c.sources.new.tokens c.behind_from.new.tokens
    c.in_ok-from.ensures c.behind_from.ensures c.paired.ensures
