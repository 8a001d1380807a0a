use Rattle.std.proofs.Common.{Ok}
use Rattle.pl_expr_parse.specs.Grammar.{Having}
use Rattle.pl_expr_parse.specs.FirstFollow.{reads, reads_part}
use Rattle.pl_expr_parse.specs.Smaller.{ordered}
use Rattle.pl_expr_parse.proofs.Step.{gives_all}
use Rattle.pl_expr_parse.proofs.Follows.{both}
use Rattle.pl_expr_parse.proofs.grammar.Grammar.chosen.Goals as goal

pub returns : goal.returns
returns g c =
    let d = c.args.self.now.depth in
    let ts = c.args.tokens.now in
    both (reads_part d Having ts) (reads d ordered) c.in_ok-having.having c.ordered.result c.paired.result c.optional.new.tokens c.ordered.new.tokens
    (gives_all d Having ts (Ok c.in_ok-having.having) c.optional.new.tokens c.in_ok-having.ensures) c.ordered.ensures c.paired.ensures
