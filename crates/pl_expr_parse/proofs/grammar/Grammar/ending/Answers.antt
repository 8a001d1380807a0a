use Rattle.pl_expr_parse.specs.Grammar.{Groups}
use Rattle.pl_expr_parse.specs.FirstFollow.{reads, reads_part}
use Rattle.pl_expr_parse.specs.Smaller.{chosen}
use Rattle.pl_expr_parse.proofs.Follows.{both}
use Rattle.pl_expr_parse.proofs.grammar.Grammar.ending.Goals as goal

pub returns : goal.returns
returns g c =
    let d = c.args.self.now.depth in
    let ts = c.args.tokens.now in
    both (reads_part d Groups ts) (reads d chosen) c.in_ok-groups.groups c.chosen.result c.paired.result c.groups.new.tokens c.chosen.new.tokens
    c.in_ok-groups.ensures c.chosen.ensures c.paired.ensures
