use Rattle.std.proofs.Common.{Ok}
use Rattle.pl_expr_parse.specs.Grammar.{Condition, ending}
use Rattle.pl_expr_parse.specs.FirstFollow.{reads, reads_part}
use Rattle.pl_expr_parse.proofs.Step.{gives_all}
use Rattle.pl_expr_parse.proofs.Follows.{both}
use Rattle.pl_expr_parse.proofs.grammar.Grammar.behind_from.Goals as goal

pub returns : goal.returns
returns g c =
    let d = c.args.self.now.depth in
    let ts = c.args.tokens.now in
    both (reads_part d Condition ts) (reads d ending) c.in_ok-condition.condition c.ending.result c.paired.result c.optional.new.tokens c.ending.new.tokens
    (gives_all d Condition ts (Ok c.in_ok-condition.condition) c.optional.new.tokens c.in_ok-condition.ensures) c.ending.ensures c.paired.ensures
