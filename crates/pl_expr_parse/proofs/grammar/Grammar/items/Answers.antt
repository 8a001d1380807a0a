use Rattle.std.proofs.Common.{rules}
use Rattle.pl_expr_parse.specs.Grammar.{Item, Items}
use Rattle.pl_expr_parse.specs.FirstFollow.{reads_part}
use Rattle.pl_expr_parse.proofs.Step.{gives_all}
use Rattle.pl_expr_parse.proofs.grammar.Grammar.items.Goals as goal

pub returns : goal.returns
returns g c =
    gives_all c.args.self.now.depth Items c.args.tokens.now c.list.result c.list.new.tokens
    (c.list.ensures (reads_part c.args.self.now.depth Item) (record { reads = λ old new r h. search rules }))
