use Rattle.std.proofs.Common.{rules}
use Rattle.pl_expr_parse.specs.Grammar.{Expression, Expressions}
use Rattle.pl_expr_parse.specs.FirstFollow.{reads_inside}
use Rattle.pl_expr_parse.proofs.Step.{gives_all}
use Rattle.pl_expr_parse.proofs.grammar.Grammar.expressions.Goals as goal

pub returns : goal.returns
returns g c =
    gives_all c.args.self.now.depth Expressions c.args.tokens.now c.list.result c.list.new.tokens
    (c.list.ensures (reads_inside c.args.self.now.depth Expression) (record { reads = λ old new r h. search rules }))
