use Rattle.std.proofs.Common.{[], Some, length}
use Rattle.pl_grammar.specs.Parser.{links_from, pure}
use Rattle.pl_expr_parse.specs.Grammar.{Conversion, Signed, signs}
use Rattle.pl_expr_parse.specs.Trees.{signed_of}
use Rattle.pl_expr_parse.specs.FirstFollow.{reads_part}
use Rattle.pl_expr_parse.proofs.Step.{gives_all}
use Rattle.pl_expr_parse.proofs.Follows.{second}
use Rattle.pl_expr_parse.proofs.grammar.Grammar.signed.Goals as goal

pub returns : goal.returns
returns g c =
    gives_all c.args.self.now.depth Signed c.args.tokens.now c.signed_of.result c.conversion.new.tokens
    (second (λ p. Some (signed_of p.0 p.1)) (links_from signs (pure (tt {0})) (λ s _. s) (length c.args.tokens.now) [] c.args.tokens.now) (reads_part c.args.self.now.depth Conversion)
    c.in_ok-signs.signs c.conversion.result c.signed_of.result c.signs.new.tokens c.conversion.new.tokens
    c.in_ok-signs.ensures c.conversion.ensures c.signed_of.ensures)
