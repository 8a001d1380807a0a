use Rattle.std.proofs.Common.{[], Some, length, rules}
use Rattle.pl_grammar.specs.Forms.{alone, by}
use Rattle.pl_grammar.specs.Parser.{links_from}
use Rattle.pl_grammar.specs.Words.{TO_TYPE}
use Rattle.pl_expr_parse.specs.Grammar.{Conversion, Primary, TypeName}
use Rattle.pl_expr_parse.specs.Trees.{conversion_of}
use Rattle.pl_expr_parse.specs.FirstFollow.{reads_part}
use Rattle.pl_expr_parse.proofs.Step.{gives_all}
use Rattle.pl_expr_parse.proofs.Follows.{second}
use Rattle.pl_expr_parse.proofs.grammar.Grammar.conversion.Goals as goal

pub returns : goal.returns
returns g c =
    let item = reads_part c.args.self.now.depth TypeName in
    gives_all c.args.self.now.depth Conversion c.args.tokens.now c.conversion_of.result c.links-types.new.tokens
    (second (λ p. Some (conversion_of p.0 p.1)) (reads_part c.args.self.now.depth Primary c.args.tokens.now) (λ ts. links_from (by TO_TYPE) item alone (length ts) [] ts)
    c.in_ok-operand.operand c.links-types.result c.conversion_of.result c.primary.new.tokens c.links-types.new.tokens
    c.in_ok-operand.ensures (c.links-types.ensures item (record { reads = λ old new r h. search rules })) c.conversion_of.ensures)
