use Rattle.std.proofs.Common.{[], Some, length, rules}
use Rattle.pl_grammar.specs.Forms.{alone, by}
use Rattle.pl_grammar.specs.Parser.{links_from}
use Rattle.pl_grammar.specs.Words.{BARS}
use Rattle.pl_expr_parse.specs.Grammar.{Concatenation, Sum}
use Rattle.pl_expr_parse.specs.Trees.{concatenation_of}
use Rattle.pl_expr_parse.specs.FirstFollow.{reads_part}
use Rattle.pl_expr_parse.proofs.Step.{gives_all}
use Rattle.pl_expr_parse.proofs.Follows.{second}
use Rattle.pl_expr_parse.proofs.grammar.Grammar.concatenation.Goals as goal

pub returns : goal.returns
returns g c =
    let item = reads_part c.args.self.now.depth Sum in
    gives_all c.args.self.now.depth Concatenation c.args.tokens.now c.concatenation_of.result c.links-more.new.tokens
    (second (λ p. Some (concatenation_of p.0 p.1)) (item c.args.tokens.now) (λ ts. links_from (by BARS) item alone (length ts) [] ts)
    c.in_ok-first.first c.links-more.result c.concatenation_of.result c.sum.new.tokens c.links-more.new.tokens
    c.in_ok-first.ensures (c.links-more.ensures item (record { reads = λ old new r h. search rules })) c.concatenation_of.ensures)
