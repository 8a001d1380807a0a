use Rattle.std.proofs.Common.{[], Some, length, rules}
use Rattle.pl_grammar.specs.Forms.{alone, by}
use Rattle.pl_grammar.specs.Parser.{links_from}
use Rattle.pl_grammar.specs.Words.{AND}
use Rattle.pl_expr_parse.specs.Grammar.{Conjunction, Negation}
use Rattle.pl_expr_parse.specs.Trees.{conjunction_of}
use Rattle.pl_expr_parse.specs.FirstFollow.{reads_part}
use Rattle.pl_expr_parse.proofs.Step.{gives_all}
use Rattle.pl_expr_parse.proofs.Follows.{second}
use Rattle.pl_expr_parse.proofs.grammar.Grammar.conjunction.Goals as goal

pub returns : goal.returns
returns g c =
    let item = reads_part c.args.self.now.depth Negation in
    gives_all c.args.self.now.depth Conjunction c.args.tokens.now c.conjunction_of.result c.links-more.new.tokens
    (second (λ p. Some (conjunction_of p.0 p.1)) (item c.args.tokens.now) (λ ts. links_from (by AND) item alone (length ts) [] ts)
    c.in_ok-first.first c.links-more.result c.conjunction_of.result c.negation.new.tokens c.links-more.new.tokens
    c.in_ok-first.ensures (c.links-more.ensures item (record { reads = λ old new r h. search rules })) c.conjunction_of.ensures)
