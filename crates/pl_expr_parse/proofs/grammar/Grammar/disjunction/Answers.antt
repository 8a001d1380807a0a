use Rattle.std.proofs.Common.{[], Some, length, rules}
use Rattle.pl_grammar.specs.Forms.{alone, by}
use Rattle.pl_grammar.specs.Parser.{links_from}
use Rattle.pl_grammar.specs.Words.{OR}
use Rattle.pl_expr_parse.specs.Grammar.{Expression, Conjunction}
use Rattle.pl_expr_parse.specs.Trees.{disjunction_of}
use Rattle.pl_expr_parse.specs.FirstFollow.{reads_part}
use Rattle.pl_expr_parse.proofs.Step.{gives_all}
use Rattle.pl_expr_parse.proofs.Follows.{second}
use Rattle.pl_expr_parse.proofs.grammar.Grammar.disjunction.Goals as goal

pub returns : goal.returns
returns g c =
    let item = reads_part c.args.self.now.depth Conjunction in
    gives_all c.args.self.now.depth Expression c.args.tokens.now c.disjunction_of.result c.links-more.new.tokens
    (second (λ p. Some (disjunction_of p.0 p.1)) (item c.args.tokens.now) (λ ts. links_from (by OR) item alone (length ts) [] ts)
    c.in_ok-first.first c.links-more.result c.disjunction_of.result c.conjunction.new.tokens c.links-more.new.tokens
    c.in_ok-first.ensures (c.links-more.ensures item (record { reads = λ old new r h. search rules })) c.disjunction_of.ensures)
