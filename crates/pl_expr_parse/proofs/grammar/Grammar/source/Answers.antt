use Rattle.std.proofs.Common.{[], Some, length, rules}
use Rattle.pl_grammar.specs.Parser.{many_from}
use Rattle.pl_expr_parse.specs.Grammar.{From, Join, Factor}
use Rattle.pl_expr_parse.specs.Trees.{joined_of}
use Rattle.pl_expr_parse.specs.FirstFollow.{reads, reads_part, firsts}
use Rattle.pl_expr_parse.proofs.Step.{gives_all}
use Rattle.pl_expr_parse.proofs.Follows.{second}
use Rattle.pl_expr_parse.proofs.grammar.Grammar.source.Goals as goal

pub returns : goal.returns
returns g c =
    let d = c.args.self.now.depth in
    let ts = c.args.tokens.now in
    let join = reads_part d Join in
    gives_all d From ts c.joined_of.result c.many-joins.new.tokens
    (second (λ p. Some (joined_of p.0 p.1)) (reads_part d Factor ts) (λ ts. many_from (firsts Join) join (length ts) [] ts)
    c.in_ok-first.first c.many-joins.result c.joined_of.result c.factor.new.tokens c.many-joins.new.tokens
    c.in_ok-first.ensures (c.many-joins.ensures join (record { reads = λ old new r h. search rules })) c.joined_of.ensures)
