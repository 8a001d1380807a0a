use Rattle.std.proofs.Common.{ℕ, [], Some, length, replicate, subst, sym}
use Rattle.std.proofs.lemmas.List.{length-replicate}
use Rattle.pl_grammar.specs.Forms.{alone, by}
use Rattle.pl_grammar.specs.Parser.{links_from, pure}
use Rattle.pl_grammar.specs.Words.{NOT}
use Rattle.pl_expr_parse.specs.Grammar.{Negation, Test}
use Rattle.pl_expr_parse.specs.Trees.{negation_of}
use Rattle.pl_expr_parse.specs.Follows.{Follows}
use Rattle.pl_expr_parse.specs.FirstFollow.{reads_part}
use Rattle.pl_expr_parse.proofs.Step.{gives_all}
use Rattle.pl_expr_parse.proofs.Follows.{second}
use Rattle.pl_expr_parse.proofs.grammar.Grammar.negation.Goals as goal

pub returns : goal.returns
returns g c =
    let count = c.nots-count.result in
    gives_all c.args.self.now.depth Negation c.args.tokens.now c.negation_of.result c.test.new.tokens
    (second (λ p. Some (negation_of (length p.0) p.1)) (links_from (by NOT) (pure (tt {0})) alone (length c.args.tokens.now) [] c.args.tokens.now) (reads_part c.args.self.now.depth Test)
    (replicate count (tt {0})) c.test.result c.negation_of.result c.nots-count.new.tokens c.test.new.tokens
    c.nots-count.ensures c.test.ensures
    (subst (λ (n : ℕ). Follows c.test.result (λ x. Some (negation_of n x)) c.negation_of.result) (sym (length-replicate count (tt {0}))) c.negation_of.ensures))
