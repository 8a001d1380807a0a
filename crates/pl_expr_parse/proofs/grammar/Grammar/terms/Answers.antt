use Rattle.std.proofs.Common.{rules, arith}
use Rattle.std.proofs.lemmas.Grind.{common_steps}
use Rattle.pl_grammar.specs.Parser.{links_from}
use Rattle.pl_expr_parse.specs.Grammar.{Product, terms}
use Rattle.pl_expr_parse.specs.Trees.{term_of}
use Rattle.pl_expr_parse.specs.FirstFollow.{reads_part}
use Rattle.pl_grammar.proofs.Turns.{one_turn}
use Rattle.pl_expr_parse.proofs.grammar.Grammar.terms.Goals as goal

pub loop-turn-preserved : goal.loop-turn-preserved
loop-turn-preserved g c =
    let e = one_turn (λ n. links_from terms (reads_part c.args.self.now.depth Product) term_of n c.loop-turn.found c.loop-turn.tokens) _ c.loop-turn._turn c.loop-turn-test.true c.loop-turn.invariant in
    first_of (search rules, grind (arith, common_steps))
