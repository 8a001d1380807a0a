use Rattle.std.proofs.Common.{rules, arith}
use Rattle.std.proofs.lemmas.Grind.{common_steps}
use Rattle.pl_grammar.specs.Parser.{links_from, pure}
use Rattle.pl_grammar.proofs.Turns.{one_turn}
use Rattle.pl_expr_parse.specs.Grammar.{signs}
use Rattle.pl_expr_parse.proofs.operators.signs.Goals as goal

pub returns-in-None : goal.returns-in-None
returns-in-None c =
    let e = one_turn (λ n. links_from signs (pure (tt {0})) (λ s _. s) n c.loop-turn.found c.loop-turn.tokens) _ c.loop-turn._turn c.loop-turn-test.true c.loop-turn.invariant in
    first_of (search rules, cc)

pub loop-turn-preserved : goal.loop-turn-preserved
loop-turn-preserved c =
    let e = one_turn (λ n. links_from signs (pure (tt {0})) (λ s _. s) n c.loop-turn.found c.loop-turn.tokens) _ c.loop-turn._turn c.loop-turn-test.true c.loop-turn.invariant in
    first_of (search rules, grind (arith, common_steps))
