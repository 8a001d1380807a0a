use Rattle.std.proofs.Common.{◌≡◌, ◌-◌, ◌+◌, true, false, replicate, rules, arith}
use Rattle.std.proofs.lemmas.Grind.{common_steps}
use Rattle.pl_grammar.specs.Parser.{links_from, pure}
use Rattle.pl_grammar.specs.Marks.{sees}
use Rattle.pl_grammar.specs.Forms.{alone, by}
use Rattle.pl_grammar.specs.Words.{NOT}
use Rattle.pl_grammar.proofs.Turns.{one_turn, link_ends, link_more}
use Rattle.pl_expr_parse.proofs.Nots.{one_not}
use Rattle.pl_expr_parse.proofs.operators.nots.Goals as goal

pub returns-then-not-eat : goal.returns-then-not-eat
returns-then-not-eat c =
    let e = one_turn (λ n. links_from (by NOT) (pure (tt {0})) alone n (replicate c.loop-turn.turn (tt {0})) c.loop-turn.tokens) _ c.loop-turn.turn c.loop-turn-test.true c.loop-turn.invariant in
    let seen : sees NOT c.loop-turn.tokens ≡ false = search rules in
    let m = link_ends NOT (pure (tt {0})) alone (c.left-left.result - (c.loop-turn.turn + 1)) (replicate c.loop-turn.turn (tt {0})) c.loop-turn.tokens seen in
    first_of (search rules, cc)

pub loop-turn-preserved : goal.loop-turn-preserved
loop-turn-preserved c =
    let e = one_turn (λ n. links_from (by NOT) (pure (tt {0})) alone n (replicate c.loop-turn.turn (tt {0})) c.loop-turn.tokens) _ c.loop-turn.turn c.loop-turn-test.true c.loop-turn.invariant in
    let seen : sees NOT c.loop-turn.tokens ≡ true = search rules in
    let m = link_more NOT (pure (tt {0})) alone (c.left-left.result - (c.loop-turn.turn + 1)) (replicate c.loop-turn.turn (tt {0})) c.loop-turn.tokens seen in
    let k = one_not c.loop-turn.turn in
    first_of (search rules, grind (arith, common_steps))
