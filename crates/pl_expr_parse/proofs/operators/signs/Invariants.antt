use Rattle.std.proofs.Common.{[], ◌≡◌, ◌-◌, length}
use Rattle.pl_grammar.specs.Parser.{links_from, pure}
use Rattle.pl_expr_parse.specs.Grammar.{signs}
use Rattle.pl_expr_parse.proofs.operators.signs.Given as goal

abbrev pub invariant-loop-turn : goal.invariant-loop-turn
invariant-loop-turn l = links_from signs (pure (tt {0})) (λ s _. s) (length l.fn.tokens) [] l.fn.tokens ≡ links_from signs (pure (tt {0})) (λ s _. s) (l._turn-end - l._turn) l.found l.tokens
