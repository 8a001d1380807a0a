use Rattle.std.proofs.Common.{[], ◌≡◌, ◌-◌, length, replicate}
use Rattle.pl_grammar.specs.Parser.{links_from, pure}
use Rattle.pl_grammar.specs.Forms.{alone, by}
use Rattle.pl_grammar.specs.Words.{NOT}
use Rattle.pl_expr_parse.proofs.operators.nots.Given as goal

abbrev pub invariant-loop-turn : goal.invariant-loop-turn
invariant-loop-turn l = links_from (by NOT) (pure (tt {0})) alone (length l.fn.tokens) [] l.fn.tokens ≡ links_from (by NOT) (pure (tt {0})) alone (l.left - l.turn) (replicate l.turn (tt {0})) l.tokens
