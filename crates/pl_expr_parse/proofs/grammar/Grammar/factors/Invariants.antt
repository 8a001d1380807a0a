use Rattle.std.proofs.Common.{[], ◌≡◌, ◌-◌, length}
use Rattle.pl_grammar.specs.Parser.{links_from}
use Rattle.pl_expr_parse.specs.Grammar.{Signed, factors}
use Rattle.pl_expr_parse.specs.Trees.{factor_of}
use Rattle.pl_expr_parse.specs.FirstFollow.{reads_part}
use Rattle.pl_expr_parse.proofs.grammar.Grammar.factors.Given as goal

abbrev pub invariant-loop-turn : goal.invariant-loop-turn
invariant-loop-turn g l = links_from factors (reads_part l.self.depth Signed) factor_of (length l.fn.tokens) [] l.fn.tokens ≡ links_from factors (reads_part l.self.depth Signed) factor_of (l._turn-end - l._turn) l.found l.tokens
