use Rattle.std.proofs.Common.{[], ◌≡◌, ◌-◌, length}
use Rattle.pl_grammar.specs.Parser.{links_from}
use Rattle.pl_expr_parse.specs.Grammar.{Product, terms}
use Rattle.pl_expr_parse.specs.Trees.{term_of}
use Rattle.pl_expr_parse.specs.FirstFollow.{reads_part}
use Rattle.pl_expr_parse.proofs.grammar.Grammar.terms.Given as goal

abbrev pub invariant-loop-turn : goal.invariant-loop-turn
invariant-loop-turn g l = links_from terms (reads_part l.self.depth Product) term_of (length l.fn.tokens) [] l.fn.tokens ≡ links_from terms (reads_part l.self.depth Product) term_of (l._turn-end - l._turn) l.found l.tokens
