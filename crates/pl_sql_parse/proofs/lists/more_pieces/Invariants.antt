use Rattle.std.proofs.Common.{◌≡◌, ◌-◌, length}
use Rattle.pl_grammar.specs.Forms.{alone, by}
use Rattle.pl_grammar.specs.Words.{COMMA}
use Rattle.pl_grammar.specs.Parser.{links_from}
use Rattle.pl_sql_parse.proofs.lists.more_pieces.Given as goal

abbrev pub invariant-loop-turn : goal.invariant-loop-turn
invariant-loop-turn g l =
    links_from (by COMMA) g.T.Piece.reader alone (length l.fn.tokens) l.fn.found l.fn.tokens ≡ links_from (by COMMA) g.T.Piece.reader alone (l._turn-end - l._turn) l.found l.tokens
