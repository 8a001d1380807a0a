use Rattle.std.proofs.Common.{[], ◌≡◌, ◌-◌, length, map}
use Rattle.pl_grammar.specs.Marks.{meant}
use Rattle.pl_grammar.specs.Parser.{many_from}
use Rattle.pl_sql_parse.proofs.lists.all_pieces.Given as goal

abbrev pub invariant-loop-turn : goal.invariant-loop-turn
invariant-loop-turn g l =
    many_from (map meant l.marks) g.T.Piece.reader (length l.fn.tokens) [] l.fn.tokens ≡ many_from (map meant l.marks) g.T.Piece.reader (l._turn-end - l._turn) l.found l.tokens
