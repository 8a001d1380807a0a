use Rattle.std.proofs.Common.{◌∙◌, ◌++◌, ◌∷◌, [], ap}
use Rattle.pl_grammar.specs.Words.{COMMA}
use Rattle.pl_grammar.proofs.ItemTurns.{listed_reads}
use Rattle.pl_sql_parse.proofs.lists.pieces.Goals as goal

pub returns : goal.returns
returns g c =
    listed_reads COMMA g.T.Piece.reader c.args.tokens.now c.read.new.tokens c.more_pieces.new.tokens c.in_ok-read.field-0 c.push.new.self c.more_pieces.result
    c.in_ok-read.ensures (c.in_ok-push.ensures.ok ∙ ap (λ l. l ++ c.in_ok-read.field-0 ∷ []) c.new-found.ensures) c.more_pieces.ensures
