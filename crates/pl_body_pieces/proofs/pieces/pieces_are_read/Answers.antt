use Rattle.pl_body_grammar.proofs.Theorem.{lawful}
use Rattle.pl_body_pieces.proofs.pieces.pieces_are_read.Goals as goal

pub returns-clause-spelled : goal.returns-clause-spelled
returns-clause-spelled c p ts rest x h = (lawful p).sound ts rest x h

pub returns-clause-read : goal.returns-clause-read
returns-clause-read c p front rest x h end = (lawful p).complete x front rest h end
