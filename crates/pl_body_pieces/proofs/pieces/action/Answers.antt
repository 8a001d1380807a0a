use Rattle.std.proofs.Common.{refl}
use Rattle.pl_body_grammar.specs.Grammar.{Action}
use Rattle.pl_body_grammar.proofs.Step.{was, gives, so_read, begun, other}
use Rattle.pl_body_pieces.proofs.pieces.action.Goals as goal

pub returns-then-begins : goal.returns-then-begins
returns-then-begins c = so_read _ _ _ _ (gives Action _ _ (begun _ _ _ _ _ _ refl c.begins.ensures c.if-begins.true (was _ _ _ refl))) c.control.ensures

pub returns-then-begins-2 : goal.returns-then-begins-2
returns-then-begins-2 c = so_read _ _ _ _ (gives Action _ _ (other _ _ _ _ _ _ refl c.begins.ensures c.if-begins.false (begun _ _ _ _ _ _ refl c.begins-2.ensures c.if-begins-2.true (was _ _ _ refl)))) c.cursor.ensures

pub returns : goal.returns
returns c = so_read _ _ _ _ (gives Action _ _ (other _ _ _ _ _ _ refl c.begins.ensures c.if-begins.false (other _ _ _ _ _ _ refl c.begins-2.ensures c.if-begins-2.false (was _ _ _ refl)))) c.command.ensures
