use Rattle.std.proofs.Common.{refl}
use Rattle.pl_body_grammar.specs.Grammar.{ReturnQuery}
use Rattle.pl_body_grammar.proofs.Step.{was, gives, took, left, makes, makes_none}
use Rattle.pl_body_control.proofs.statements.return_query.Goals as goal

pub returns-in-Ok : goal.returns-in-Ok
returns-in-Ok c = gives ReturnQuery _ _ (took _ _ _ _ _ _ _ _ refl c.eat.ensures.result c.if-eat.true c.eat.ensures.new (makes _ _ _ _ _ _ _ refl (was _ _ _ (c.in-Ok.ensures _ c.dynamic-command.ensures)) refl))

pub returns-in-Err : goal.returns-in-Err
returns-in-Err c = λ s. gives ReturnQuery _ _ (took _ _ _ _ _ _ _ _ refl c.eat.ensures.result c.if-eat.true c.eat.ensures.new (makes_none _ _ _ _ refl (was _ _ _ (c.in-Err.ensures _ c.dynamic-command.ensures s))))

pub returns-in-Ok-until : goal.returns-in-Ok-until
returns-in-Ok-until c = gives ReturnQuery _ _ (left _ _ _ _ _ _ _ _ refl c.eat.ensures.result c.if-eat.false c.eat.ensures.new (makes _ _ _ _ _ _ _ refl (was _ _ _ (c.in-Ok-until.ensures _ c.read_query-query.ensures)) refl))

pub returns-in-Err-until : goal.returns-in-Err-until
returns-in-Err-until c = λ s. gives ReturnQuery _ _ (left _ _ _ _ _ _ _ _ refl c.eat.ensures.result c.if-eat.false c.eat.ensures.new (makes_none _ _ _ _ refl (was _ _ _ (c.in-Err-until.ensures _ c.read_query-query.ensures s))))
