use Rattle.std.proofs.Common.{refl}
use Rattle.pl_body_grammar.specs.Grammar.{ForSource}
use Rattle.pl_body_grammar.proofs.Step.{was, gives, so_read, took, left, begun, other, makes, makes_none}
use Rattle.pl_body_commands.proofs.loops.for_source.Goals as goal

pub returns-in-Ok : goal.returns-in-Ok
returns-in-Ok c = gives ForSource _ _ (took _ _ _ _ _ _ _ _ refl c.eat.ensures.result c.if-eat.true c.eat.ensures.new (makes _ _ _ _ _ _ _ refl (was _ _ _ (c.in-Ok.ensures _ c.dynamic-command.ensures)) refl))

pub returns-in-Err : goal.returns-in-Err
returns-in-Err c = λ s. gives ForSource _ _ (took _ _ _ _ _ _ _ _ refl c.eat.ensures.result c.if-eat.true c.eat.ensures.new (makes_none _ _ _ _ refl (was _ _ _ (c.in-Err.ensures _ c.dynamic-command.ensures s))))

pub returns-in-Ok-until : goal.returns-in-Ok-until
returns-in-Ok-until c = gives ForSource _ _ (left _ _ _ _ _ _ _ _ refl c.eat.ensures.result c.if-eat.false c.eat.ensures.new (begun _ _ _ _ _ _ refl c.sees.ensures.begun c.if-sees.true (makes _ _ _ _ _ _ _ refl (was _ _ _ (c.in-Ok-until.ensures _ c.read_query-query.ensures)) refl)))

pub returns-in-Err-until : goal.returns-in-Err-until
returns-in-Err-until c = λ s. gives ForSource _ _ (left _ _ _ _ _ _ _ _ refl c.eat.ensures.result c.if-eat.false c.eat.ensures.new (begun _ _ _ _ _ _ refl c.sees.ensures.begun c.if-sees.true (makes_none _ _ _ _ refl (was _ _ _ (c.in-Err-until.ensures _ c.read_query-query.ensures s)))))

pub returns : goal.returns
returns c = so_read _ _ _ _ (gives ForSource _ _ (left _ _ _ _ _ _ _ _ refl c.eat.ensures.result c.if-eat.false c.eat.ensures.new (other _ _ _ _ _ _ refl c.sees.ensures.begun c.if-sees.false (other _ _ _ _ _ _ refl c.begins.ensures c.if-begins.false (was _ _ _ refl))))) c.counted.ensures

pub returns-in-Ok-until-2 : goal.returns-in-Ok-until-2
returns-in-Ok-until-2 c = gives ForSource _ _ (left _ _ _ _ _ _ _ _ refl c.eat.ensures.result c.if-eat.false c.eat.ensures.new (other _ _ _ _ _ _ refl c.sees.ensures.begun c.if-sees.false (begun _ _ _ _ _ _ refl c.begins.ensures c.if-begins.true (makes _ _ _ _ _ _ _ refl (was _ _ _ (c.in-Ok-until-2.ensures _ c.change-change.ensures)) refl))))

pub returns-in-Err-until-2 : goal.returns-in-Err-until-2
returns-in-Err-until-2 c = λ s. gives ForSource _ _ (left _ _ _ _ _ _ _ _ refl c.eat.ensures.result c.if-eat.false c.eat.ensures.new (other _ _ _ _ _ _ refl c.sees.ensures.begun c.if-sees.false (begun _ _ _ _ _ _ refl c.begins.ensures c.if-begins.true (makes_none _ _ _ _ refl (was _ _ _ (c.in-Err-until-2.ensures _ c.change-change.ensures s))))))
