use Rattle.std.proofs.Common.{refl}
use Rattle.pl_bodies.specs.declared.simple.OpenSource.TheVariants as opened
use Rattle.pl_body_grammar.specs.Grammar as spec
use Rattle.pl_sql_parse.specs.Words.{EXECUTE}
use Rattle.pl_body_grammar.specs.Words.{SEMICOLON}
use Rattle.pl_grammar.specs.Rule.{fork, make, part, ◌until◌}
use Rattle.pl_body_grammar.proofs.Step.{was, reading, took, left, makes, makes_none}
use Rattle.pl_body_cursors.proofs.cursors.opened_as.Goals as goal

pub returns-in-Ok : goal.returns-in-Ok
returns-in-Ok c = reading (fork EXECUTE (make (opened.Execute c.args.can_scroll) (part spec.Dynamic until SEMICOLON)) (make (opened.Query c.args.can_scroll) (spec.query until SEMICOLON))) _ _ (took _ _ _ _ _ _ _ _ refl c.eat.ensures.result c.if-eat.true c.eat.ensures.new (makes _ _ _ _ _ _ _ refl (was _ _ _ (c.in-Ok.ensures _ c.dynamic-command.ensures)) refl))

pub returns-in-Err : goal.returns-in-Err
returns-in-Err c = λ s. reading (fork EXECUTE (make (opened.Execute c.args.can_scroll) (part spec.Dynamic until SEMICOLON)) (make (opened.Query c.args.can_scroll) (spec.query until SEMICOLON))) _ _ (took _ _ _ _ _ _ _ _ refl c.eat.ensures.result c.if-eat.true c.eat.ensures.new (makes_none _ _ _ _ refl (was _ _ _ (c.in-Err.ensures _ c.dynamic-command.ensures s))))

pub returns-in-Ok-until : goal.returns-in-Ok-until
returns-in-Ok-until c = reading (fork EXECUTE (make (opened.Execute c.args.can_scroll) (part spec.Dynamic until SEMICOLON)) (make (opened.Query c.args.can_scroll) (spec.query until SEMICOLON))) _ _ (left _ _ _ _ _ _ _ _ refl c.eat.ensures.result c.if-eat.false c.eat.ensures.new (makes _ _ _ _ _ _ _ refl (was _ _ _ (c.in-Ok-until.ensures _ c.read_query-query.ensures)) refl))

pub returns-in-Err-until : goal.returns-in-Err-until
returns-in-Err-until c = λ s. reading (fork EXECUTE (make (opened.Execute c.args.can_scroll) (part spec.Dynamic until SEMICOLON)) (make (opened.Query c.args.can_scroll) (spec.query until SEMICOLON))) _ _ (left _ _ _ _ _ _ _ _ refl c.eat.ensures.result c.if-eat.false c.eat.ensures.new (makes_none _ _ _ _ refl (was _ _ _ (c.in-Err-until.ensures _ c.read_query-query.ensures s))))
