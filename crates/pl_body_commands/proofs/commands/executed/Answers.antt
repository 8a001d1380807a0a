use Rattle.std.proofs.Common.{refl}
use Rattle.pl_body_grammar.specs.Grammar as spec
use Rattle.pl_body_grammar.specs.Words.{SEMICOLON}
use Rattle.pl_grammar.specs.Rule.{part, ◌until◌, ◌then◌}
use Rattle.pl_body_grammar.proofs.Step.{was, reading, pairs, first_none, second_none, until_last}
use Rattle.pl_body_commands.proofs.commands.executed.Goals as goal

pub returns-in-Ok-until : goal.returns-in-Ok-until
returns-in-Ok-until c = reading ((spec.optional_into then part spec.Using) until SEMICOLON) _ _ (until_last _ _ _ _ _ _ refl (pairs _ _ _ _ _ _ _ _ refl (was _ _ _ c.in-Ok.ensures) (was _ _ _ (c.in-Ok-until.ensures _ c.using-arguments.ensures))))

pub returns-in-Err-until : goal.returns-in-Err-until
returns-in-Err-until c = λ s. reading ((spec.optional_into then part spec.Using) until SEMICOLON) _ _ (until_last _ _ _ _ _ _ refl (second_none _ _ _ _ _ _ refl (was _ _ _ c.in-Ok.ensures) (was _ _ _ (c.in-Err-until.ensures _ c.using-arguments.ensures s))))

pub returns-in-Err : goal.returns-in-Err
returns-in-Err c = λ s. reading ((spec.optional_into then part spec.Using) until SEMICOLON) _ _ (until_last _ _ _ _ _ _ refl (first_none _ _ _ _ refl (was _ _ _ (c.in-Err.ensures s))))
