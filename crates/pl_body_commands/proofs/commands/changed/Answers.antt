use Rattle.std.proofs.Common.{refl}
use Rattle.pl_body_grammar.specs.Grammar.{Changed}
use Rattle.pl_body_grammar.proofs.Step.{was, reads_by, gives, pairs, first_none, second_none, checks, checks_none, until_last}
use Rattle.pl_body_commands.proofs.commands.changed.Goals as goal

pub returns-in-Ok-until : goal.returns-in-Ok-until
returns-in-Ok-until c = reads_by Changed _ _ _ (checks _ _ _ _ _ _ _ refl (until_last _ _ _ _ _ _ refl (pairs _ _ _ _ _ _ _ _ refl (was _ _ _ c.in-Ok.ensures) (was _ _ _ (c.in-Ok-until.ensures _ c.optional_into-into.ensures)))) c.changed_of.ensures)

pub returns-in-Err-until : goal.returns-in-Err-until
returns-in-Err-until c = λ s. gives Changed _ _ (checks_none _ _ _ _ refl (until_last _ _ _ _ _ _ refl (second_none _ _ _ _ _ _ refl (was _ _ _ c.in-Ok.ensures) (was _ _ _ (c.in-Err-until.ensures _ c.optional_into-into.ensures s)))))

pub returns-in-Err : goal.returns-in-Err
returns-in-Err c = λ s. gives Changed _ _ (checks_none _ _ _ _ refl (until_last _ _ _ _ _ _ refl (first_none _ _ _ _ refl (was _ _ _ (c.in-Err.ensures s)))))
