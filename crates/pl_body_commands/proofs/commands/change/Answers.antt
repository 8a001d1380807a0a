use Rattle.std.proofs.Common.{refl}
use Rattle.pl_body_grammar.specs.Grammar.{Change}
use Rattle.pl_body_grammar.proofs.Step.{was, reads_by, gives, checks, checks_none}
use Rattle.pl_body_commands.proofs.commands.change.Goals as goal

pub returns-in-Ok : goal.returns-in-Ok
returns-in-Ok c = reads_by Change _ _ _ (checks _ _ _ _ _ _ _ refl (was _ _ _ c.in-Ok.ensures) c.change_of.ensures)

pub returns-in-Err : goal.returns-in-Err
returns-in-Err c = λ s. gives Change _ _ (checks_none _ _ _ _ refl (was _ _ _ (c.in-Err.ensures s)))
