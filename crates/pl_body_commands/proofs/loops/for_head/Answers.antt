use Rattle.std.proofs.Common.{refl}
use Rattle.pl_body_grammar.specs.Grammar.{For}
use Rattle.pl_body_grammar.proofs.Step.{was, reads_by, gives, pairs, first_none, second_none, checks, checks_none}
use Rattle.pl_body_commands.proofs.loops.for_head.Goals as goal

pub returns-in-Ok-for_source : goal.returns-in-Ok-for_source
returns-in-Ok-for_source c = reads_by For _ _ _ (checks _ _ _ _ _ _ _ refl (pairs _ _ _ _ _ _ _ _ refl (was _ _ _ (c.in-Ok.ensures _ c.targets-targets.ensures)) (was _ _ _ c.in-Ok-for_source.ensures)) c.for_of.ensures)

pub returns-in-Err-for_source : goal.returns-in-Err-for_source
returns-in-Err-for_source c = λ s. gives For _ _ (checks_none _ _ _ _ refl (second_none _ _ _ _ _ _ refl (was _ _ _ (c.in-Ok.ensures _ c.targets-targets.ensures)) (was _ _ _ (c.in-Err-for_source.ensures s))))

pub returns-in-Err : goal.returns-in-Err
returns-in-Err c = λ s. gives For _ _ (checks_none _ _ _ _ refl (first_none _ _ _ _ refl (was _ _ _ (c.in-Err.ensures _ c.targets-targets.ensures s))))
