use Rattle.std.proofs.Common.{rules}
use Rattle.pl_body_grammar.specs.FirstFollow.{reads_part}
use Rattle.pl_body_grammar.specs.Grammar.{StackedTargets, StackedTarget}
use Rattle.pl_body_grammar.proofs.Step.{reads_rule}
use Rattle.pl_body_control.proofs.statements.stacked_targets.Goals as goal

pub returns : goal.returns
returns c = reads_rule StackedTargets _ _ _ (c.until.ensures _ (c.list-targets.ensures (reads_part StackedTarget) (record { reads = λ old new r p. search rules })))
