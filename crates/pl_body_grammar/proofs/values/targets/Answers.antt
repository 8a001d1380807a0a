use Rattle.std.proofs.Common.{rules}
use Rattle.pl_body_grammar.specs.FirstFollow.{reads_part}
use Rattle.pl_body_grammar.specs.Grammar.{Target, Targets}
use Rattle.pl_body_grammar.proofs.Step.{reads_rule}
use Rattle.pl_body_grammar.proofs.values.targets.Goals as goal

pub returns : goal.returns
returns c = reads_rule Targets _ _ _ (c.list.ensures (reads_part Target) (record { reads = λ old new r p. search rules }))
