use Rattle.pl_body_grammar.specs.Grammar.{Becomes}
use Rattle.pl_body_grammar.proofs.Step.{reads_rule}
use Rattle.pl_body_grammar.proofs.values.becomes.Goals as goal

pub returns : goal.returns
returns c = reads_rule Becomes _ _ _ c.either.ensures
