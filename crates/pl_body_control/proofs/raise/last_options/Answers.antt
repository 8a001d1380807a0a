use Rattle.std.proofs.Common.{rules}
use Rattle.pl_body_grammar.specs.FirstFollow.{reads_part}
use Rattle.pl_body_grammar.specs.Grammar.{Options, RaiseOption}
use Rattle.pl_body_grammar.proofs.Step.{reads_rule}
use Rattle.pl_body_control.proofs.raise.last_options.Goals as goal

pub returns : goal.returns
returns c = c.until.ensures _ (reads_rule Options _ _ _ (c.list-options.ensures (reads_part RaiseOption) (record { reads = λ old new r p. search rules })))
