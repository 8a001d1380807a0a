use Rattle.std.proofs.Common.{rules}
use Rattle.pl_body_grammar.specs.FirstFollow.{reads_part}
use Rattle.pl_body_grammar.specs.Grammar.{Handler, Conditions, Caught}
use Rattle.pl_body_grammar.proofs.Step.{reads_rule}
use Rattle.pl_body_control.proofs.raise.handler.Goals as goal

pub returns : goal.returns
returns c = reads_rule Handler _ _ _ (c.until.ensures _ (reads_rule Conditions _ _ _ (c.list-conditions.ensures (reads_part Caught) (record { reads = λ old new r p. search rules }))))
