use Rattle.pl_sql_parse.specs.Grammar.{Event, Events}
use Rattle.pl_sql_parse.specs.FirstFollow.{reads_part}
use Rattle.pl_sql_parse.proofs.Step.{reads_rule}
use Rattle.pl_sql_parse.proofs.triggers.events.Goals as goal

pub returns : goal.returns
returns c = reads_rule Events _ _ _ (c.list.ensures (reads_part Event) (record { reads = λ old new r p. p }))
