use Rattle.std.proofs.Common.{◌∙◌, ap, sym, List}
use Rattle.pl_change.specs.Changes.{progress}
use Rattle.pl_value.specs.Frames.{Row}
use Rattle.pl_value.specs.Reading.{got}
use Rattle.pl_change.proofs.commands.answer.Goals as goal

pub returns-in-Ok-clause-reads : goal.returns-in-Ok-clause-reads
returns-in-Ok-clause-reads g c objects is =
    c.in-Ok.ensures.reads objects is ∙ ap (λ (made : List Row). got (progress c.run.new.journal.now.tables made) c.run.new.caller) (sym (c.from_vec.ensures ∙ c.into_vec.ensures))

pub returns-in-Err-clause-reads : goal.returns-in-Err-clause-reads
returns-in-Err-clause-reads g c objects is = c.in-Err.ensures.reads objects is
