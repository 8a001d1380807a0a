use Rattle.std.proofs.Common.{ap}
use Rattle.pl_calling.proofs.Keeping.{still}
use Rattle.pl_calling.proofs.Overs.{value_told}
use Rattle.pl_calling.proofs.trial.try_over.Goals as goal
use Rattle.pl_calling.specs.Standing.{calls_kept, fresh}
use Rattle.pl_engine.specs.Engines.{world}
use Rattle.pl_engine.specs.pl_journal.Rows.{tables_of}
use Rattle.pl_natural.specs.pl_query.Query.{rows}
use Rattle.pl_undo.specs.Database.{Database}
use Rattle.pl_engine.specs.pl_world.World.{World}

pub returns : goal.returns
returns g c = (
  c.value_over-answer.new.caller,
  still g.B.Start.begin (world c.args.engine.now) c.trial.inside.at c.trial.inside.room c.value_over-answer.new.caller c.requires.begins c.trial.view_is,
  value_told c.args.at c.args.room (world c.args.engine.now) c.args.row.now (rows calls_kept c.args.e.now.queries (λ name. tables_of c.journal.result.now.now.tables name)) (fresh c.args.at c.args.room g.B.Start.begin)
      (ap (λ (w : World). fresh c.args.at c.args.room w) c.requires.begins) c.args.e.now c.value_over-answer.result c.value_over-answer.new.caller
      (ap (λ (db : Database). rows calls_kept c.args.e.now.queries (tables_of db.tables)) c.journal.ensures.now) c.value_over-answer.ensures,
)
