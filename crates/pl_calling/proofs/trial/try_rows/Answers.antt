use Rattle.std.proofs.Common.{ap}
use Rattle.pl_calling.proofs.Keeping.{still}
use Rattle.pl_calling.proofs.Overs.{rows_told}
use Rattle.pl_calling.proofs.trial.try_rows.Goals as goal
use Rattle.pl_calling.specs.Standing.{calls_kept, fresh}
use Rattle.pl_engine.specs.Engines.{world}
use Rattle.pl_engine.specs.pl_journal.Rows.{tables_of}
use Rattle.pl_natural.specs.pl_query.Query.{rows}
use Rattle.pl_undo.specs.Database.{Database}
use Rattle.pl_engine.specs.pl_world.World.{World}

pub returns : goal.returns
returns g c = (
  c.rows_over-answer.new.caller,
  still g.B.Start.begin (world c.args.engine.now) c.trial.inside.at c.trial.inside.room c.rows_over-answer.new.caller c.requires.begins c.trial.view_is,
  rows_told c.args.at c.args.room (world c.args.engine.now) c.values.result.now (rows calls_kept c.args.queries.now (λ name. tables_of c.journal.result.now.now.tables name)) (fresh c.args.at c.args.room g.B.Start.begin)
      (ap (λ (w : World). fresh c.args.at c.args.room w) c.requires.begins) c.args.queries.now c.rows_over-answer.result c.rows_over-answer.new.caller c.values.ensures
      (ap (λ (db : Database). rows calls_kept c.args.queries.now (tables_of db.tables)) c.journal.ensures.now) c.rows_over-answer.ensures,
)
