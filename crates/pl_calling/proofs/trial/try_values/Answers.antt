use Rattle.std.proofs.Common.{ap}
use Rattle.pl_calling.proofs.Keeping.{still}
use Rattle.pl_calling.proofs.Overs.{values_told}
use Rattle.pl_calling.proofs.trial.try_values.Goals as goal
use Rattle.pl_calling.specs.Standing.{fresh}
use Rattle.pl_engine.specs.Engines.{world}
use Rattle.pl_engine.specs.pl_world.World.{World}

pub returns : goal.returns
returns g c = (
  c.values_over-answer.new.caller,
  still g.B.Start.begin (world c.args.engine.now) c.trial.inside.at c.trial.inside.room c.values_over-answer.new.caller c.requires.begins c.trial.view_is,
  values_told c.args.at c.args.room (world c.args.engine.now) c.values.result.now (fresh c.args.at c.args.room g.B.Start.begin)
      (ap (λ (w : World). fresh c.args.at c.args.room w) c.requires.begins) c.args.list.now c.values_over-answer.result c.values_over-answer.new.caller c.values.ensures c.values_over-answer.ensures,
)
