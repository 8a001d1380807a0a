use Rattle.pl_engine.proofs.Redefining.{carried, carried_kept}
use Rattle.pl_engine.proofs.engine.Engine.carry_out.Goals as goal
use Rattle.pl_engine.specs.Engines.{world}
use Rattle.pl_world.specs.pl_journal.Definitions.{redefined}

pub returns-clause-is : goal.returns-clause-is
returns-clause-is c =
    carried c.args.self.now c.define.new.self c.define.ensures.last c.define.ensures.marks (redefined c.args.definition.now c.args.text (world c.args.self.now).database) c.define.result c.define.ensures.redefines c.define.ensures.err

pub returns-clause-keeps : goal.returns-clause-keeps
returns-clause-keeps c = carried_kept c.args.self.now c.define.new.self c.define.ensures.last c.define.ensures.marks
