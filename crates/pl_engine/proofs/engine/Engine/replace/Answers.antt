use Rattle.std.proofs.Common.{Some}
use Rattle.pl_engine.proofs.Writes.{stays_kept, wrote}
use Rattle.pl_engine.proofs.engine.Engine.replace.Goals as goal
use Rattle.pl_engine.specs.Engines.{world}
use Rattle.pl_world.specs.pl_journal.Writing.{written}

pub returns-clause-is : goal.returns-clause-is
returns-clause-is c =
    let db = (world c.args.self.now).database in
    wrote c.args.self.now c.replace.new.self c.args.table c.replace.ensures.only (written db.objects c.args.table (Some c.args.id) c.args.row db.tables) c.replace.result c.replace.ensures.leads c.replace.ensures.err

pub returns-clause-keeps : goal.returns-clause-keeps
returns-clause-keeps c = stays_kept c.args.self.now c.replace.new.self c.args.table c.replace.ensures.only
