use Rattle.std.proofs.Common.{None, subst}
use Rattle.pl_calling.proofs.Written.{sound_written, wrote_in}
use Rattle.pl_calling.proofs.calling.Calling.insert.Goals as goal
use Rattle.pl_calling.specs.Standing.{Standing, standing}
use Rattle.pl_calling.specs.Writing.{WroteIn}
use Rattle.pl_engine.specs.Engines.{kept, world}
use Rattle.pl_engine.specs.pl_journal.Writing.{written}

pub invariant_of-self : goal.invariant_of-self
invariant_of-self g c =
    let old = world c.self.inside.engine in
    sound_written g.B.Start.begin old (world c.insert.new.self) g.B.Start.stays (kept c.self.inside.engine) (kept c.insert.new.self) (g.R.BodyRunner.runs c.self.inside.bodies.now c.self.inside.room) c.self.inside.is_lost c.self.inside.room c.self.invariant c.insert.ensures.keeps
    (written old.database.objects c.args.table None c.args.row old.database.tables) c.insert.result c.insert.ensures.is

pub returns : goal.returns
returns g c =
    let old = world c.self.inside.engine in
    let behind = standing g.B.Start.begin (world c.insert.new.self) c.self.inside.held c.self.inside.failure c.self.inside.at c.self.inside.room in
    subst (λ (s : Standing). WroteIn (written s.world.database.objects c.args.table None c.args.row s.world.database.tables) c.insert.result s behind) c.self.view_is
    (wrote_in g.B.Start.begin old (world c.insert.new.self) c.self.inside.held c.self.inside.failure c.self.inside.at c.self.inside.room (written old.database.objects c.args.table None c.args.row old.database.tables) c.insert.result c.insert.ensures.is)
