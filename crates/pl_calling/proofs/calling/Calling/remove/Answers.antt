use Rattle.std.proofs.Common.{◌≡◌, subst, sym}
use Rattle.std.specs.Prelude.{IsSome, OnErr, OnOk}
use Rattle.pl_calling.proofs.Written.{not_removed_in, removed_in, sound_removed}
use Rattle.pl_calling.proofs.calling.Calling.remove.Goals as goal
use Rattle.pl_calling.specs.Standing.{Standing, standing}
use Rattle.pl_calling.specs.Writing.{without_row_in}
use Rattle.pl_engine.specs.Engines.{kept, world}
use Rattle.pl_tables.specs.Named.{row_named}

pub remove-requires : goal.remove-requires
remove-requires g c = record { there = subst (λ (s : Standing). IsSome (row_named c.args.table c.args.id s.world.database.tables)) (sym c.self.view_is) c.requires.there }

pub invariant_of-self : goal.invariant_of-self
invariant_of-self g c =
    sound_removed g.B.Start.begin (world c.self.inside.engine) (world c.remove.new.self) g.B.Start.stays (kept c.self.inside.engine) (kept c.remove.new.self) (g.R.BodyRunner.runs c.self.inside.bodies.now c.self.inside.room) c.self.inside.is_lost c.self.inside.room c.self.invariant c.remove.ensures.keeps
    c.remove.result c.args.table c.args.id c.remove.ensures.is c.remove.ensures.err

pub returns-clause-is : goal.returns-clause-is
returns-clause-is g c =
    let behind = standing g.B.Start.begin (world c.remove.new.self) c.self.inside.held c.self.inside.failure c.self.inside.at c.self.inside.room in
    subst (λ (s : Standing). OnOk c.remove.result (behind ≡ without_row_in c.args.table c.args.id s)) c.self.view_is
    (removed_in g.B.Start.begin (world c.self.inside.engine) (world c.remove.new.self) c.self.inside.held c.self.inside.failure c.self.inside.at c.self.inside.room c.remove.result c.args.table c.args.id c.remove.ensures.is c.remove.ensures.err)

pub returns-clause-err : goal.returns-clause-err
returns-clause-err g c =
    let behind = standing g.B.Start.begin (world c.remove.new.self) c.self.inside.held c.self.inside.failure c.self.inside.at c.self.inside.room in
    subst (λ (s : Standing). OnErr c.remove.result (behind ≡ s)) c.self.view_is
    (not_removed_in g.B.Start.begin (world c.self.inside.engine) (world c.remove.new.self) c.self.inside.held c.self.inside.failure c.self.inside.at c.self.inside.room c.remove.result c.remove.ensures.err)
