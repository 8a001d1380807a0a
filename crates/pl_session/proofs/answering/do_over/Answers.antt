use Rattle.std.proofs.Common.{refl}
use Rattle.pl_port.specs.pl_engine.Texts.{do_bodies}
use Rattle.pl_port.specs.declared.store.StorePort.{StorePort}
use Rattle.pl_session.proofs.Told.{command_along, command_cause, command_lines, command_whole}
use Rattle.pl_session.proofs.Went.{own}
use Rattle.pl_session.proofs.answering.do_over.Goals as goal
use Rattle.pl_transactions.specs.Before.{told}
use Rattle.pl_transactions.specs.State.{session_at}
use Rattle.pl_exec.specs.pl_world.Sessions.{does_command}

pub returns-clause-done : goal.returns-clause-done
returns-clause-done g c =
    let s = session_at c.args.transaction.now c.args.engine.now in
    command_whole _ (λ (p : StorePort g.row.H.Denot). g.H.Disk.view p.host.now) (λ (p : StorePort g.row.H.Denot). p.keeper.now) (record { took = λ db es p q t. t.1.1; tried = λ db e p q t. t.1.1; disk = λ p. refl; say = λ p. refl })
    (does_command do_bodies c.args.steps c.args.tree s) (told do_bodies c.args.steps c.args.tree s) (own do_bodies c.args.steps c.args.tree s) c.args.engine.now c.args.port.now c.command.new.port c.command.new.transaction c.command.new.engine c.command.result c.command.ensures

pub returns-clause-moments : goal.returns-clause-moments
returns-clause-moments g c =
    let s = session_at c.args.transaction.now c.args.engine.now in
    command_along _ (λ (p : StorePort g.row.H.Denot). g.H.Disk.view p.host.now) (λ (p : StorePort g.row.H.Denot). p.keeper.now) (record { took = λ db es p q t. t.1.1; tried = λ db e p q t. t.1.1; disk = λ p. refl; say = λ p. refl })
    (does_command do_bodies c.args.steps c.args.tree s) (told do_bodies c.args.steps c.args.tree s) (own do_bodies c.args.steps c.args.tree s) c.args.engine.now c.args.port.now c.command.new.port c.command.new.transaction c.command.new.engine c.command.result c.command.ensures

pub returns-clause-cause : goal.returns-clause-cause
returns-clause-cause g c =
    let s = session_at c.args.transaction.now c.args.engine.now in
    command_cause _ (λ (p : StorePort g.row.H.Denot). g.H.Disk.view p.host.now) (λ (p : StorePort g.row.H.Denot). p.keeper.now) (record { took = λ db es p q t. t.1.1; tried = λ db e p q t. t.1.1; disk = λ p. refl; say = λ p. refl })
    (does_command do_bodies c.args.steps c.args.tree s) (told do_bodies c.args.steps c.args.tree s) (own do_bodies c.args.steps c.args.tree s) c.args.engine.now c.args.port.now c.command.new.port c.command.new.transaction c.command.new.engine c.command.result c.requires.fits c.command.ensures

pub returns-clause-lines : goal.returns-clause-lines
returns-clause-lines g c =
    let s = session_at c.args.transaction.now c.args.engine.now in
    command_lines _ (λ (p : StorePort g.row.H.Denot). g.H.Disk.view p.host.now) (λ (p : StorePort g.row.H.Denot). p.keeper.now) (record { took = λ db es p q t. t.1.1; tried = λ db e p q t. t.1.1; disk = λ p. refl; say = λ p. refl })
    (does_command do_bodies c.args.steps c.args.tree s) (told do_bodies c.args.steps c.args.tree s) (own do_bodies c.args.steps c.args.tree s) c.args.engine.now c.args.port.now c.command.new.port c.command.new.transaction c.command.new.engine c.command.result c.command.ensures
