use Rattle.pl_command.proofs.of_pl_engine.Joins.{lawful}
use Rattle.pl_command.specs.pl_engine.Texts.{do_bodies}
use Rattle.pl_transactions.proofs.Equations.{as_back, as_begin, as_commit, as_plain, as_release, as_roll_back, as_save, as_start}
use Rattle.pl_transactions.proofs.commands.command.Goals as goal

pub returns-in-Begin : goal.returns-in-Begin
returns-in-Begin g c =
    as_begin g.P.Port do_bodies c.args.runner.now.room c.args.command c.args.transaction.now c.begin.new.transaction c.args.engine.now c.begin.new.engine c.args.port.now c.begin.new.port c.begin.result c.in-Begin.is c.begin.ensures

pub returns-in-StartTransaction : goal.returns-in-StartTransaction
returns-in-StartTransaction g c =
    as_start g.P.Port do_bodies c.args.runner.now.room c.args.command c.args.transaction.now c.begin-in-StartTransaction.new.transaction c.args.engine.now c.begin-in-StartTransaction.new.engine c.args.port.now c.begin-in-StartTransaction.new.port c.begin-in-StartTransaction.result c.in-StartTransaction.is c.begin-in-StartTransaction.ensures

pub returns-in-Commit : goal.returns-in-Commit
returns-in-Commit g c =
    as_commit g.P.Port do_bodies c.args.runner.now.room c.args.command c.args.transaction.now c.end.new.transaction c.args.engine.now c.end.new.engine c.args.port.now c.end.new.port c.end.result c.in-Commit.is c.end.ensures

pub returns-in-Rollback : goal.returns-in-Rollback
returns-in-Rollback g c =
    as_roll_back g.P.Port do_bodies c.args.runner.now.room c.args.command c.args.transaction.now c.roll_back.new.transaction c.args.engine.now c.roll_back.new.engine c.args.port.now c.roll_back.new.port c.roll_back.result c.in-Rollback.is c.roll_back.ensures

pub returns-in-Savepoint : goal.returns-in-Savepoint
returns-in-Savepoint g c =
    as_save (lawful g.P.Port g.met.P.Port.none g.met.P.Port.joins g.met.P.Port.rises) do_bodies c.args.runner.now.room c.args.command c.in-Savepoint.name c.args.transaction.now c.save.new.transaction c.args.engine.now c.save.new.engine c.args.port.now c.save.result c.requires.fits c.in-Savepoint.is c.save.ensures

pub returns-in-Release : goal.returns-in-Release
returns-in-Release g c =
    as_release (lawful g.P.Port g.met.P.Port.none g.met.P.Port.joins g.met.P.Port.rises) do_bodies c.args.runner.now.room c.args.command c.in-Release.name c.args.transaction.now c.release.new.transaction c.args.engine.now c.release.new.engine c.args.port.now c.release.result c.requires.fits c.in-Release.is c.release.ensures

pub returns-in-RollbackTo : goal.returns-in-RollbackTo
returns-in-RollbackTo g c =
    as_back (lawful g.P.Port g.met.P.Port.none g.met.P.Port.joins g.met.P.Port.rises) do_bodies c.args.runner.now.room c.args.command c.in-RollbackTo.name c.args.transaction.now c.go_back.new.transaction c.args.engine.now c.go_back.new.engine c.args.port.now c.go_back.result c.requires.fits c.in-RollbackTo.is c.go_back.ensures

pub returns-in_default : goal.returns-in_default
returns-in_default g c =
    let no = c.in_default in
    as_plain g.P.Port do_bodies c.args.runner.now.room c.args.command c.args.transaction.now c.plain.new.transaction c.args.engine.now c.plain.new.engine c.args.port.now c.plain.new.port c.plain.result
    no.not-Begin no.not-StartTransaction no.not-Commit no.not-Rollback no.not-Savepoint no.not-Release no.not-RollbackTo c.plain.ensures
