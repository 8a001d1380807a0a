use Rattle.std.proofs.Common.{◌++◌, ◌∷◌, Err, List, None, [], subst, sym}
use Rattle.pl_altering.proofs.AsFound.{taken}
use Rattle.pl_altering.proofs.Wrote.{refused_over}
use Rattle.pl_altering.proofs.taking.add_one.Goals as goal
use Rattle.pl_altering.specs.Settings.{ReadsOver}
use Rattle.pl_querying.specs.pl_calling.Writing.{WroteIn}
use Rattle.pl_targets.specs.declared.change.RChange.{RChange}
use Rattle.pl_value.specs.Frames.{Row}
use Rattle.pl_value.specs.Reading.{got}
use Rattle.pl_world.specs.Calls.{Within}
use Rattle.pl_world.specs.pl_journal.Writing.{written}

pub returns-in-Ok : goal.returns-in-Ok
returns-in-Ok g c = λ s same none.
    taken s none c.args.command.now c.args.row c.args.rows c.add_shown.result c.args.calling.now c.insert.new.self (rw same c.in-Ok.ensures)
    (subst (λ (r : Row). ReadsOver {A = List Row} c.args.command.now (λ (x : Within). got (c.args.rows ++ r ∷ []) x) c.add_shown.result c.insert.new.self c.insert.new.self) c.new.ensures (c.add_shown.ensures c.args.command.now c.insert.new.self))

pub returns-in-Err : goal.returns-in-Err
returns-in-Err g c = λ s same none.
    refused_over c.args.command.now s None c.args.row c.args.rows c.in-Err.why c.args.calling.now c.insert.new.self
    (subst (λ (change : RChange). WroteIn (written c.args.calling.now.world.database.objects change.table None c.args.row c.args.calling.now.world.database.tables) (Err c.in-Err.why) c.args.calling.now c.insert.new.self) (sym same) c.in-Err.ensures)
