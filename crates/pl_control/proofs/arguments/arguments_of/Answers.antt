use Rattle.std.proofs.Common.{Err, Ok}
use Rattle.pl_control.proofs.Named.{all_read, begun_here, not_read}
use Rattle.pl_control.proofs.arguments.arguments_of.Goals as goal
use Rattle.pl_engine.specs.Engines.{world}
use Rattle.pl_names.specs.Names.{around}

pub returns-in_err-all : goal.returns-in_err-all
returns-in_err-all c =
    let w = world c.args.engine.now in
    not_read c.args.list.now w.database.objects w.frame.static c.from_residual.result c.in_err-all.field-0.0 c.arguments_on.new.made c.from_residual.ensures.1
    (begun_here c.args.list.now w.database.objects w.frame.static (around c.names_in-names.result) c.new-made.result (Err c.in_err-all.field-0.0) c.arguments_on.new.made c.names_in-names.ensures c.new-made.ensures c.in_err-all.ensures)

pub returns : goal.returns
returns c =
    let w = world c.args.engine.now in
    all_read c.args.list.now w.database.objects w.frame.static c.in_ok-all.all c.arguments_on.new.made c.as_slice.result.now c.without_queries.result c.as_slice.ensures
    (begun_here c.args.list.now w.database.objects w.frame.static (around c.names_in-names.result) c.new-made.result (Ok c.in_ok-all.all) c.arguments_on.new.made c.names_in-names.ensures c.new-made.ensures c.in_ok-all.ensures) c.without_queries.ensures
