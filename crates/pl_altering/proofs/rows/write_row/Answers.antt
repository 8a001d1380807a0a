use Rattle.std.proofs.Common.{◌∙◌}
use Rattle.pl_altering.proofs.Over.{over}
use Rattle.pl_altering.proofs.Wrote.{refused_over, wrote_over}
use Rattle.pl_altering.proofs.rows.write_row.Goals as goal

pub returns-in-Ok : goal.returns-in-Ok
returns-in-Ok g c =
    wrote_over c.args.command.now (over c.args.command.now c.args.inside.now) c.args.id c.as_slice-in-Ok.result.now c.args.row c.args.rows c.show.result c.args.calling.now c.put.new.calling c.show.new.calling
    (λ e more is. c.as_slice-in-Ok.ensures ∙ c.in_ok-copied.ensures e more (c.as_slice.ensures ∙ is)) c.in-Ok.ensures c.show.ensures

pub returns-in-Err : goal.returns-in-Err
returns-in-Err g c = refused_over c.args.command.now (over c.args.command.now c.args.inside.now) c.args.id c.args.row c.args.rows c.in-Err.why c.args.calling.now c.put.new.calling c.in-Err.ensures
