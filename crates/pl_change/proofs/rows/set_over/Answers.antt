use Rattle.std.proofs.Common.{refl, Option}
use Rattle.std.specs.Prelude.{option_map}
use Rattle.pl_change.specs.Changes.{assigned, read_if}
use Rattle.pl_change.specs.Running.{setting_of}
use Rattle.pl_value.specs.Frames.{Row, rows_of}
use Rattle.pl_value.specs.Reading.{got}
use Rattle.pl_value.specs.Steps.{goes, stops}
use Rattle.pl_change.proofs.rows.set_over.Goals as goal

pub returns-in-Ok : goal.returns-in-Ok
returns-in-Ok g c objects command =
    goes {A = Option Row} {B = Option Row} _ (read_if (setting_of g.C.Caller.calls (g.S.Subqueries.sub c.args.sub.now) objects command) c.args.condition.now c.args.values.now (rows_of c.args.frame.now) c.args.caller.now)
    (λ vs w. got (option_map (λ (vs : Row). assigned c.args.columns.now vs c.args.row.now) vs) w) c.in-Ok.values c.read_if.new.caller c.assign_if.result c.read_if.new.caller refl (c.in-Ok.ensures objects command) (c.assign_if.ensures c.read_if.new.caller)

pub returns-in-Err : goal.returns-in-Err
returns-in-Err g c objects command =
    stops {A = Option Row} {B = Option Row} _ (read_if (setting_of g.C.Caller.calls (g.S.Subqueries.sub c.args.sub.now) objects command) c.args.condition.now c.args.values.now (rows_of c.args.frame.now) c.args.caller.now)
    (λ vs w. got (option_map (λ (vs : Row). assigned c.args.columns.now vs c.args.row.now) vs) w) c.in-Err.why c.read_if.new.caller refl (c.in-Err.ensures objects command)
