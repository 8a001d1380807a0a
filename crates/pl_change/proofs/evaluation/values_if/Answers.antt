use Rattle.std.proofs.Common.{◌∙◌, ap, [], map, Bool, Option, Some}
use Rattle.pl_change.specs.Changes.{values_if}
use Rattle.pl_change.specs.Running.{setting_of}
use Rattle.pl_value.specs.Frames.{Row, rows_of}
use Rattle.pl_value.specs.Meaning.{value, values}
use Rattle.pl_value.specs.Reading.{Reading, got, then_read}
use Rattle.pl_value.specs.Steps.{stops}
use Rattle.pl_change.proofs.evaluation.values_if.Goals as goal

pub returns-in-Ok : goal.returns-in-Ok
returns-in-Ok g c objects command =
    ap (λ (b : Bool). values_if (setting_of g.C.Caller.calls (g.S.Subqueries.sub c.args.sub.now) objects command) b c.args.parts.now (rows_of c.args.frame.now) c.args.caller.now) c.if-passed.true
    ∙ ap (λ (q : Reading _ Row). then_read {B = Option Row} q (λ vs w. got (Some vs) w)) c.in-Ok.ensures

pub returns-in-Err : goal.returns-in-Err
returns-in-Err g c objects command =
    stops {A = Row} {B = Option Row} _ (values (map (value g.C.Caller.calls (g.S.Subqueries.sub c.args.sub.now)) c.args.parts.now) [] (rows_of c.args.frame.now) c.args.caller.now)
    (λ vs w. got (Some vs) w) c.in-Err.why c.values.new.caller
    (ap (λ (b : Bool). values_if (setting_of g.C.Caller.calls (g.S.Subqueries.sub c.args.sub.now) objects command) b c.args.parts.now (rows_of c.args.frame.now) c.args.caller.now) c.if-passed.true)
    c.in-Err.ensures

pub returns-else-passed : goal.returns-else-passed
returns-else-passed g c objects command =
    ap (λ (b : Bool). values_if (setting_of g.C.Caller.calls (g.S.Subqueries.sub c.args.sub.now) objects command) b c.args.parts.now (rows_of c.args.frame.now) c.args.caller.now) c.if-passed.false
