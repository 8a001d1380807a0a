use Rattle.std.proofs.Common.{refl, Bool, Option}
use Rattle.std.specs.Prelude.{option_map}
use Rattle.pl_change.specs.Changes.{values_if}
use Rattle.pl_change.specs.Running.{setting_of}
use Rattle.pl_product.specs.Product.{passes}
use Rattle.pl_value.specs.Frames.{Row, rows_of}
use Rattle.pl_value.specs.Meaning.{value}
use Rattle.pl_value.specs.Steps.{goes, stops}
use Rattle.pl_change.proofs.evaluation.read_if.Goals as goal

pub returns-in-Ok : goal.returns-in-Ok
returns-in-Ok g c objects command =
    goes {A = Bool} {B = Option Row} _ (passes (option_map (value g.C.Caller.calls (g.S.Subqueries.sub c.args.sub.now)) c.args.condition.now) (rows_of c.args.frame.now) c.args.caller.now)
    (λ b w. values_if (setting_of g.C.Caller.calls (g.S.Subqueries.sub c.args.sub.now) objects command) b c.args.parts.now (rows_of c.args.frame.now) w) c.in-Ok.passed c.passes_where.new.caller c.values_if.result c.values_if.new.caller refl
    c.in-Ok.ensures (c.values_if.ensures objects command)

pub returns-in-Err : goal.returns-in-Err
returns-in-Err g c objects command =
    stops {A = Bool} {B = Option Row} _ (passes (option_map (value g.C.Caller.calls (g.S.Subqueries.sub c.args.sub.now)) c.args.condition.now) (rows_of c.args.frame.now) c.args.caller.now)
    (λ b w. values_if (setting_of g.C.Caller.calls (g.S.Subqueries.sub c.args.sub.now) objects command) b c.args.parts.now (rows_of c.args.frame.now) w) c.in-Err.why c.passes_where.new.caller refl c.in-Err.ensures
