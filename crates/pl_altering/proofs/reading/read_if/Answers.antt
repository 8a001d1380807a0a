use Rattle.std.proofs.Common.{Bool, Option}
use Rattle.std.specs.Prelude.{option_map}
use Rattle.pl_altering.proofs.Over.{goes_over, over, stops_over}
use Rattle.pl_altering.proofs.reading.read_if.Goals as goal
use Rattle.pl_product.specs.Product.{passes}
use Rattle.pl_value.specs.Frames.{Row, rows_of}
use Rattle.pl_value.specs.Meaning.{value}
use Rattle.pl_world.specs.Calls.{Within}
use Rattle.pl_world.specs.Changes.{values_if}

pub returns-in-Ok : goal.returns-in-Ok
returns-in-Ok g c =
    let s = over c.args.command.now c.args.inside.now in
    goes_over c.args.command.now {A = Bool} {B = Option Row} (λ (x : Within). passes (option_map (value s.calls s.inner) c.args.condition.now) (rows_of c.args.frame.now) x) (λ b x. values_if s b c.args.parts.now (rows_of c.args.frame.now) x)
    c.in-Ok.passed c.read_passed.result c.args.calling.now c.read_where.new.calling c.read_passed.new.calling c.in-Ok.ensures c.read_passed.ensures

pub returns-in-Err : goal.returns-in-Err
returns-in-Err g c =
    let s = over c.args.command.now c.args.inside.now in
    stops_over c.args.command.now {A = Bool} {B = Option Row} (λ (x : Within). passes (option_map (value s.calls s.inner) c.args.condition.now) (rows_of c.args.frame.now) x) (λ b x. values_if s b c.args.parts.now (rows_of c.args.frame.now) x)
    c.in-Err.why c.args.calling.now c.read_where.new.calling c.in-Err.ensures
