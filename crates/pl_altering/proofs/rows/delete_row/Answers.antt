use Rattle.std.proofs.Common.{Bool, Err, List, Ok, if◌then◌else◌, subst}
use Rattle.std.specs.Prelude.{option_map}
use Rattle.pl_altering.proofs.Over.{goes_over, over, stops_over}
use Rattle.pl_altering.proofs.rows.delete_row.Goals as goal
use Rattle.pl_altering.specs.Entries.{entry_of}
use Rattle.pl_altering.specs.Settings.{ReadsOver}
use Rattle.pl_product.specs.Product.{passes}
use Rattle.pl_value.specs.Frames.{Row}
use Rattle.pl_value.specs.Meaning.{value}
use Rattle.pl_value.specs.Reading.{got}
use Rattle.pl_world.specs.Calls.{Within}
use Rattle.pl_world.specs.Changes.{behind_row, if_still, takes}

pub returns-in-Ok : goal.returns-in-Ok
returns-in-Ok g c =
    let s = over c.args.command.now c.args.inside.now in
    let entry = entry_of c.args.entry.now in
    goes_over c.args.command.now {A = Bool} {B = List Row} (λ (x : Within). passes (option_map (value s.calls s.inner) c.args.condition.now) (behind_row s c.args.entry.now.row) x) (λ b x. if b then if_still s entry (takes s entry c.args.rows) x else got c.args.rows x)
    c.in-Ok.passed c.take_passed.result c.args.calling.now c.read_where.new.calling c.take_passed.new.calling (subst (λ (row : Row). ReadsOver {A = Bool} c.args.command.now (λ (x : Within). passes (option_map (value s.calls s.inner) c.args.condition.now) (behind_row s row) x) (Ok c.in-Ok.passed) c.args.calling.now c.read_where.new.calling) c.as_slice.ensures c.in-Ok.ensures) c.take_passed.ensures

pub returns-in-Err : goal.returns-in-Err
returns-in-Err g c =
    let s = over c.args.command.now c.args.inside.now in
    let entry = entry_of c.args.entry.now in
    stops_over c.args.command.now {A = Bool} {B = List Row} (λ (x : Within). passes (option_map (value s.calls s.inner) c.args.condition.now) (behind_row s c.args.entry.now.row) x) (λ b x. if b then if_still s entry (takes s entry c.args.rows) x else got c.args.rows x)
    c.in-Err.why c.args.calling.now c.read_where.new.calling (subst (λ (row : Row). ReadsOver {A = Bool} c.args.command.now (λ (x : Within). passes (option_map (value s.calls s.inner) c.args.condition.now) (behind_row s row) x) (Err c.in-Err.why) c.args.calling.now c.read_where.new.calling) c.as_slice.ensures c.in-Err.ensures)
