use Rattle.std.proofs.Common.{Bool, List, ap, if◌then◌else◌}
use Rattle.pl_altering.proofs.Over.{got_over, over, same_over}
use Rattle.pl_altering.proofs.rows.take_passed.Goals as goal
use Rattle.pl_altering.specs.Entries.{entry_of}
use Rattle.pl_value.specs.Frames.{Row}
use Rattle.pl_value.specs.Reading.{got}
use Rattle.pl_world.specs.Calls.{Within}
use Rattle.pl_world.specs.Changes.{if_still, takes}

pub returns-then-passed : goal.returns-then-passed
returns-then-passed g c =
    let s = over c.args.command.now c.args.inside.now in
    let entry = entry_of c.args.entry.now in
    same_over c.args.command.now {A = List Row} (λ (x : Within). if c.args.passed then if_still s entry (takes s entry c.args.rows) x else got c.args.rows x) (λ (x : Within). if_still s entry (takes s entry c.args.rows) x) c.take_row.result c.args.calling.now c.take_row.new.calling
    (λ x. ap (λ (b : Bool). if b then if_still s entry (takes s entry c.args.rows) x else got c.args.rows x) c.if-passed.true) c.take_row.ensures

pub returns-else-passed : goal.returns-else-passed
returns-else-passed g c =
    let s = over c.args.command.now c.args.inside.now in
    let entry = entry_of c.args.entry.now in
    got_over c.args.command.now {A = List Row} (λ (x : Within). if c.args.passed then if_still s entry (takes s entry c.args.rows) x else got c.args.rows x) c.args.rows c.args.calling.now
    (λ x. ap (λ (b : Bool). if b then if_still s entry (takes s entry c.args.rows) x else got c.args.rows x) c.if-passed.false)
