use Rattle.std.proofs.Common.{List, Option, Some, ap, subst, sym}
use Rattle.pl_altering.proofs.Over.{got_over, over}
use Rattle.pl_altering.proofs.rows.set_row.Goals as goal
use Rattle.pl_altering.specs.Entries.{entry_of}
use Rattle.pl_altering.specs.Settings.{ReadsOver}
use Rattle.pl_value.specs.Frames.{Row}
use Rattle.pl_world.specs.Calls.{Within}
use Rattle.pl_world.specs.Changes.{sets}

pub returns-in-None : goal.returns-in-None
returns-in-None g c =
    let s = over c.args.command.now c.args.inside.now in
    got_over c.args.command.now {A = List Row} (λ (x : Within). sets s c.args.columns.now (entry_of c.args.entry) c.args.values c.args.rows x) c.args.rows c.args.calling.now
    (λ x. ap (λ (o : Option Row). sets s c.args.columns.now (entry_of c.args.entry) o c.args.rows x) c.in-None.is)

pub returns-in-Some : goal.returns-in-Some
returns-in-Some g c =
    let s = over c.args.command.now c.args.inside.now in
    subst (λ (o : Option Row). ReadsOver {A = List Row} c.args.command.now (λ (x : Within). sets s c.args.columns.now (entry_of c.args.entry) o c.args.rows x) c.set_values.result c.args.calling.now c.set_values.new.calling) (sym c.in-Some.is)
    (subst (λ (vs : Row). ReadsOver {A = List Row} c.args.command.now (λ (x : Within). sets s c.args.columns.now (entry_of c.args.entry) (Some vs) c.args.rows x) c.set_values.result c.args.calling.now c.set_values.new.calling) c.as_slice.ensures c.set_values.ensures)
