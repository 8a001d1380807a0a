use Rattle.std.proofs.Common.{◌≡◌, ◌∙◌, ap, List, Some, false, subst, sym, true}
use Rattle.pl_altering.proofs.Over.{over}
use Rattle.pl_altering.proofs.Wrote.{StillThere, gone_over, is_there, still_over}
use Rattle.pl_altering.proofs.rows.set_values.Goals as goal
use Rattle.pl_altering.specs.Entries.{entry_of}
use Rattle.pl_altering.specs.Settings.{ReadsOver}
use Rattle.pl_world.specs.pl_change.Changes.{assigned}
use Rattle.pl_tables.specs.Named.{row_named}
use Rattle.pl_undo.specs.Database.{Database}
use Rattle.pl_value.specs.Frames.{Row}
use Rattle.pl_world.specs.Calls.{Within}
use Rattle.pl_world.specs.Changes.{is_still, writes}

pub write_row-requires : goal.write_row-requires
write_row-requires g c =
    record {
      there = is_there c.args.command.now.change.now.table c.args.entry.id c.args.entry.row c.args.calling.now.world.database.tables
          (ap (λ (db : Database). is_still (row_named c.args.command.now.change.now.table c.args.entry.id db.tables) c.args.entry.row) (sym c.journal.ensures) ∙ (sym c.is_still.ensures ∙ c.if-is_still.true));
    }

pub returns-then-is_still : goal.returns-then-is_still
returns-then-is_still g c =
    let s = over c.args.command.now c.args.inside.now in
    let entry = entry_of c.args.entry in
    let still : StillThere c.args.command.now s entry c.args.calling.now ≡ true = ap (λ (db : Database). is_still (row_named c.args.command.now.change.now.table c.args.entry.id db.tables) c.args.entry.row) (sym c.journal.ensures) ∙ (sym c.is_still.ensures ∙ c.if-is_still.true) in
    still_over c.args.command.now s entry (λ (x : Within). writes s (Some c.args.entry.id) (assigned c.args.columns.now c.args.values.now c.args.entry.row) c.args.rows x) c.write_row.result c.args.calling.now c.write_row.new.calling still
    (subst (λ (row : Row). ReadsOver {A = List Row} c.args.command.now (λ (x : Within). writes s (Some c.args.entry.id) row c.args.rows x) c.write_row.result c.args.calling.now c.write_row.new.calling)
    c.in_ok-made.ensures c.write_row.ensures)

pub returns : goal.returns
returns g c =
    let s = over c.args.command.now c.args.inside.now in
    let entry = entry_of c.args.entry in
    let gone : StillThere c.args.command.now s entry c.args.calling.now ≡ false = ap (λ (db : Database). is_still (row_named c.args.command.now.change.now.table c.args.entry.id db.tables) c.args.entry.row) (sym c.journal.ensures) ∙ (sym c.is_still.ensures ∙ c.if-is_still.false) in
    gone_over c.args.command.now s entry (λ (x : Within). writes s (Some c.args.entry.id) (assigned c.args.columns.now c.args.values.now c.args.entry.row) c.args.rows x) c.args.calling.now gone
