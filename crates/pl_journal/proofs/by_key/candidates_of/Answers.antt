use Rattle.std.proofs.Common.{◌≡◌, ◌∙◌, sym, ap, List, Some}
use Rattle.pl_catalog.specs.Objects.{table_named, tables_in}
use Rattle.pl_catalog.specs.declared.object.Object.{Object}
use Rattle.pl_journal.proofs.Noted.{found_in}
use Rattle.pl_tables.specs.Named.{Named, content_named}
use Rattle.pl_value.specs.Frames.{rows_of}
use Rattle.pl_journal.proofs.by_key.candidates_of.Goals as goal

pub left_in-requires : goal.left_in-requires
left_in-requires c =
    let d = c.args.journal.now.now in
    (c.requires.tables c.args.name c.in-Some.table.now c.in-Some-table.rows.now.current
    (sym (c.in-Some.ensures ∙ ap (λ (os : List Object). table_named c.args.name (tables_in os)) c.catalog.ensures))
    (sym (c.in-Some-table.ensures ∙ ap (λ (ts : List Named). content_named c.args.name ts) c.tables.ensures))).keys

pub returns : goal.returns
returns c =
    let held : content_named c.args.name c.args.journal.now.now.tables ≡ Some c.in-Some-table.rows.now.current =
    sym (c.in-Some-table.ensures ∙ ap (λ (ts : List Named). content_named c.args.name ts) c.tables.ensures) in
    found_in c.left_in.result c.args.name c.args.condition.now (rows_of c.args.around.now) c.args.journal.now.now.tables c.in-Some.table.now c.in-Some-table.rows.now.current held
    (c.requires.tables c.args.name c.in-Some.table.now c.in-Some-table.rows.now.current
    (sym (c.in-Some.ensures ∙ ap (λ (os : List Object). table_named c.args.name (tables_in os)) c.catalog.ensures)) held)
    c.left_in.ensures
