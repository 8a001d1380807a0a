use Rattle.std.proofs.Common.{◌≡◌, ◌∙◌, IfOk, List, Option, ap, subst}
use Rattle.pl_altering.proofs.keeping.keep_rows.Goals as goal
use Rattle.pl_altering.specs.Entries.{entries}
use Rattle.pl_tables.specs.Named as tables
use Rattle.pl_tables.specs.Named.{Named, content_named}
use Rattle.pl_tables.specs.Rows.{Content}
use Rattle.pl_undo.specs.Database.{Database}
use Rattle.pl_world.specs.Changes as spec

pub returns-in-Some : goal.returns-in-Some
returns-in-Some c =
    subst (λ (rows : List spec.Entry). IfOk c.keep_slots.result (λ kept. entries kept.items ≡ rows))
    (c.slots.ensures ∙ ap (λ (o : Option Content). tables.rows_of o) (c.in-Some.ensures ∙ (ap (λ (ts : List Named). content_named c.args.name ts) c.tables.ensures ∙ ap (λ (db : Database). content_named c.args.name db.tables) c.journal.ensures.now)))
    c.keep_slots.ensures
