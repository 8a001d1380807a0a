use Rattle.std.proofs.Common.{◌≡◌, ◌∙◌, ap, subst, ℕ, List, map, IfOk, Option}
use Rattle.pl_tables.specs.Named as tables
use Rattle.pl_tables.specs.Named.{Named, content_named}
use Rattle.pl_tables.specs.Rows.{Content}
use Rattle.pl_value.specs.Frames.{Row, rows_of}
use Rattle.pl_journal.proofs.lending.lend_table.Goals as goal

pub returns-in-Some : goal.returns-in-Some
returns-in-Some c =
    subst (λ (rows : List (ℕ × Row)). IfOk c.lend_slots.result (λ lent. rows_of lent.items ≡ map (λ (entry : ℕ × Row). entry.1) rows))
    (c.slots.ensures ∙ ap (λ (o : Option Content). tables.rows_of o) (c.in-Some.ensures ∙ ap (λ (ts : List Named). content_named c.args.name ts) c.tables.ensures))
    c.lend_slots.ensures
