use Rattle.std.proofs.Common.{◌≡◌, ◌∙◌, IfOk, ℕ, Option, [], ap, subst, sym}
use Rattle.pl_altering.proofs.keeping.keep_found.Goals as goal
use Rattle.pl_altering.specs.Entries.{entries, entry_found}
use Rattle.pl_querying.specs.pl_engine.Engines.{world}
use Rattle.pl_tables.specs.Named.{row_named}
use Rattle.pl_tables.specs.Slots.{before}
use Rattle.pl_undo.specs.Database.{Database}
use Rattle.pl_value.specs.Frames.{Row}

pub returns-in-Some : goal.returns-in-Some
returns-in-Some c =
    subst (λ (found : Option ℕ). IfOk c.keep_one.result (λ kept. entries kept.items ≡ entry_found c.args.name found (world c.args.engine.now).database.tables)) (sym c.in-Some.is)
    (subst (λ (o : Option Row). IfOk c.keep_one.result (λ kept. entries kept.items ≡ before c.in-Some.id o []))
    (c.row_of.ensures ∙ ap (λ (d : Database). row_named c.args.name c.in-Some.id d.tables) c.journal.ensures.now)
    c.keep_one.ensures)
