use Rattle.std.proofs.Common.{◌≡◌, List, subst, ℕ}
use Rattle.pl_calling.proofs.Entered.{each_ok}
use Rattle.pl_calling.proofs.copies.copies_for.Goals as goal
use Rattle.pl_engine.specs.pl_change.Running.{copied}
use Rattle.pl_engine.specs.Engines.{world}
use Rattle.pl_engine.specs.pl_inside.Agreement.{AgreeOn}
use Rattle.pl_engine.specs.pl_journal.Rows.{tables_of}
use Rattle.pl_natural.specs.pl_query.Query.{rows}
use Rattle.pl_resolved.specs.declared.query.RQuery.{RQuery}
use Rattle.pl_undo.specs.Database.{Database}

pub returns : goal.returns
returns g c =
    each_ok c.copy_tables.result (λ copies agree. λ calls.
    subst (λ (qs : List RQuery). rows calls qs (copied copies.list.items) ≡ rows calls qs (tables_of (world c.args.engine.now).database.tables)) c.as_slice.ensures
    (c.in_ok-names.ensures calls (copied copies.list.items) (tables_of (world c.args.engine.now).database.tables)
    (subst (λ (db : Database). AgreeOn c.in_ok-names.names.items (copied copies.list.items) (tables_of db.tables)) c.journal.ensures.now
    (subst (λ (ns : List (List ℕ)). AgreeOn ns (copied copies.list.items) (tables_of c.journal.result.now.now.tables)) c.as_slice-2.ensures.value agree)))) c.copy_tables.ensures
