use Rattle.std.proofs.Common.{◌≡◌, IfOk, Result, Ok, Err, inl, inr, subst}
use Rattle.pl_altering.proofs.keeping.keep_where.Goals as goal
use Rattle.pl_altering.specs.Entries.{AreVisited, entries, entry_found}
use Rattle.pl_world.specs.pl_change.ByKey.{AreFoundFor, IsFoundFor}
use Rattle.pl_querying.specs.pl_engine.Engines.{world}
use Rattle.pl_tables.specs.Named.{rows_named}
use Rattle.pl_undo.specs.Database.{Database}
use Rattle.pl_value.specs.Frames.{rows_of}

if_kept : {Made Error : Type 0} (r : Result Made Error) (P Q : Made → Type 0) → ((made : Made) → P made → Q made) → IfOk r P → IfOk r Q
if_kept (Ok made) P Q so is = so made is
if_kept (Err e) P Q so is = tt

pub returns-in-All : goal.returns-in-All
returns-in-All c =
    let ts = (world c.args.engine.now).database.tables in
    if_kept c.keep_rows.result (λ kept. entries kept.items ≡ rows_named c.args.name ts) (λ kept. AreVisited c.args.name c.args.condition.now (rows_of c.args.around.now) ts (entries kept.items)) (λ kept is. inl is) c.keep_rows.ensures

pub returns-in-Only : goal.returns-in-Only
returns-in-Only c =
    let ts = (world c.args.engine.now).database.tables in
    let around = rows_of c.args.around.now in
    let by : IsFoundFor c.args.name c.args.condition.now around ts c.in-Only.found =
    subst (λ (d : Database). IsFoundFor c.args.name c.args.condition.now around d.tables c.in-Only.found) c.journal-journal.ensures.now
    (subst (λ found. AreFoundFor c.args.name c.args.condition.now around c.journal-journal.result.now.now.tables found) c.in-Only.is c.in_ok-candidates_for.ensures) in
    if_kept c.keep_found.result (λ kept. entries kept.items ≡ entry_found c.args.name c.in-Only.found ts) (λ kept. AreVisited c.args.name c.args.condition.now around ts (entries kept.items)) (λ kept is. inr (c.in-Only.found, by, is)) c.keep_found.ensures
