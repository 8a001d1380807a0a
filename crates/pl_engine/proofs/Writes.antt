-- What writes of rows leave as it was.
use Rattle.std.proofs.Common.{◌≡◌, ℕ, List, Result, Ok, Err, length}
use Rattle.std.specs.Prelude.{OnErr, OnOk}
use Rattle.pl_base.specs.declared.state.State.{State}
use Rattle.pl_engine.specs.Changing.{Wrote, without_row}
use Rattle.pl_engine.specs.Engines.{kept, world}
use Rattle.pl_engine.specs.declared.engine.Engine.{Engine}
use Rattle.pl_world.specs.pl_journal.Journal.{ChangesOnly, Leads}
use Rattle.pl_world.specs.pl_names.Names.{Name}
use Rattle.pl_tables.specs.Named.{Named}
use Rattle.pl_tables.specs.Rows.{removed}
use Rattle.pl_undo.specs.Database.{database, on_rows}
use Rattle.pl_undo.specs.Store.{Stored}
use Rattle.pl_value.specs.declared.operand.Unsettled.{Unsettled}
use Rattle.pl_value.specs.declared.operand.Unsettled.TheVariants.{Fails, Memory}

module _ (e : Engine) (k : Stored) (table : Name) (only : ChangesOnly table e.journal k) where
  with_rows : world (record e { journal = k }) ≡ record (world e) { database = database e.journal.now.objects k.now.tables }
  with_rows = λ i. record (world e) { database = database (only.objects i) k.now.tables; last = only.last i; depth = length (only.marks i) }

  stays : k.now ≡ e.journal.now → world (record e { journal = k }) ≡ world e
  stays now = λ i. record (world e) { database = now i; last = only.last i; depth = length (only.marks i) }

  pub stays_kept : kept (record e { journal = k }) ≡ kept e
  stays_kept = λ i. record (kept e) { marks = only.marks i }

  pub wrote : (wanted : Result (List Named) State) (r : Result (Unit {0}) Unsettled) → Leads wanted r k.now.tables → OnErr r (k.now ≡ e.journal.now) → Wrote wanted r (world e) (world (record e { journal = k }))
  wrote wanted (Ok u) leads err = (k.now.tables, leads, with_rows)
  wrote wanted (Err (Fails state)) leads err = (leads, stays err)
  wrote wanted (Err Memory) leads err = stays err

  pub gone : {E : Type 0} (r : Result (Unit {0}) E) (id : ℕ) → OnOk r (k.now ≡ on_rows table (removed id) e.journal.now) → OnOk r (world (record e { journal = k }) ≡ without_row table id (world e))
  gone (Ok u) id now = λ i. record (world e) { database = now i; last = only.last i; depth = length (only.marks i) }
  gone (Err error) id now = tt

  pub not_gone : {E : Type 0} (r : Result (Unit {0}) E) → OnErr r (k.now ≡ e.journal.now) → OnErr r (world (record e { journal = k }) ≡ world e)
  not_gone (Ok u) now = tt
  not_gone (Err error) now = stays now
