use Rattle.std.proofs.Common.{◌∷◌, IfOk, [], subst, sym}
use Rattle.pl_altering.proofs.keeping.rows_for.Goals as goal
use Rattle.pl_altering.specs.Entries.{AreEnoughFor, entries}
use Rattle.pl_querying.specs.pl_engine.Engines.{world}
use Rattle.pl_targets.specs.declared.change.RWhat.{RWhat}

pub returns-in-Insert : goal.returns-in-Insert
returns-in-Insert c = subst (λ (what : RWhat). AreEnoughFor what c.args.change.now.table (c.args.variables.now ∷ [] ∷ []) (world c.args.engine.now).database.tables (entries c.new.result.items)) (sym c.in-Insert.is) tt

pub returns-in-Update : goal.returns-in-Update
returns-in-Update c = subst (λ (what : RWhat). IfOk c.keep_where.result (λ kept. AreEnoughFor what c.args.change.now.table (c.args.variables.now ∷ [] ∷ []) (world c.args.engine.now).database.tables (entries kept.items))) (sym c.in-Update.is) c.keep_where.ensures

pub returns-in-Delete : goal.returns-in-Delete
returns-in-Delete c = subst (λ (what : RWhat). IfOk c.keep_where-in-Delete.result (λ kept. AreEnoughFor what c.args.change.now.table (c.args.variables.now ∷ [] ∷ []) (world c.args.engine.now).database.tables (entries kept.items))) (sym c.in-Delete.is) c.keep_where-in-Delete.ensures
