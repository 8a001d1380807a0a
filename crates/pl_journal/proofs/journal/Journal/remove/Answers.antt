use Rattle.std.proofs.Common.{◌≡◌, ◌-◌, ℕ, subst, OnErr, OnOk}
use Rattle.std.specs.Prelude.{vec_capacity, vec_len}
use Rattle.pl_journal.specs.Journal.{ChangesOnly, with_room}
use Rattle.pl_tables.specs.Rows.{removed}
use Rattle.pl_undo.specs.Database.{on_rows}
use Rattle.pl_journal.proofs.Fronts.{still}
use Rattle.pl_journal.proofs.OneTable.{only_with_room}
use Rattle.pl_undo.specs.Store.{Stored}
use Rattle.pl_journal.proofs.journal.Journal.remove.Goals as goal

pub returns-clause-ok : goal.returns-clause-ok
returns-clause-ok c = subst (λ (s : Stored). OnOk c.remove_row.result (c.remove_row.new.store.now ≡ on_rows c.args.name (removed c.args.id) s.now)) c.self.view_is c.remove_row.ensures.ok

pub returns-clause-only : goal.returns-clause-only
returns-clause-only c =
    let room : ℕ = vec_capacity c.self.inside.sizes - vec_len c.self.inside.sizes in
    subst (λ (s : Stored). ChangesOnly c.args.name s (with_room room c.remove_row.new.store)) c.self.view_is (only_with_room room c.args.name c.self.inside.store c.remove_row.new.store c.remove_row.ensures.only)

pub returns-clause-err : goal.returns-clause-err
returns-clause-err c = subst (λ (s : Stored). OnErr c.remove_row.result (c.remove_row.new.store.now ≡ s.now)) c.self.view_is c.remove_row.ensures.err

pub invariant_of-self : goal.invariant_of-self
invariant_of-self c = still c.self.inside.payload.items c.self.inside.sizes.items c.self.inside.store c.self.invariant c.remove_row.new.payload.items c.remove_row.new.store c.remove_row.ensures.kept
