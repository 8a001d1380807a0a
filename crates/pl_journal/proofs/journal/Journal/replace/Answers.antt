use Rattle.std.proofs.Common.{◌≡◌, ◌-◌, ℕ, subst, Some, OnErr}
use Rattle.std.specs.Prelude.{vec_capacity, vec_len}
use Rattle.pl_journal.specs.Journal.{ChangesOnly, Leads, with_room}
use Rattle.pl_journal.specs.Writing.{written}
use Rattle.pl_journal.proofs.Fronts.{still}
use Rattle.pl_journal.proofs.OneTable.{only_with_room}
use Rattle.pl_undo.specs.Store.{Stored}
use Rattle.pl_journal.proofs.journal.Journal.replace.Goals as goal

pub returns-clause-leads : goal.returns-clause-leads
returns-clause-leads c =
    subst (λ (s : Stored). Leads {A = Unit {0}} (written s.now.objects c.args.name (Some c.args.id) c.args.row s.now.tables) c.replace_row.result c.replace_row.new.store.now.tables) c.self.view_is c.replace_row.ensures.leads

pub returns-clause-only : goal.returns-clause-only
returns-clause-only c =
    let room : ℕ = vec_capacity c.self.inside.sizes - vec_len c.self.inside.sizes in
    subst (λ (s : Stored). ChangesOnly c.args.name s (with_room room c.replace_row.new.store)) c.self.view_is (only_with_room room c.args.name c.self.inside.store c.replace_row.new.store c.replace_row.ensures.only)

pub returns-clause-err : goal.returns-clause-err
returns-clause-err c = subst (λ (s : Stored). OnErr c.replace_row.result (c.replace_row.new.store.now ≡ s.now)) c.self.view_is c.replace_row.ensures.err

pub invariant_of-self : goal.invariant_of-self
invariant_of-self c = still c.self.inside.payload.items c.self.inside.sizes.items c.self.inside.store c.self.invariant c.replace_row.new.payload.items c.replace_row.new.store c.replace_row.ensures.kept
