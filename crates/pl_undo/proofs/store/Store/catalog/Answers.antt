use Rattle.std.proofs.Common.{subst}
use Rattle.pl_undo.specs.Database.{IsWhole}
use Rattle.pl_undo.specs.Store.{Stored}
use Rattle.pl_undo.proofs.store.Store.catalog.Goals as goal

pub returns-clause-whole : goal.returns-clause-whole
returns-clause-whole c = subst (λ (s : Stored). IsWhole s.now) c.self.view_is c.self.invariant.now
