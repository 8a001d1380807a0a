-- What is printed and committed, and what a port did not take wholly.
use Rattle.std.proofs.Common.{◌≡◌, ℕ, List, [], ◌∷◌, ap, arith, refl, subst, sym}
use Rattle.pl_engine.proofs.Joins.{Lawful}
use Rattle.pl_engine.proofs.Marking.{committed_world}
use Rattle.pl_engine.specs.Answers.{Blame, Done, Stopped, at, between}
use Rattle.pl_engine.specs.Engines.{world}
use Rattle.pl_engine.specs.declared.engine.Engine.{Engine}
use Rattle.pl_engine.specs.declared.port.Port.{Ghosts}
use Rattle.pl_engine.specs.declared.stop.Stop.{Stop}
use Rattle.pl_engine.specs.declared.stop.Stop.TheVariants.{Memory}
use Rattle.pl_world.specs.Trace as trace
use Rattle.pl_undo.specs.Database.{Database}
use Rattle.pl_undo.specs.Store.{Stored}
use Rattle.pl_world.specs.Raising.{printed}
use Rattle.pl_world.specs.Transactions.{committed}
use Rattle.pl_world.specs.Laws.{events}
use Rattle.pl_world.specs.World.{Committed, Ran, Said, World, made}
use Rattle.pl_world.specs.declared.outcome.Outcome.TheVariants as outcome

-- nothing was taken, for want of memory
pub untaken : {O P : Type 0} {port : Ghosts P} (ran : Ran O) (e : Engine) {p q : P} → port.took (world e).last [] p q → Stopped port ran Memory e p q
untaken ran e took = record { front = []; rest = events ran; are = refl; cut = between refl took }

module _ {P : Type 0} {port : Ghosts P} (law : Lawful port) where
  pub printed_cut : (lines : List ℕ) (e : Engine) {p q : P} (stop : Stop) → port.tried (world e).last (trace.Said lines) p q → Blame port stop (trace.Said lines) p q
      → Stopped port (printed lines (world e)) stop e p q
  printed_cut lines e {p} {q} stop tried blame = record { front = []; rest = Said lines ∷ []; are = refl; cut = at (trace.Said lines) [] p refl (law.none (world e).last p) tried blame }

  pub committed_cut : (e : Engine) {p q : P} (stop : Stop) → port.tried (world e).last (trace.Committed (world e).database) p q → Blame port stop (trace.Committed (world e).database) p q
      → Stopped port (committed (world e)) stop e p q
  committed_cut e {p} {q} stop tried blame = record { front = []; rest = Committed (world e).database ∷ []; are = refl; cut = at (trace.Committed (world e).database) [] p refl (law.none (world e).last p) tried blame }

-- all that was done is committed
pub committed_done : {P : Type 0} {port : Ghosts P} (e : Engine) (k : Stored) {p q : P} → (world e).depth ≡ 0 → k.now ≡ e.journal.now → k.last ≡ e.journal.now → k.marks ≡ []
    → port.took (world e).last (trace.Committed (world e).database ∷ []) p q → port.fits (world e).database q → Done port (committed (world e)) outcome.Next e (record e { journal = k }) p q
committed_done {P} {port} e k {p} {q} none now last marks took fits = record {
  events = Committed (world e).database ∷ [];
  gives = ap (λ (w : World). made w outcome.Next (Committed (world e).database ∷ [])) (sym (committed_world e k none now last marks));
  told = record {
    took = took;
    last = last;
    fits = subst (λ (db : Database). port.fits db q) (sym last) fits;
    spent = omega arith;
  };
}
