use Rattle.std.proofs.Common.{◌∙◌, ℕ, List, sym, ap}
use Rattle.std.specs.Prelude.{is_some}
use Rattle.pl_codec.specs.Reading.{operations_of}
use Rattle.pl_exec.specs.pl_journal.Operation.{apply_payload, empty}
use Rattle.pl_session.specs.Steps.{KeepCause}
use Rattle.pl_port.specs.pl_engine.declared.stop.Stop.{Stop}
use Rattle.pl_port.specs.pl_engine.declared.stop.Stop.TheVariants.{Memory}
use Rattle.pl_session.proofs.Ends.{if_err}
use Rattle.pl_session.proofs.Kept.{has_next, next_short, no_writes, rewrites, rewritten}
use Rattle.pl_port.proofs.Opens.{applied, spelled_by}
use Rattle.pl_session.proofs.keeping.keep_short.Goals as goal

pub returns-then-not-due-clause-writes : goal.returns-then-not-due-clause-writes
returns-then-not-due-clause-writes g c = no_writes (g.H.Disk.view c.args.host.now) _

pub returns-then-not-due-clause-short : goal.returns-then-not-due-clause-short
returns-then-not-due-clause-short g c = sym c.due.ensures ∙ c.if-not-due.true

pub returns-in_err-payload-clause-writes : goal.returns-in_err-payload-clause-writes
returns-in_err-payload-clause-writes g c = no_writes (g.H.Disk.view c.args.host.now) _

pub returns-in_err-payload-clause-cause : goal.returns-in_err-payload-clause-cause
returns-in_err-payload-clause-cause g c = if_err (λ (why : Stop). KeepCause (g.H.Disk.view c.args.host.now) (g.H.Disk.view c.args.host.now) why) c.from_residual.result Memory c.from_residual.ensures.1 tt

pub checkpoint-requires-clause-spelling : goal.checkpoint-requires-clause-spelling
checkpoint-requires-clause-spelling g c =
    let it = spelled_by c.in_ok-payload.payload empty c.args.journal.now.now (applied c.in_ok-payload.payload empty c.args.journal.now.now c.in_ok-payload.ensures) in
    ap (λ o. is_some o) (ap operations_of c.as_slice.ensures ∙ it.1)

pub checkpoint-requires-clause-next : goal.checkpoint-requires-clause-next
checkpoint-requires-clause-next g c = has_next c.args.keeper.now (sym c.due.ensures ∙ c.if-not-due.false)

pub checkpoint-requires-clause-store : goal.checkpoint-requires-clause-store
checkpoint-requires-clause-store g c told = let s = c.requires.store told in (s.list, s.store)

pub returns-in-Err-Fault-clause-writes : goal.returns-in-Err-Fault-clause-writes
returns-in-Err-Fault-clause-writes g c =
    let db = c.args.journal.now.now in
    rewrites _ _ c.args.keeper.now c.as_slice.result.now db c.requires.store (ap (λ (p : List ℕ). apply_payload p empty) c.as_slice.ensures ∙ applied c.in_ok-payload.payload empty db c.in_ok-payload.ensures) c.checkpoint.ensures.writes

pub returns-in-Err-Memory-clause-writes : goal.returns-in-Err-Memory-clause-writes
returns-in-Err-Memory-clause-writes g c =
    let db = c.args.journal.now.now in
    rewrites _ _ c.args.keeper.now c.as_slice.result.now db c.requires.store (ap (λ (p : List ℕ). apply_payload p empty) c.as_slice.ensures ∙ applied c.in_ok-payload.payload empty db c.in_ok-payload.ensures) c.checkpoint.ensures.writes

pub returns-in-Ok-clause-writes : goal.returns-in-Ok-clause-writes
returns-in-Ok-clause-writes g c =
    let db = c.args.journal.now.now in
    rewrites _ _ c.args.keeper.now c.as_slice.result.now db c.requires.store (ap (λ (p : List ℕ). apply_payload p empty) c.as_slice.ensures ∙ applied c.in_ok-payload.payload empty db c.in_ok-payload.ensures) c.checkpoint.ensures.writes

pub returns-in-Ok-clause-store : goal.returns-in-Ok-clause-store
returns-in-Ok-clause-store g c told =
    let db = c.args.journal.now.now in
    rewritten _ c.args.keeper.now c.checkpoint.new.self c.as_slice.result.now db (ap (λ (p : List ℕ). apply_payload p empty) c.as_slice.ensures ∙ applied c.in_ok-payload.payload empty db c.in_ok-payload.ensures) (c.in-Ok.ensures.checkpointed told)

pub returns-in-Ok-clause-short : goal.returns-in-Ok-clause-short
returns-in-Ok-clause-short g c = next_short c.args.keeper.now c.checkpoint.new.self c.checkpoint.new.self.end c.in-Ok.ensures.head
