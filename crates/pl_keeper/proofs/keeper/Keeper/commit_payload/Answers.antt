use Rattle.std.proofs.Common.{sym, subst}
use Rattle.pl_disk.specs.Disk.{Writes}
use Rattle.pl_keeper.specs.Store.{CommittingPayload, CommittedPayload}
use Rattle.pl_keeper.specs.declared.head.Head.{Head}
use Rattle.pl_keeper.proofs.Appends.{commit_run, all_done}
use Rattle.pl_keeper.proofs.keeper.Keeper.commit_payload.Goals as goal

pub returns-in_err-end-clause-writes : goal.returns-in_err-end-clause-writes
returns-in_err-end-clause-writes g c =
    let a = g.D.Disk.view c.args.disk.now in
    subst (λ (k : Head). Writes a (g.D.Disk.view c.append.new.disk) (CommittingPayload a k c.args.payload.now)) c.self.view_is
    (commit_run c.self.inside.head c.args.payload.now a _ c.self.invariant.0 c.append.ensures.fits c.append.ensures.writes)

pub returns-clause-writes : goal.returns-clause-writes
returns-clause-writes g c =
    let a = g.D.Disk.view c.args.disk.now in
    subst (λ (k : Head). Writes a (g.D.Disk.view c.append.new.disk) (CommittingPayload a k c.args.payload.now)) c.self.view_is
    (commit_run c.self.inside.head c.args.payload.now a _ c.self.invariant.0 c.append.ensures.fits c.append.ensures.writes)

pub returns-clause-committed : goal.returns-clause-committed
returns-clause-committed g c told =
    let a = g.D.Disk.view c.args.disk.now in
    let d = g.D.Disk.view c.append.new.disk in
    let head = c.self.inside.head in
    let end = c.in_ok-end.end in
    let small = c.in_ok-end.ensures.end in
    subst (λ (k : Head). CommittedPayload a d k c.behind-self-inside.result c.args.payload.now) c.self.view_is
    (subst (λ (h : Head). CommittedPayload a d head h c.args.payload.now) (sym c.behind-self-inside.ensures) (all_done head c.args.payload.now a d end c.self.invariant.0 small.0 small.1 (c.in_ok-end.ensures.appended told)))
