use Rattle.std.proofs.Common.{refl, sym, ◌∙◌}
use Rattle.pl_session.proofs.Kept.{no_writes, not_so, shortened_due, shortened_ready, stored_now, writes_last}
use Rattle.pl_session.specs.declared.state.SessionState.{SessionState}
use Rattle.pl_session.proofs.state.SessionState.shorten.Goals as goal

pub returns-then-not-is_idle-clause-writes : goal.returns-then-not-is_idle-clause-writes
returns-then-not-is_idle-clause-writes g c = no_writes (g.H.Disk.view c.args.host.now) _

pub returns-then-not-is_idle-clause-ready : goal.returns-then-not-is_idle-clause-ready
returns-then-not-is_idle-clause-ready g c = c.requires.ready

pub returns-then-not-is_idle-clause-short : goal.returns-then-not-is_idle-clause-short
returns-then-not-is_idle-clause-short g c = λ idle. not_so c.args.self.now.transaction.mode (sym c.is_idle.ensures ∙ c.if-not-is_idle.true) idle

pub keep_short-requires-clause-attached : goal.keep_short-requires-clause-attached
keep_short-requires-clause-attached g c = c.requires.ready.attached

pub keep_short-requires-clause-store : goal.keep_short-requires-clause-store
keep_short-requires-clause-store g c told =
    stored_now (g.H.Disk.view c.args.host.now) c.args.self.now c.journal.result.now.now c.requires.ready (sym c.is_idle.ensures ∙ c.if-not-is_idle.false) c.journal.ensures.now told

pub returns-clause-writes : goal.returns-clause-writes
returns-clause-writes g c =
    writes_last (g.H.Disk.view c.args.host.now) (g.H.Disk.view c.keep_short.new.host) c.args.self.now c.journal.result.now.now c.requires.ready (sym c.is_idle.ensures ∙ c.if-not-is_idle.false) c.journal.ensures.now c.keep_short.ensures.writes

pub returns-clause-ready : goal.returns-clause-ready
returns-clause-ready g c =
    let before = c.args.self.now in
    let state : SessionState = record before { keeper = c.keep_short.new.keeper } in
    shortened_ready (g.H.Disk.view c.args.host.now) (g.H.Disk.view c.keep_short.new.host) before state c.journal.result.now.now c.keep_short.result c.requires.ready (sym c.is_idle.ensures ∙ c.if-not-is_idle.false) c.journal.ensures.now c.keep_short.ensures.writes
    c.keep_short.ensures.store refl refl refl

pub returns-clause-short : goal.returns-clause-short
returns-clause-short g c = shortened_due _ _ c.keep_short.result c.keep_short.ensures.short
