use Rattle.std.proofs.Common.{sym, subst}
use Rattle.pl_keeper.specs.Store.{Recovered}
use Rattle.pl_keeper.specs.declared.head.Head.{Head}
use Rattle.pl_keeper.proofs.Starts.{left_alone, settled, same_b, recovers, recovered}
use Rattle.pl_keeper.proofs.keeper.Keeper.recover.Goals as goal

pub returns-in_err-head-clause-settled : goal.returns-in_err-head-clause-settled
returns-in_err-head-clause-settled g c told =
    let mid = c.sync.ensures.call.continues.told told in
    settled (g.D.Disk.view c.args.disk.now) (g.D.Disk.view c.sync.new.self) (g.D.Disk.view c.open_store.new.disk) (g.met.D.Disk.lawful c.sync.new.self mid) mid (c.sync.ensures.call.printed told) (c.sync.ensures.seen told)
    (c.in_ok-sync.ensures.settled told) (c.in_ok-sync.ensures.durable told) c.open_store.ensures.writes

pub returns-in_err-head-clause-area_b : goal.returns-in_err-head-clause-area_b
returns-in_err-head-clause-area_b g c told =
    let mid = c.sync.ensures.call.continues.told told in
    let last = c.open_store.ensures.writes.moments.continues.told mid in
    same_b (g.D.Disk.view c.args.disk.now) (g.D.Disk.view c.sync.new.self) (g.D.Disk.view c.open_store.new.disk) (g.met.D.Disk.lawful c.sync.new.self mid) (g.met.D.Disk.lawful c.open_store.new.disk last) mid (c.sync.ensures.seen told)
    (c.in_ok-sync.ensures.durable told) c.open_store.ensures.writes

pub returns-clause-settled : goal.returns-clause-settled
returns-clause-settled g c told =
    let mid = c.sync.ensures.call.continues.told told in
    settled (g.D.Disk.view c.args.disk.now) (g.D.Disk.view c.sync.new.self) (g.D.Disk.view c.open_store.new.disk) (g.met.D.Disk.lawful c.sync.new.self mid) mid (c.sync.ensures.call.printed told) (c.sync.ensures.seen told)
    (c.in_ok-sync.ensures.settled told) (c.in_ok-sync.ensures.durable told) c.open_store.ensures.writes

pub returns-clause-area_b : goal.returns-clause-area_b
returns-clause-area_b g c told =
    let mid = c.sync.ensures.call.continues.told told in
    let last = c.open_store.ensures.writes.moments.continues.told mid in
    same_b (g.D.Disk.view c.args.disk.now) (g.D.Disk.view c.sync.new.self) (g.D.Disk.view c.open_store.new.disk) (g.met.D.Disk.lawful c.sync.new.self mid) (g.met.D.Disk.lawful c.open_store.new.disk last) mid (c.sync.ensures.seen told)
    (c.in_ok-sync.ensures.durable told) c.open_store.ensures.writes

pub returns-in_err-head-clause-writes : goal.returns-in_err-head-clause-writes
returns-in_err-head-clause-writes g c =
    recovers (g.D.Disk.view c.args.disk.now) (g.D.Disk.view c.sync.new.self) (g.D.Disk.view c.open_store.new.disk) c.sync.result c.sync.ensures.call c.sync.ensures.seen (g.met.D.Disk.lawful c.args.disk.now) c.sync.ensures.crash
    c.open_store.ensures.writes

pub returns-clause-writes : goal.returns-clause-writes
returns-clause-writes g c =
    recovers (g.D.Disk.view c.args.disk.now) (g.D.Disk.view c.sync.new.self) (g.D.Disk.view c.open_store.new.disk) c.sync.result c.sync.ensures.call c.sync.ensures.seen (g.met.D.Disk.lawful c.args.disk.now) c.sync.ensures.crash
    c.open_store.ensures.writes

pub returns-clause-recovered : goal.returns-clause-recovered
returns-clause-recovered g c told =
    let mid = c.sync.ensures.call.continues.told told in
    subst (λ (h : Head). Recovered (g.D.Disk.view c.args.disk.now) (g.D.Disk.view c.open_store.new.disk) h) (sym c.new.ensures)
    (recovered (g.D.Disk.view c.args.disk.now) (g.D.Disk.view c.sync.new.self) (g.D.Disk.view c.open_store.new.disk) c.sync.result c.sync.ensures.call c.sync.ensures.seen c.in_ok-head.head told (c.in_ok-sync.ensures.settled told)
    (c.open_store.ensures.writes.moments.synced mid) (c.in_ok-head.ensures.opened mid))

pub returns-clause-untouched : goal.returns-clause-untouched
returns-clause-untouched g c told used =
    left_alone (g.D.Disk.view c.args.disk.now) (g.D.Disk.view c.sync.new.self) (g.D.Disk.view c.open_store.new.disk) c.sync.result c.sync.ensures.call c.sync.ensures.seen c.sync.ensures.crash told c.open_store.ensures.looks used
