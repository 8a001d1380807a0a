use Rattle.std.proofs.Common.{refl}
use Rattle.pl_keeper.specs.Batches.{spare_area}
use Rattle.pl_session.proofs.Begins.{starts, starts_on, settles, settles_on, untouched_on, start_failed, fold_failed, is_used, keeps_spare, keeps_spare_on, started}
use Rattle.pl_session.proofs.state.SessionState.start.Goals as goal

pub returns-in_err-reader-clause-moments : goal.returns-in_err-reader-clause-moments
returns-in_err-reader-clause-moments g c = starts _ _ c.recover.ensures.writes

pub returns-in_err-reader-clause-settled : goal.returns-in_err-reader-clause-settled
returns-in_err-reader-clause-settled g c told = settles _ _ (c.recover.ensures.settled told)

pub returns-in_err-reader-clause-cause : goal.returns-in_err-reader-clause-cause
returns-in_err-reader-clause-cause g c =
    start_failed (g.H.Disk.view c.args.host.now) (g.H.Disk.view c.recover.new.disk) c.in_err-reader.field-0.0 c.from_residual.result c.from_residual.ensures.1 c.in_err-reader.ensures.cause

pub returns-in_err-reader-clause-untouched : goal.returns-in_err-reader-clause-untouched
returns-in_err-reader-clause-untouched g c told damage is = c.recover.ensures.untouched told (is_used _ damage is)

pub returns-in_err-reader-clause-spare : goal.returns-in_err-reader-clause-spare
returns-in_err-reader-clause-spare g c told = keeps_spare _ _ told c.recover.ensures.writes (c.recover.ensures.area_b told) (c.recover.ensures.untouched told)

pub returns-in_err-journal-clause-moments : goal.returns-in_err-journal-clause-moments
returns-in_err-journal-clause-moments g c =
    let a = g.H.Disk.view c.args.host.now in
    let m = g.H.Disk.view c.recover.new.disk in
    let d = g.H.Disk.view c.fold.new.host in
    starts_on a m d (g.met.H.Disk.lawful c.args.host.now) (g.met.H.Disk.lawful c.recover.new.disk) c.recover.ensures.writes c.fold.ensures.looks

pub returns-in_err-journal-clause-settled : goal.returns-in_err-journal-clause-settled
returns-in_err-journal-clause-settled g c told =
    let a = g.H.Disk.view c.args.host.now in
    let m = g.H.Disk.view c.recover.new.disk in
    let d = g.H.Disk.view c.fold.new.host in
    settles_on a m d (g.met.H.Disk.lawful c.recover.new.disk) (c.recover.ensures.writes.moments.continues.told told) (c.recover.ensures.settled told) c.fold.ensures.looks

pub returns-in_err-journal-clause-untouched : goal.returns-in_err-journal-clause-untouched
returns-in_err-journal-clause-untouched g c told damage is =
    let a = g.H.Disk.view c.args.host.now in
    let m = g.H.Disk.view c.recover.new.disk in
    let d = g.H.Disk.view c.fold.new.host in
    untouched_on a m d (c.recover.ensures.writes.moments.continues.told told) (c.recover.ensures.untouched told (is_used _ damage is)) c.fold.ensures.looks

pub returns-in_err-journal-clause-spare : goal.returns-in_err-journal-clause-spare
returns-in_err-journal-clause-spare g c told =
    let a = g.H.Disk.view c.args.host.now in
    let m = g.H.Disk.view c.recover.new.disk in
    let d = g.H.Disk.view c.fold.new.host in
    let now = c.recover.ensures.writes.moments.continues.told told in
    keeps_spare_on (spare_area a.seen) a m d (g.met.H.Disk.lawful c.args.host.now told) (g.met.H.Disk.lawful c.recover.new.disk now) now
    (keeps_spare a m told c.recover.ensures.writes (c.recover.ensures.area_b told) (c.recover.ensures.untouched told)) c.fold.ensures.looks

pub returns-in_err-journal-clause-cause : goal.returns-in_err-journal-clause-cause
returns-in_err-journal-clause-cause g c =
    let a = g.H.Disk.view c.args.host.now in
    let m = g.H.Disk.view c.recover.new.disk in
    let d = g.H.Disk.view c.fold.new.host in
    fold_failed a m d c.recover.ensures.writes.moments.continues c.fold.ensures.looks c.in_ok-reader.reader c.in_ok-reader.ensures.recovered c.in_err-journal.field-0.0 c.from_residual-in_err-journal.result c.from_residual-in_err-journal.ensures.1
    c.in_err-journal.ensures.cause

pub returns-clause-moments : goal.returns-clause-moments
returns-clause-moments g c =
    let a = g.H.Disk.view c.args.host.now in
    let m = g.H.Disk.view c.recover.new.disk in
    let d = g.H.Disk.view c.fold.new.host in
    starts_on a m d (g.met.H.Disk.lawful c.args.host.now) (g.met.H.Disk.lawful c.recover.new.disk) c.recover.ensures.writes c.fold.ensures.looks

pub returns-clause-settled : goal.returns-clause-settled
returns-clause-settled g c told =
    let a = g.H.Disk.view c.args.host.now in
    let m = g.H.Disk.view c.recover.new.disk in
    let d = g.H.Disk.view c.fold.new.host in
    settles_on a m d (g.met.H.Disk.lawful c.recover.new.disk) (c.recover.ensures.writes.moments.continues.told told) (c.recover.ensures.settled told) c.fold.ensures.looks

pub returns-clause-untouched : goal.returns-clause-untouched
returns-clause-untouched g c told damage is =
    let a = g.H.Disk.view c.args.host.now in
    let m = g.H.Disk.view c.recover.new.disk in
    let d = g.H.Disk.view c.fold.new.host in
    untouched_on a m d (c.recover.ensures.writes.moments.continues.told told) (c.recover.ensures.untouched told (is_used _ damage is)) c.fold.ensures.looks

pub returns-clause-spare : goal.returns-clause-spare
returns-clause-spare g c told =
    let a = g.H.Disk.view c.args.host.now in
    let m = g.H.Disk.view c.recover.new.disk in
    let d = g.H.Disk.view c.fold.new.host in
    let now = c.recover.ensures.writes.moments.continues.told told in
    keeps_spare_on (spare_area a.seen) a m d (g.met.H.Disk.lawful c.args.host.now told) (g.met.H.Disk.lawful c.recover.new.disk now) now
    (keeps_spare a m told c.recover.ensures.writes (c.recover.ensures.area_b told) (c.recover.ensures.untouched told)) c.fold.ensures.looks

pub returns-clause-started : goal.returns-clause-started
returns-clause-started g c =
    let a = g.H.Disk.view c.args.host.now in
    let m = g.H.Disk.view c.recover.new.disk in
    let d = g.H.Disk.view c.fold.new.host in
    started a m d c.in_ok-reader.reader _ c.in_ok-journal.journal.now c.requires c.recover.ensures.writes.moments.continues c.fold.ensures.looks c.in_ok-reader.ensures.recovered c.in_ok-journal.ensures.folded c.new.ensures c.new-2.ensures.mode c.new-2.ensures.names refl
