use Rattle.pl_keeper.proofs.Starts.{first_call, second_call, third_call, beside_all, new_first, new_laid, from_empty, closed_a, closed_b}
use Rattle.pl_keeper.proofs.areas.new_store.Goals as goal

pub returns-in_err-close_area-clause-writes : goal.returns-in_err-close_area-clause-writes
returns-in_err-close_area-clause-writes g c =
    from_empty _ _ c.requires.closed (first_call _ _ c.requires.settled (closed_a (g.D.Disk.view c.args.disk.now) c.requires.closed) (closed_b (g.D.Disk.view c.args.disk.now) c.requires.closed) c.close_area.ensures.writes)

pub returns-in_err-lay_header-clause-writes : goal.returns-in_err-lay_header-clause-writes
returns-in_err-lay_header-clause-writes g c =
    let first = first_call _ _ c.requires.settled (closed_a (g.D.Disk.view c.args.disk.now) c.requires.closed) (closed_b (g.D.Disk.view c.args.disk.now) c.requires.closed) c.close_area.ensures.writes in
    from_empty _ _ c.requires.closed
    (second_call _ _ _ (g.met.D.Disk.lawful c.args.disk.now) (g.met.D.Disk.lawful c.close_area.new.disk) c.requires.settled (closed_b (g.D.Disk.view c.args.disk.now) c.requires.closed) first c.in_ok-close_area.ensures.closed c.lay_header.ensures.writes)

pub returns-in_err-open_area-clause-writes : goal.returns-in_err-open_area-clause-writes
returns-in_err-open_area-clause-writes g c =
    let lawful = g.met.D.Disk.lawful c.args.disk.now in
    let first = first_call _ _ c.requires.settled (closed_a (g.D.Disk.view c.args.disk.now) c.requires.closed) (closed_b (g.D.Disk.view c.args.disk.now) c.requires.closed) c.close_area.ensures.writes in
    let second = second_call _ _ _ lawful (g.met.D.Disk.lawful c.close_area.new.disk) c.requires.settled (closed_b (g.D.Disk.view c.args.disk.now) c.requires.closed) first c.in_ok-close_area.ensures.closed c.lay_header.ensures.writes in
    from_empty _ _ c.requires.closed
    (third_call _ _ _ lawful (g.met.D.Disk.lawful c.lay_header.new.disk) c.requires.settled (closed_b (g.D.Disk.view c.args.disk.now) c.requires.closed) second (λ told. c.in_ok-lay_header.ensures.laid (first.moments.continues.told told)) c.open_area.ensures.writes)

pub returns-clause-writes : goal.returns-clause-writes
returns-clause-writes g c =
    let lawful = g.met.D.Disk.lawful c.args.disk.now in
    let first = first_call _ _ c.requires.settled (closed_a (g.D.Disk.view c.args.disk.now) c.requires.closed) (closed_b (g.D.Disk.view c.args.disk.now) c.requires.closed) c.close_area.ensures.writes in
    let second = second_call _ _ _ lawful (g.met.D.Disk.lawful c.close_area.new.disk) c.requires.settled (closed_b (g.D.Disk.view c.args.disk.now) c.requires.closed) first c.in_ok-close_area.ensures.closed c.lay_header.ensures.writes in
    from_empty _ _ c.requires.closed
    (third_call _ _ _ lawful (g.met.D.Disk.lawful c.lay_header.new.disk) c.requires.settled (closed_b (g.D.Disk.view c.args.disk.now) c.requires.closed) second (λ told. c.in_ok-lay_header.ensures.laid (first.moments.continues.told told)) c.open_area.ensures.writes)

pub returns-clause-store : goal.returns-clause-store
returns-clause-store g c told =
    let a = g.D.Disk.view c.args.disk.now in
    let lawful = g.met.D.Disk.lawful c.args.disk.now in
    let first = first_call _ _ c.requires.settled (closed_a (g.D.Disk.view c.args.disk.now) c.requires.closed) (closed_b (g.D.Disk.view c.args.disk.now) c.requires.closed) c.close_area.ensures.writes in
    let second = second_call _ _ _ lawful (g.met.D.Disk.lawful c.close_area.new.disk) c.requires.settled (closed_b (g.D.Disk.view c.args.disk.now) c.requires.closed) first c.in_ok-close_area.ensures.closed c.lay_header.ensures.writes in
    let third = third_call _ _ _ lawful (g.met.D.Disk.lawful c.lay_header.new.disk) c.requires.settled (closed_b (g.D.Disk.view c.args.disk.now) c.requires.closed) second (λ t. c.in_ok-lay_header.ensures.laid (first.moments.continues.told t)) c.open_area.ensures.writes in
    let one = first.moments.continues.told told in
    let two = second.moments.continues.told told in
    new_first a.seen.b (g.D.Disk.view c.lay_header.new.disk) (g.D.Disk.view c.open_area.new.disk) (closed_b a c.requires.closed told) (g.met.D.Disk.lawful c.lay_header.new.disk two) (g.met.D.Disk.lawful c.open_area.new.disk (third.moments.continues.told told))
    (c.in_ok-lay_header.ensures.laid one) (beside_all _ _ lawful (g.met.D.Disk.lawful c.open_area.new.disk) c.requires.settled third (third.moments.continues.told told)) (c.in_ok-open_area.ensures.opened two)

pub returns-clause-new_area : goal.returns-clause-new_area
returns-clause-new_area g c told =
    let one = c.close_area.ensures.writes.moments.continues.told told in
    let two = c.lay_header.ensures.writes.moments.continues.told one in
    new_laid (g.D.Disk.view c.lay_header.new.disk) (g.D.Disk.view c.open_area.new.disk) (g.met.D.Disk.lawful c.lay_header.new.disk two) (c.in_ok-lay_header.ensures.laid one) (c.in_ok-open_area.ensures.opened two)
