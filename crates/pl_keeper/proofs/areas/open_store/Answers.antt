use Rattle.std.proofs.Common.{Option, sym, ◌∙◌, ap, subst}
use Rattle.pl_keeper.specs.Batches.{counting}
use Rattle.pl_keeper.specs.Reading.{IsCounting, Opened}
use Rattle.pl_keeper.specs.declared.head.Head.{Head}
use Rattle.pl_keeper.proofs.Starts.{opened_looks, opened_new, still_only}
use Rattle.pl_keeper.proofs.areas.open_store.Goals as goal

pub new_store-requires-clause-closed : goal.new_store-requires-clause-closed
new_store-requires-clause-closed g c told =
    let a = g.D.Disk.view c.args.disk.now in
    let before = c.counting.ensures.looks.continues.told_before told in
    ap counting (c.counting.ensures.looks.images before).seen ∙ subst (λ (o : Option Head). IsCounting a.seen o) c.in_default.is (c.in_ok-head.ensures.read before)

pub returns-in_err-new_store-clause-looks : goal.returns-in_err-new_store-clause-looks
returns-in_err-new_store-clause-looks g c told used =
    let a = g.D.Disk.view c.args.disk.now in
    absurd (used (subst (λ (o : Option Head). IsCounting a.seen o) c.in_default.is (c.in_ok-head.ensures.read told)))

pub returns-in_default-clause-looks : goal.returns-in_default-clause-looks
returns-in_default-clause-looks g c told used =
    let a = g.D.Disk.view c.args.disk.now in
    absurd (used (subst (λ (o : Option Head). IsCounting a.seen o) c.in_default.is (c.in_ok-head.ensures.read told)))

pub returns-in_default-clause-opened : goal.returns-in_default-clause-opened
returns-in_default-clause-opened g c told =
    let a = g.D.Disk.view c.args.disk.now in
    let m = g.D.Disk.view c.counting.new.disk in
    let d = g.D.Disk.view c.new_store.new.disk in
    let looks = c.counting.ensures.looks in
    let here = looks.continues.told told in
    let last = c.new_store.ensures.writes.moments.continues.told here in
    subst (λ (h : Head). Opened a d h) (sym c.first.ensures)
    (opened_new a m d told (g.met.D.Disk.lawful c.counting.new.disk here) (g.met.D.Disk.lawful c.new_store.new.disk last) (still_only a m looks c.requires.settled here) (looks.images told).seen
    c.new_store.ensures.writes (c.in_ok-new_store.ensures.settled here) (c.in_ok-new_store.ensures.store here) (c.in_ok-new_store.ensures.new_area here) here)

pub returns-clause-opened : goal.returns-clause-opened
returns-clause-opened g c told =
    let a = g.D.Disk.view c.args.disk.now in
    opened_looks a (g.D.Disk.view c.counting.new.disk) c.in-Some.head told c.requires.settled c.counting.ensures.looks
    (subst (λ (o : Option Head). IsCounting a.seen o) c.in-Some.is (c.in_ok-head.ensures.read told))
