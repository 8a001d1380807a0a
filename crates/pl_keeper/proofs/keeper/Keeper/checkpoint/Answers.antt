use Rattle.std.proofs.Common.{◌<◌, ◌-◌, ◌^◌, ◌+◌, ◌∙◌, ap, subst, sym}
use Rattle.pl_disk.specs.Disk.{Only, Writes}
use Rattle.pl_frames.specs.Header.{Laid, Leaves, Shut}
use Rattle.pl_keeper.specs.Checkpoint.{CheckpointedPayload, CheckpointingPayload}
use Rattle.pl_keeper.specs.Store.{IsSomeStore, behind}
use Rattle.pl_keeper.specs.declared.head.Head.{Head}
use Rattle.pl_keeper.proofs.Checkpoints.{IsWritten, done, first, fourth, gate_settled, laid_ends, now_shut, now_written, second, third, whole_run}
use Rattle.pl_keeper.proofs.keeper.Keeper.checkpoint.Goals as goal

pub close_area-requires-clause-gate : goal.close_area-requires-clause-gate
close_area-requires-clause-gate g c told =
    let a = g.D.Disk.view c.args.disk.now in
    gate_settled c.other-area.result a (c.requires.store told).1.settled

pub lay_header-requires-clause-shut : goal.lay_header-requires-clause-shut
lay_header-requires-clause-shut g c told = c.in_ok-close_area.ensures.closed (c.close_area.ensures.writes.moments.continues.told_before told)

pub append-requires-clause-ends : goal.append-requires-clause-ends
append-requires-clause-ends g c told =
    laid_ends c.other-area.result (c.self.inside.head.generation + 1) (g.D.Disk.view c.lay_header.new.disk) (c.in_ok-lay_header.ensures.laid (c.lay_header.ensures.writes.moments.continues.told_before told))

pub open_area-requires-clause-shut : goal.open_area-requires-clause-shut
open_area-requires-clause-shut g c told =
    let a = g.D.Disk.view c.args.disk.now in
    let head = c.self.inside.head in
    let store = subst (λ (h : Head). a.told → IsSomeStore a h) (sym c.self.view_is) c.requires.store in
    let only : a.told → Only a.seen a.may_leave = λ told. (store told).1.settled in
    let lawful = g.met.D.Disk.lawful c.args.disk.now in
    let m = g.D.Disk.view c.close_area.new.disk in
    let one = first head c.other-area.result c.other-area.ensures a c.args.payload.now only lawful m c.close_area.ensures.writes in
    let n = g.D.Disk.view c.lay_header.new.disk in
    let two = second head c.other-area.result c.other-area.ensures a c.args.payload.now only lawful m n (g.met.D.Disk.lawful c.close_area.new.disk) one (λ t. c.in_ok-close_area.ensures.closed (one.moments.continues.told_before t)) c.lay_header.ensures.writes in
    let laid : n.told → Leaves c.other-area.result (λ f. Shut f × Laid (head.generation + 1) f) n = λ t. c.in_ok-lay_header.ensures.laid (c.lay_header.ensures.writes.moments.continues.told_before t) in
    let o = g.D.Disk.view c.append.new.disk in
    let three = third head c.other-area.result c.other-area.ensures a c.args.payload.now only lawful n o (g.met.D.Disk.lawful c.lay_header.new.disk) two laid c.append.ensures.writes in
    let end = c.in_ok-end.end in
    let was : o.told → IsWritten head a c.args.payload.now o end = λ t. let now = c.append.ensures.writes.moments.continues.told_before t in
    now_written head c.other-area.result c.other-area.ensures a c.args.payload.now only lawful n o end (g.met.D.Disk.lawful c.lay_header.new.disk) two laid c.in_ok-end.ensures.appended now in
    now_shut head c.other-area.result c.other-area.ensures a c.args.payload.now only lawful o end (was told)

pub returns-in_err-close_area-clause-writes : goal.returns-in_err-close_area-clause-writes
returns-in_err-close_area-clause-writes g c =
    let a = g.D.Disk.view c.args.disk.now in
    let head = c.self.inside.head in
    let store = subst (λ (h : Head). a.told → IsSomeStore a h) (sym c.self.view_is) c.requires.store in
    let only : a.told → Only a.seen a.may_leave = λ told. (store told).1.settled in
    let lawful = g.met.D.Disk.lawful c.args.disk.now in
    let m = g.D.Disk.view c.close_area.new.disk in
    let one = first head c.other-area.result c.other-area.ensures a c.args.payload.now only lawful m c.close_area.ensures.writes in
    let fits : head.generation < 2 ^ 64 - 1 = subst (λ (h : Head). h.generation < 2 ^ 64 - 1) (sym c.self.view_is) c.requires.next in
    subst (λ (h : Head). Writes a m (CheckpointingPayload a h c.args.payload.now)) c.self.view_is (whole_run head c.other-area.result c.other-area.ensures a c.args.payload.now only lawful m fits one)

pub returns-in_err-lay_header-clause-writes : goal.returns-in_err-lay_header-clause-writes
returns-in_err-lay_header-clause-writes g c =
    let a = g.D.Disk.view c.args.disk.now in
    let head = c.self.inside.head in
    let store = subst (λ (h : Head). a.told → IsSomeStore a h) (sym c.self.view_is) c.requires.store in
    let only : a.told → Only a.seen a.may_leave = λ told. (store told).1.settled in
    let lawful = g.met.D.Disk.lawful c.args.disk.now in
    let m = g.D.Disk.view c.close_area.new.disk in
    let one = first head c.other-area.result c.other-area.ensures a c.args.payload.now only lawful m c.close_area.ensures.writes in
    let n = g.D.Disk.view c.lay_header.new.disk in
    let two = second head c.other-area.result c.other-area.ensures a c.args.payload.now only lawful m n (g.met.D.Disk.lawful c.close_area.new.disk) one (λ t. c.in_ok-close_area.ensures.closed (one.moments.continues.told_before t)) c.lay_header.ensures.writes in
    let fits : head.generation < 2 ^ 64 - 1 = subst (λ (h : Head). h.generation < 2 ^ 64 - 1) (sym c.self.view_is) c.requires.next in
    subst (λ (h : Head). Writes a n (CheckpointingPayload a h c.args.payload.now)) c.self.view_is (whole_run head c.other-area.result c.other-area.ensures a c.args.payload.now only lawful n fits two)

pub returns-in_err-end-clause-writes : goal.returns-in_err-end-clause-writes
returns-in_err-end-clause-writes g c =
    let a = g.D.Disk.view c.args.disk.now in
    let head = c.self.inside.head in
    let store = subst (λ (h : Head). a.told → IsSomeStore a h) (sym c.self.view_is) c.requires.store in
    let only : a.told → Only a.seen a.may_leave = λ told. (store told).1.settled in
    let lawful = g.met.D.Disk.lawful c.args.disk.now in
    let m = g.D.Disk.view c.close_area.new.disk in
    let one = first head c.other-area.result c.other-area.ensures a c.args.payload.now only lawful m c.close_area.ensures.writes in
    let n = g.D.Disk.view c.lay_header.new.disk in
    let two = second head c.other-area.result c.other-area.ensures a c.args.payload.now only lawful m n (g.met.D.Disk.lawful c.close_area.new.disk) one (λ t. c.in_ok-close_area.ensures.closed (one.moments.continues.told_before t)) c.lay_header.ensures.writes in
    let laid : n.told → Leaves c.other-area.result (λ f. Shut f × Laid (head.generation + 1) f) n = λ t. c.in_ok-lay_header.ensures.laid (c.lay_header.ensures.writes.moments.continues.told_before t) in
    let o = g.D.Disk.view c.append.new.disk in
    let three = third head c.other-area.result c.other-area.ensures a c.args.payload.now only lawful n o (g.met.D.Disk.lawful c.lay_header.new.disk) two laid c.append.ensures.writes in
    let fits : head.generation < 2 ^ 64 - 1 = subst (λ (h : Head). h.generation < 2 ^ 64 - 1) (sym c.self.view_is) c.requires.next in
    subst (λ (h : Head). Writes a o (CheckpointingPayload a h c.args.payload.now)) c.self.view_is (whole_run head c.other-area.result c.other-area.ensures a c.args.payload.now only lawful o fits three)

pub returns-in_err-open_area-clause-writes : goal.returns-in_err-open_area-clause-writes
returns-in_err-open_area-clause-writes g c =
    let a = g.D.Disk.view c.args.disk.now in
    let head = c.self.inside.head in
    let store = subst (λ (h : Head). a.told → IsSomeStore a h) (sym c.self.view_is) c.requires.store in
    let only : a.told → Only a.seen a.may_leave = λ told. (store told).1.settled in
    let lawful = g.met.D.Disk.lawful c.args.disk.now in
    let m = g.D.Disk.view c.close_area.new.disk in
    let one = first head c.other-area.result c.other-area.ensures a c.args.payload.now only lawful m c.close_area.ensures.writes in
    let n = g.D.Disk.view c.lay_header.new.disk in
    let two = second head c.other-area.result c.other-area.ensures a c.args.payload.now only lawful m n (g.met.D.Disk.lawful c.close_area.new.disk) one (λ t. c.in_ok-close_area.ensures.closed (one.moments.continues.told_before t)) c.lay_header.ensures.writes in
    let laid : n.told → Leaves c.other-area.result (λ f. Shut f × Laid (head.generation + 1) f) n = λ t. c.in_ok-lay_header.ensures.laid (c.lay_header.ensures.writes.moments.continues.told_before t) in
    let o = g.D.Disk.view c.append.new.disk in
    let three = third head c.other-area.result c.other-area.ensures a c.args.payload.now only lawful n o (g.met.D.Disk.lawful c.lay_header.new.disk) two laid c.append.ensures.writes in
    let end = c.in_ok-end.end in
    let was : o.told → IsWritten head a c.args.payload.now o end = λ t. let now = c.append.ensures.writes.moments.continues.told_before t in
    now_written head c.other-area.result c.other-area.ensures a c.args.payload.now only lawful n o end (g.met.D.Disk.lawful c.lay_header.new.disk) two laid c.in_ok-end.ensures.appended now in
    let d = g.D.Disk.view c.open_area.new.disk in
    let four = fourth head c.other-area.result c.other-area.ensures a c.args.payload.now only lawful o d end c.in_ok-end.ensures.end.1 three was c.open_area.ensures.writes in
    let fits : head.generation < 2 ^ 64 - 1 = subst (λ (h : Head). h.generation < 2 ^ 64 - 1) (sym c.self.view_is) c.requires.next in
    subst (λ (h : Head). Writes a d (CheckpointingPayload a h c.args.payload.now)) c.self.view_is (whole_run head c.other-area.result c.other-area.ensures a c.args.payload.now only lawful d fits four)

pub returns-clause-writes : goal.returns-clause-writes
returns-clause-writes g c =
    let a = g.D.Disk.view c.args.disk.now in
    let head = c.self.inside.head in
    let store = subst (λ (h : Head). a.told → IsSomeStore a h) (sym c.self.view_is) c.requires.store in
    let only : a.told → Only a.seen a.may_leave = λ told. (store told).1.settled in
    let lawful = g.met.D.Disk.lawful c.args.disk.now in
    let m = g.D.Disk.view c.close_area.new.disk in
    let one = first head c.other-area.result c.other-area.ensures a c.args.payload.now only lawful m c.close_area.ensures.writes in
    let n = g.D.Disk.view c.lay_header.new.disk in
    let two = second head c.other-area.result c.other-area.ensures a c.args.payload.now only lawful m n (g.met.D.Disk.lawful c.close_area.new.disk) one (λ t. c.in_ok-close_area.ensures.closed (one.moments.continues.told_before t)) c.lay_header.ensures.writes in
    let laid : n.told → Leaves c.other-area.result (λ f. Shut f × Laid (head.generation + 1) f) n = λ t. c.in_ok-lay_header.ensures.laid (c.lay_header.ensures.writes.moments.continues.told_before t) in
    let o = g.D.Disk.view c.append.new.disk in
    let three = third head c.other-area.result c.other-area.ensures a c.args.payload.now only lawful n o (g.met.D.Disk.lawful c.lay_header.new.disk) two laid c.append.ensures.writes in
    let end = c.in_ok-end.end in
    let was : o.told → IsWritten head a c.args.payload.now o end = λ t. let now = c.append.ensures.writes.moments.continues.told_before t in
    now_written head c.other-area.result c.other-area.ensures a c.args.payload.now only lawful n o end (g.met.D.Disk.lawful c.lay_header.new.disk) two laid c.in_ok-end.ensures.appended now in
    let d = g.D.Disk.view c.open_area.new.disk in
    let four = fourth head c.other-area.result c.other-area.ensures a c.args.payload.now only lawful o d end c.in_ok-end.ensures.end.1 three was c.open_area.ensures.writes in
    let fits : head.generation < 2 ^ 64 - 1 = subst (λ (h : Head). h.generation < 2 ^ 64 - 1) (sym c.self.view_is) c.requires.next in
    subst (λ (h : Head). Writes a d (CheckpointingPayload a h c.args.payload.now)) c.self.view_is (whole_run head c.other-area.result c.other-area.ensures a c.args.payload.now only lawful d fits four)

pub returns-clause-checkpointed : goal.returns-clause-checkpointed
returns-clause-checkpointed g c told =
    let a = g.D.Disk.view c.args.disk.now in
    let head = c.self.inside.head in
    let store = subst (λ (h : Head). a.told → IsSomeStore a h) (sym c.self.view_is) c.requires.store in
    let only : a.told → Only a.seen a.may_leave = λ told. (store told).1.settled in
    let lawful = g.met.D.Disk.lawful c.args.disk.now in
    let m = g.D.Disk.view c.close_area.new.disk in
    let one = first head c.other-area.result c.other-area.ensures a c.args.payload.now only lawful m c.close_area.ensures.writes in
    let n = g.D.Disk.view c.lay_header.new.disk in
    let two = second head c.other-area.result c.other-area.ensures a c.args.payload.now only lawful m n (g.met.D.Disk.lawful c.close_area.new.disk) one (λ t. c.in_ok-close_area.ensures.closed (one.moments.continues.told_before t)) c.lay_header.ensures.writes in
    let laid : n.told → Leaves c.other-area.result (λ f. Shut f × Laid (head.generation + 1) f) n = λ t. c.in_ok-lay_header.ensures.laid (c.lay_header.ensures.writes.moments.continues.told_before t) in
    let o = g.D.Disk.view c.append.new.disk in
    let three = third head c.other-area.result c.other-area.ensures a c.args.payload.now only lawful n o (g.met.D.Disk.lawful c.lay_header.new.disk) two laid c.append.ensures.writes in
    let end = c.in_ok-end.end in
    let was : o.told → IsWritten head a c.args.payload.now o end = λ t. let now = c.append.ensures.writes.moments.continues.told_before t in
    now_written head c.other-area.result c.other-area.ensures a c.args.payload.now only lawful n o end (g.met.D.Disk.lawful c.lay_header.new.disk) two laid c.in_ok-end.ensures.appended now in
    let d = g.D.Disk.view c.open_area.new.disk in
    let four = fourth head c.other-area.result c.other-area.ensures a c.args.payload.now only lawful o d end c.in_ok-end.ensures.end.1 three was c.open_area.ensures.writes in
    let fits : head.generation < 2 ^ 64 - 1 = subst (λ (h : Head). h.generation < 2 ^ 64 - 1) (sym c.self.view_is) c.requires.next in
    let at_o = three.moments.continues.told told in
    let at_d = four.moments.continues.told told in
    let made = done head c.other-area.result c.other-area.ensures a c.args.payload.now only lawful o d end (store told).0 (store told).1 fits c.in_ok-end.ensures.end.1 (g.met.D.Disk.lawful c.open_area.new.disk) at_d four (was at_o) (c.in_ok-open_area.ensures.durable at_o) (c.in_ok-open_area.ensures.opened at_o) in
    subst (λ (h : Head). CheckpointedPayload d h c.behind-self-inside.result c.args.payload.now) c.self.view_is
    (subst (λ (h : Head). CheckpointedPayload d head h c.args.payload.now) (sym (c.behind-self-inside.ensures ∙ ap (λ (h : Head). behind h end) c.first.ensures)) made)
