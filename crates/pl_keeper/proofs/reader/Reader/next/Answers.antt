use Rattle.std.proofs.Common.{◌≡◌, ◌<◌, ◌^◌, ◌∙◌, [], ◌∷◌, ◌++◌, Option, Some, None, IfSome, arith, sym, ap, subst}
use Rattle.std.specs.Prelude.{option_map}
use Rattle.pl_base.specs.Image.{file}
use Rattle.pl_codec.specs.Reading.{operations_of}
use Rattle.pl_frames.specs.Frame.{IsRead, BreaksAt}
use Rattle.pl_frames.specs.declared.frame.Frame.{Frame}
use Rattle.pl_keeper.specs.Store.{DamagedAt, IsReading, IsSomeReading, IsStore}
use Rattle.pl_keeper.specs.declared.head.Head.{Head}
use Rattle.pl_keeper.proofs.Along.{bad, gate_damage, reads_end, reads_on}
use Rattle.pl_keeper.proofs.Causes.{handed_on}
use Rattle.pl_keeper.proofs.reader.Reader.next.Goals as goal

pub next_frame-requires-clause-there : goal.next_frame-requires-clause-there
next_frame-requires-clause-there g c told =
    let a = g.D.Disk.view c.args.disk.now in
    let is = subst (λ (h : Head). IsSomeReading a h) (sym c.self.view_is) (c.requires.reading told) in
    is.1.read.gate

pub returns-in_err-frame-clause-cause : goal.returns-in_err-frame-clause-cause
returns-in_err-frame-clause-cause g c =
    let a = g.D.Disk.view c.args.disk.now in
    let b = g.D.Disk.view c.next_frame.new.disk in
    let head = c.self.inside.head in
    let reading = subst (λ (h : Head). a.told → IsSomeReading a h) (sym c.self.view_is) c.requires.reading in
    handed_on (BreaksAt head.area head.end a) (DamagedAt a) a b a b c.from_residual.result c.in_err-frame.field-0.0 c.from_residual.ensures.1
    (gate_damage a head c.self.invariant.0 reading) (omega arith) c.next_frame.ensures.looks.continues.disk_faults (omega arith) c.in_err-frame.ensures.cause

pub returns-in_default-clause-step : goal.returns-in_default-clause-step
returns-in_default-clause-step g c told list reading =
    let a = g.D.Disk.view c.args.disk.now in
    let b = g.D.Disk.view c.next_frame.new.disk in
    let head = c.self.inside.head in
    let was = subst (λ (h : Head). IsReading a h list) (sym c.self.view_is) reading in
    subst (λ (h : Head). IsStore b h list) (sym c.new.ensures)
    (reads_end a b told c.next_frame.ensures.looks head list was c.self.invariant.0 (subst (λ (o : Option Frame). IsRead (file head.area a.seen) head.end o) c.in_default.is (c.in_ok-frame.ensures.read told)))

pub returns-in_default-2-clause-cause : goal.returns-in_default-2-clause-cause
returns-in_default-2-clause-cause g c told =
    let a = g.D.Disk.view c.args.disk.now in
    let head = c.self.inside.head in
    let was = subst (λ (h : Head). IsSomeReading a h) (sym c.self.view_is) (c.requires.reading told) in
    let frame = c.in-Some.frame in
    let read = subst (λ (o : Option Frame). IsRead (file head.area a.seen) head.end o) c.in-Some.is (c.in_ok-frame.ensures.read told) in
    let small : frame.end < 2 ^ 63 = (subst (λ (o : Option Frame). IfSome o (λ f. (head.end < f.end) × (f.end < 2 ^ 63))) c.in-Some.is c.in_ok-frame.ensures.end).1 in
    let fails : operations_of frame.payload ≡ None = ap operations_of (sym c.as_slice.ensures) ∙ sym c.in_ok-ops.ensures.read ∙ ap (λ o. option_map (λ ops. ops.items) o) c.in_default-2.is in
    bad head a.seen was.0 was.1.read c.self.invariant.0 frame.payload frame.end read.0 read.1 read.2 small fails

pub returns-clause-step : goal.returns-clause-step
returns-clause-step g c told list reading =
    let a = g.D.Disk.view c.args.disk.now in
    let b = g.D.Disk.view c.next_frame.new.disk in
    let head = c.self.inside.head in
    let was = subst (λ (h : Head). IsReading a h list) (sym c.self.view_is) reading in
    let frame = c.in-Some.frame in
    let read = subst (λ (o : Option Frame). IsRead (file head.area a.seen) head.end o) c.in-Some.is (c.in_ok-frame.ensures.read told) in
    let spelled : operations_of frame.payload ≡ Some c.in-Some-2.ops.items = ap operations_of (sym c.as_slice.ensures) ∙ sym c.in_ok-ops.ensures.read ∙ ap (λ o. option_map (λ ops. ops.items) o) c.in-Some-2.is in
    let on = reads_on a b told c.next_frame.ensures.looks head list was c.self.invariant.0 frame c.in-Some-2.ops.items read spelled in
    (ap (λ (h : Head). h.end) c.self.view_is, subst (λ (h : Head). IsReading b h (list ++ (head.end, c.in-Some-2.ops.items) ∷ [])) (sym c.behind.ensures) on)
