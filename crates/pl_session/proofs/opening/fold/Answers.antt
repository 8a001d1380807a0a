use Rattle.std.proofs.Common.{◌∙◌, ℕ, ◌++◌, ◌∷◌, [], Option, Result, Ok, ap, subst, sym}
use Rattle.pl_disk.specs.Lent.{looks_on, no_look}
use Rattle.pl_keeper.specs.Reading.{IsStep, ReadsOn}
use Rattle.pl_keeper.specs.Store.{stored}
use Rattle.pl_keeper.specs.declared.reader.Step.{Step}
use Rattle.pl_undo.specs.Database.{Database}
use Rattle.pl_session.specs.Steps.{Reaches}
use Rattle.pl_session.proofs.Folding.{read_failed, stopped_at}
use Rattle.pl_session.proofs.opening.fold.Goals as goal

pub returns-in_err-step-clause-cause : goal.returns-in_err-step-clause-cause
returns-in_err-step-clause-cause g c =
    read_failed (g.H.Disk.view c.args.host.now) (g.H.Disk.view c.batches.host) (g.H.Disk.view c.next.new.disk) c.batches.invariant.looks c.next.ensures.looks c.in_err-step.field-0.0 c.from_residual.result c.from_residual.ensures.1 c.in_err-step.ensures.cause

pub batches-init : goal.batches-init
batches-init g c = record {
  place = c.requires.place;
  looks = no_look (g.H.Disk.view c.args.host.now);
  folded = λ told. record { list = []; reading = c.requires.reading told; reaches = ap (λ (d : Database). let r : Result Database ℕ = Ok d in r) (sym c.new-journal.ensures.now) };
  settled = c.new-journal.ensures.last ∙ sym c.new-journal.ensures.now;
  unmarked = c.new-journal.ensures.marks;
}

pub batches-preserved : goal.batches-preserved
batches-preserved g c =
    let was = c.batches.invariant in
    let d = g.H.Disk.view c.next.new.disk in
    let reader = c.batches.reader in
    record {
      place = (subst (λ (s : Step). ReadsOn reader s) c.in-Read.is c.in_ok-step.ensures.on).1;
      looks = looks_on _ _ _ was.looks c.next.ensures.looks;
      folded = λ told.
          let before = c.next.ensures.looks.continues.told_before told in
          let folded = was.folded before in
          let step = subst (λ (s : Step). IsStep d reader folded.list s) c.in-Read.is (c.in_ok-step.ensures.step before folded.list folded.reading) in
          record { list = folded.list ++ stored c.in-Read.batch ∷ []; reading = step.1; reaches = c.in_ok-stopped-in-Read.ensures.reaches folded.list folded.reaches };
      settled = c.apply_next.ensures.settled;
      unmarked = c.apply_next.ensures.unmarked;
    }

pub returns-in_default-clause-settled : goal.returns-in_default-clause-settled
returns-in_default-clause-settled g c = c.batches.invariant.settled

pub returns-in_default-clause-unmarked : goal.returns-in_default-clause-unmarked
returns-in_default-clause-unmarked g c = c.batches.invariant.unmarked

pub returns-in_default-clause-folded : goal.returns-in_default-clause-folded
returns-in_default-clause-folded g c told =
    let before = c.batches.invariant.looks.continues.told told in
    let folded = c.batches.invariant.folded before in
    let d = g.H.Disk.view c.next.new.disk in
    let store = subst (λ (s : Step). IsStep d c.batches.reader folded.list s) c.in-End.is (c.in_ok-step.ensures.step before folded.list folded.reading) in
    record { list = folded.list; store = store; leads = subst (λ (o : Option ℕ). Reaches folded.list c.batches.journal.now o) c.in_default.is folded.reaches }

pub returns-in-End-clause-cause : goal.returns-in-End-clause-cause
returns-in-End-clause-cause g c told =
    let was = c.batches.invariant in
    let before = was.looks.continues.told told in
    let folded = was.folded before in
    let a = g.H.Disk.view c.args.host.now in
    let d = g.H.Disk.view c.next.new.disk in
    let store = subst (λ (s : Step). IsStep d c.batches.reader folded.list s) c.in-End.is (c.in_ok-step.ensures.step before folded.list folded.reading) in
    stopped_at a d told (looks_on _ _ _ was.looks c.next.ensures.looks) c.in-End.keeper folded.list c.batches.journal.now c.head-area.result.0 c.in-Some.at store
    (subst (λ (o : Option ℕ). Reaches folded.list c.batches.journal.now o) c.in-Some.is folded.reaches) c.head-area.ensures.area

pub returns-in_err-step-clause-looks : goal.returns-in_err-step-clause-looks
returns-in_err-step-clause-looks g c = looks_on _ _ _ c.batches.invariant.looks c.next.ensures.looks

pub returns-in_err-stopped-in-Read-clause-looks : goal.returns-in_err-stopped-in-Read-clause-looks
returns-in_err-stopped-in-Read-clause-looks g c = looks_on _ _ _ c.batches.invariant.looks c.next.ensures.looks

pub returns-in_default-clause-looks : goal.returns-in_default-clause-looks
returns-in_default-clause-looks g c = looks_on _ _ _ c.batches.invariant.looks c.next.ensures.looks

pub returns-in-End-clause-looks : goal.returns-in-End-clause-looks
returns-in-End-clause-looks g c = looks_on _ _ _ c.batches.invariant.looks c.next.ensures.looks
