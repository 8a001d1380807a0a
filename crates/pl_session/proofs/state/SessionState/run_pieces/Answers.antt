use Rattle.std.proofs.Common.{inl, inr, ◌≡◌, ◌<◌, ◌≤◌, ◌&&◌, [], List, length, Option, Bool, true, false, refl, sym, ◌∙◌, ap, subst, arith}
use Rattle.std.specs.Prelude.{IfSome}
use Rattle.pl_port.specs.pl_engine.declared.stop.Stop.{Stop}
use Rattle.pl_port.specs.pl_engine.declared.stop.Stop.TheVariants.{Memory}
use Rattle.pl_exec.specs.pl_world.Trace.{Event, is_failed}
use Rattle.pl_session.specs.Endings.{RunsAlong, GoesOn, StopsBy, ended_of}
use Rattle.pl_session.specs.Scripts.{IsNextReading}
use Rattle.pl_session.specs.State.{database_in, session_in}
use Rattle.pl_session.specs.Traces.{events_in}
use Rattle.pl_session.specs.declared.halt.Ended.{Ended}
use Rattle.pl_session.specs.declared.script.Next.{Next}
use Rattle.pl_session.proofs.Ends.{if_err}
use Rattle.pl_session.proofs.Progress.{no_piece, moments_so_far, done_whole, no_error, one_piece, so_many, stopped, stops_by, done_at_error, at_error, leads_whole, leads_at_error}
use Rattle.pl_session.proofs.Traces.{of_trace}
use Rattle.pl_session.proofs.state.SessionState.run_pieces.Goals as goal

pub pieces-init : goal.pieces-init
pieces-init g c = record {
  within = omega arith;
  ready = c.requires.ready;
  short = inr refl;
  progress = no_piece (g.H.Disk.view c.args.host.now) c.args.steps c.args.stops c.args.script.now (session_in c.args.self.now);
}

pub returns-in_err-next-clause-moments : goal.returns-in_err-next-clause-moments
returns-in_err-next-clause-moments g c =
    let a = g.H.Disk.view c.args.host.now in
    let b = g.H.Disk.view c.pieces.host in
    let s = session_in c.args.self.now in
    let db = database_in c.args.self.now in
    let was = c.pieces.invariant.progress in
    of_trace c.args.script.now c.args.steps c.args.stops s (λ (es : List Event). RunsAlong a b es db) (moments_so_far _ _ _ _ _ _ _ _ was)

pub returns-in_err-next-clause-cause : goal.returns-in_err-next-clause-cause
returns-in_err-next-clause-cause g c =
    let a = g.H.Disk.view c.args.host.now in
    let b = g.H.Disk.view c.pieces.host in
    let s = session_in c.args.self.now in
    let was = c.pieces.invariant.progress in
    if_err (λ (why : Stop). StopsBy a b c.args.script.now c.args.steps c.args.stops s why) c.from_residual.result Memory c.from_residual.ensures.1
    (so_many _ _ _ _ _ _ _ _ was c.pieces.self c.pieces.invariant.ready refl)

pub returns-in_default-clause-moments : goal.returns-in_default-clause-moments
returns-in_default-clause-moments g c =
    let a = g.H.Disk.view c.args.host.now in
    let b = g.H.Disk.view c.pieces.host in
    let s = session_in c.args.self.now in
    let db = database_in c.args.self.now in
    let was = c.pieces.invariant.progress in
    of_trace c.args.script.now c.args.steps c.args.stops s (λ (es : List Event). RunsAlong a b es db) (moments_so_far _ _ _ _ _ _ _ _ was)

pub returns-in_default-clause-done : goal.returns-in_default-clause-done
returns-in_default-clause-done g c =
    let a = g.H.Disk.view c.args.host.now in
    let b = g.H.Disk.view c.pieces.host in
    let s = session_in c.args.self.now in
    let was = c.pieces.invariant.progress in
    let none : was.rest ≡ [] = subst (λ (o : Option Next). IsNextReading c.args.script.now was.rest o) c.in_default.is (c.in_ok-next.ensures.next was.rest was.left) in
    of_trace c.args.script.now c.args.steps c.args.stops s (λ (es : List Event). GoesOn a b c.args.self.now c.pieces.self es)
    (done_whole _ _ _ _ _ _ _ _ was none c.args.self.now c.pieces.self refl refl c.pieces.invariant.ready)

pub returns-in_default-clause-ended : goal.returns-in_default-clause-ended
returns-in_default-clause-ended g c =
    let s = session_in c.args.self.now in
    let was = c.pieces.invariant.progress in
    let none : was.rest ≡ [] = subst (λ (o : Option Next). IsNextReading c.args.script.now was.rest o) c.in_default.is (c.in_ok-next.ensures.next was.rest was.left) in
    of_trace c.args.script.now c.args.steps c.args.stops s (λ (es : List Event). Ended.Whole ≡ ended_of (c.args.stops && is_failed es))
    (ap (λ (b : Bool). ended_of b) (sym (no_error _ _ _ _ _ _ _ _ was none)))

pub returns-in_default-clause-session : goal.returns-in_default-clause-session
returns-in_default-clause-session g c =
    let was = c.pieces.invariant.progress in
    let none : was.rest ≡ [] = subst (λ (o : Option Next). IsNextReading c.args.script.now was.rest o) c.in_default.is (c.in_ok-next.ensures.next was.rest was.left) in
    leads_whole _ _ _ _ _ _ _ _ was none

pub returns-in_default-clause-short : goal.returns-in_default-clause-short
returns-in_default-clause-short g c =
    c.pieces.invariant.short

pub returns-in_err-failed-clause-moments : goal.returns-in_err-failed-clause-moments
returns-in_err-failed-clause-moments g c =
    let a = g.H.Disk.view c.args.host.now in
    let d = g.H.Disk.view c.run_piece.new.host in
    let s = session_in c.args.self.now in
    let db = database_in c.args.self.now in
    let was = c.pieces.invariant.progress in
    let next = subst (λ (o : Option Next). IsNextReading c.args.script.now was.rest o) c.in-Some.is (c.in_ok-next.ensures.next was.rest was.left) in
    of_trace c.args.script.now c.args.steps c.args.stops s (λ (es : List Event). RunsAlong a d es db) (stopped _ _ _ _ _ _ _ _ was _ c.in-Some.next.reading next.0 next.1 c.run_piece.ensures.moments)

pub returns-in_err-failed-clause-cause : goal.returns-in_err-failed-clause-cause
returns-in_err-failed-clause-cause g c =
    let a = g.H.Disk.view c.args.host.now in
    let d = g.H.Disk.view c.run_piece.new.host in
    let s = session_in c.args.self.now in
    let was = c.pieces.invariant.progress in
    let next = subst (λ (o : Option Next). IsNextReading c.args.script.now was.rest o) c.in-Some.is (c.in_ok-next.ensures.next was.rest was.left) in
    if_err (λ (why : Stop). StopsBy a d c.args.script.now c.args.steps c.args.stops s why) c.from_residual-in_err-failed.result c.in_err-failed.field-0.0 c.from_residual-in_err-failed.ensures.1
    (stops_by _ _ _ _ _ _ _ _ was _ c.in-Some.next.reading next.0 next.1 c.run_piece.ensures.moments c.in_err-failed.field-0.0 c.in_err-failed.ensures.ended)

pub returns-then-ends_at-clause-moments : goal.returns-then-ends_at-clause-moments
returns-then-ends_at-clause-moments g c =
    let a = g.H.Disk.view c.args.host.now in
    let d = g.H.Disk.view c.run_piece.new.host in
    let s = session_in c.args.self.now in
    let db = database_in c.args.self.now in
    let was = c.pieces.invariant.progress in
    let next = subst (λ (o : Option Next). IsNextReading c.args.script.now was.rest o) c.in-Some.is (c.in_ok-next.ensures.next was.rest was.left) in
    of_trace c.args.script.now c.args.steps c.args.stops s (λ (es : List Event). RunsAlong a d es db) (stopped _ _ _ _ _ _ _ _ was _ c.in-Some.next.reading next.0 next.1 c.run_piece.ensures.moments)

pub returns-then-ends_at-clause-done : goal.returns-then-ends_at-clause-done
returns-then-ends_at-clause-done g c =
    let a = g.H.Disk.view c.args.host.now in
    let d = g.H.Disk.view c.run_piece.new.host in
    let s = session_in c.args.self.now in
    let was = c.pieces.invariant.progress in
    let next = subst (λ (o : Option Next). IsNextReading c.args.script.now was.rest o) c.in-Some.is (c.in_ok-next.ensures.next was.rest was.left) in
    let error : (c.args.stops && is_failed (events_in c.args.steps c.in-Some.next.reading (session_in c.pieces.self))) ≡ true = ap (λ (b : Bool). c.args.stops && b) (sym c.in_ok-failed.ensures.ended.2) ∙ sym c.ends_at.ensures ∙ c.if-ends_at.true in
    let done = c.in_ok-failed.ensures.ended.0 in
    of_trace c.args.script.now c.args.steps c.args.stops s (λ (es : List Event). GoesOn a d c.args.self.now c.run_piece.new.self es)
    (done_at_error _ _ _ _ _ _ _ _ was _ c.in-Some.next.reading next.0 next.1 c.run_piece.ensures.moments error c.args.self.now c.run_piece.new.self refl done.ready done.database done.printed)

pub returns-then-ends_at-clause-ended : goal.returns-then-ends_at-clause-ended
returns-then-ends_at-clause-ended g c =
    let s = session_in c.args.self.now in
    let was = c.pieces.invariant.progress in
    let next = subst (λ (o : Option Next). IsNextReading c.args.script.now was.rest o) c.in-Some.is (c.in_ok-next.ensures.next was.rest was.left) in
    let error : (c.args.stops && is_failed (events_in c.args.steps c.in-Some.next.reading (session_in c.pieces.self))) ≡ true = ap (λ (b : Bool). c.args.stops && b) (sym c.in_ok-failed.ensures.ended.2) ∙ sym c.ends_at.ensures ∙ c.if-ends_at.true in
    of_trace c.args.script.now c.args.steps c.args.stops s (λ (es : List Event). Ended.AtError ≡ ended_of (c.args.stops && is_failed es))
    (ap (λ (b : Bool). ended_of b) (sym (at_error _ _ _ _ _ _ _ _ was _ c.in-Some.next.reading next.0 next.1 c.run_piece.ensures.moments error)))

pub returns-then-ends_at-clause-session : goal.returns-then-ends_at-clause-session
returns-then-ends_at-clause-session g c =
    let was = c.pieces.invariant.progress in
    let next = subst (λ (o : Option Next). IsNextReading c.args.script.now was.rest o) c.in-Some.is (c.in_ok-next.ensures.next was.rest was.left) in
    let error : (c.args.stops && is_failed (events_in c.args.steps c.in-Some.next.reading (session_in c.pieces.self))) ≡ true = ap (λ (b : Bool). c.args.stops && b) (sym c.in_ok-failed.ensures.ended.2) ∙ sym c.ends_at.ensures ∙ c.if-ends_at.true in
    leads_at_error _ _ _ _ _ _ _ _ was _ c.in-Some.next.reading next.0 next.1 c.run_piece.ensures.moments error (session_in c.run_piece.new.self) c.in_ok-failed.ensures.ended.1

pub returns-then-ends_at-clause-short : goal.returns-then-ends_at-clause-short
returns-then-ends_at-clause-short g c =
    inl c.in_ok-failed.ensures.short

pub pieces-preserved : goal.pieces-preserved
pieces-preserved g c =
    let was = c.pieces.invariant.progress in
    let on = subst (λ (o : Option Next). IfSome o (λ n. (c.pieces.at < n.after) × (n.after ≤ length c.args.script.now))) c.in-Some.is c.in_ok-next.ensures.on in
    let next = subst (λ (o : Option Next). IsNextReading c.args.script.now was.rest o) c.in-Some.is (c.in_ok-next.ensures.next was.rest was.left) in
    let goes_on : (c.args.stops && is_failed (events_in c.args.steps c.in-Some.next.reading (session_in c.pieces.self))) ≡ false = ap (λ (b : Bool). c.args.stops && b) (sym c.in_ok-failed.ensures.ended.2) ∙ sym c.ends_at.ensures ∙ c.if-ends_at.false in
    let done = c.in_ok-failed.ensures.ended.0 in
    record {
      within = on.1;
      ready = done.ready;
      short = inl c.in_ok-failed.ensures.short;
      progress = one_piece _ _ _ _ _ _ _ _ was _ c.in-Some.next.reading next.0 next.1 c.run_piece.ensures.moments _ _ next.2 goes_on done.printed c.in_ok-failed.ensures.ended.1 done.database;
    }
