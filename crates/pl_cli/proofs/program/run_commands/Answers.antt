use Rattle.std.proofs.Common.{⊎_elim, ◌≡◌, ◌∙◌, Bool, true, false, Result, Ok, refl, sym, ap}
use Rattle.pl_undo.specs.Database.{Database}
use Rattle.pl_keeper.specs.Batches.{Damage}
use Rattle.pl_session.specs.Endings.{ended_of}
use Rattle.pl_session.specs.State.{session_in}
use Rattle.pl_session.specs.declared.halt.Ended.TheVariants.{Whole, AtError}
use Rattle.pl_cli.proofs.Runs.{short_image}
use Rattle.pl_cli.proofs.Traces.{some_trace}
use Rattle.pl_cli.proofs.program.run_commands.Goals as goal

whole_is : (b : Bool) → Whole ≡ ended_of b → b ≡ false
whole_is false is = refl
whole_is true is = absurd (cc)

error_is : (b : Bool) → AtError ≡ ended_of b → b ≡ true
error_is true is = refl
error_is false is = absurd (cc)

as_ok : (a b : Database) → a ≡ b → (let r : Result Database Damage = Ok a in r) ≡ Ok b
as_ok a b is = ap (λ (d : Database). let r : Result Database Damage = Ok d in r) is

pub returns-in-Ok-Whole-clause-ended : goal.returns-in-Ok-Whole-clause-ended
returns-in-Ok-Whole-clause-ended g c events traced =
    let done = c.in-Ok-Whole.ensures.done events traced in (
      λ told. record {
        printed = done.printed told;
        opens_to = λ i left. done.ready.opens_to ((c.run_script.ensures.moments events traced).continues.told told) i left ∙ as_ok _ _ done.database;
      },
      whole_is _ (sym c.in-Ok-Whole.field-0-is ∙ c.in-Ok-Whole.ensures.ended events traced),
    )

pub returns-in-Ok-AtError-clause-ended : goal.returns-in-Ok-AtError-clause-ended
returns-in-Ok-AtError-clause-ended g c events traced =
    let done = c.in-Ok-AtError.ensures.done events traced in (
      λ told. record {
        printed = done.printed told;
        opens_to = λ i left. done.ready.opens_to ((c.run_script.ensures.moments events traced).continues.told told) i left ∙ as_ok _ _ done.database;
      },
      error_is _ (sym c.in-Ok-AtError.field-0-is ∙ c.in-Ok-AtError.ensures.ended events traced),
    )

pub returns-in-Ok-Whole-clause-continues : goal.returns-in-Ok-Whole-clause-continues
returns-in-Ok-Whole-clause-continues g c = let t = some_trace c.args.script.now c.args.steps c.args.stops (session_in c.args.state.now) in (c.run_script.ensures.moments t.0 t.1).continues

pub returns-in-Ok-AtError-clause-continues : goal.returns-in-Ok-AtError-clause-continues
returns-in-Ok-AtError-clause-continues g c = let t = some_trace c.args.script.now c.args.steps c.args.stops (session_in c.args.state.now) in (c.run_script.ensures.moments t.0 t.1).continues

pub returns-in-Err-Stopped-Disk-clause-continues : goal.returns-in-Err-Stopped-Disk-clause-continues
returns-in-Err-Stopped-Disk-clause-continues g c = let t = some_trace c.args.script.now c.args.steps c.args.stops (session_in c.args.state.now) in (c.run_script.ensures.moments t.0 t.1).continues

pub returns-in-Err-Stopped-Say-clause-continues : goal.returns-in-Err-Stopped-Say-clause-continues
returns-in-Err-Stopped-Say-clause-continues g c = let t = some_trace c.args.script.now c.args.steps c.args.stops (session_in c.args.state.now) in (c.run_script.ensures.moments t.0 t.1).continues

pub returns-in-Err-Stopped-Memory-clause-continues : goal.returns-in-Err-Stopped-Memory-clause-continues
returns-in-Err-Stopped-Memory-clause-continues g c = let t = some_trace c.args.script.now c.args.steps c.args.stops (session_in c.args.state.now) in (c.run_script.ensures.moments t.0 t.1).continues

pub returns-in-Ok-Whole-clause-short : goal.returns-in-Ok-Whole-clause-short
returns-in-Ok-Whole-clause-short g c is idle told i left =
    let t = some_trace c.args.script.now c.args.steps c.args.stops (session_in c.args.state.now) in
    short_image (g.H.Disk.view c.run_script.new.host) c.run_script.new.self c.args.host.now c.run_script.new.host c.in-Ok-Whole.ensures.ready_again ((c.run_script.ensures.moments t.0 t.1).continues.told told) idle c.in-Ok-Whole.ensures.short i left

pub returns-in-Ok-AtError-clause-short : goal.returns-in-Ok-AtError-clause-short
returns-in-Ok-AtError-clause-short g c is idle told i left =
    let t = some_trace c.args.script.now c.args.steps c.args.stops (session_in c.args.state.now) in
    short_image (g.H.Disk.view c.run_script.new.host) c.run_script.new.self c.args.host.now c.run_script.new.host c.in-Ok-AtError.ensures.ready_again ((c.run_script.ensures.moments t.0 t.1).continues.told told) idle c.in-Ok-AtError.ensures.short i left

pub returns-in-Err-Stopped-Disk-clause-short : goal.returns-in-Err-Stopped-Disk-clause-short
returns-in-Err-Stopped-Disk-clause-short g c is idle told i left = absurd (⊎_elim (λ h. cc) (λ h. cc) is)

pub returns-in-Err-Stopped-Say-clause-short : goal.returns-in-Err-Stopped-Say-clause-short
returns-in-Err-Stopped-Say-clause-short g c is idle told i left = absurd (⊎_elim (λ h. cc) (λ h. cc) is)

pub returns-in-Err-Stopped-Memory-clause-short : goal.returns-in-Err-Stopped-Memory-clause-short
returns-in-Err-Stopped-Memory-clause-short g c is idle told i left = absurd (⊎_elim (λ h. cc) (λ h. cc) is)

pub returns-in-Ok-Whole-clause-session : goal.returns-in-Ok-Whole-clause-session
returns-in-Ok-Whole-clause-session g c is = c.in-Ok-Whole.ensures.session

pub returns-in-Ok-AtError-clause-session : goal.returns-in-Ok-AtError-clause-session
returns-in-Ok-AtError-clause-session g c is = c.in-Ok-AtError.ensures.session

pub returns-in-Err-Stopped-Disk-clause-session : goal.returns-in-Err-Stopped-Disk-clause-session
returns-in-Err-Stopped-Disk-clause-session g c is = absurd (⊎_elim (λ h. cc) (λ h. cc) is)

pub returns-in-Err-Stopped-Say-clause-session : goal.returns-in-Err-Stopped-Say-clause-session
returns-in-Err-Stopped-Say-clause-session g c is = absurd (⊎_elim (λ h. cc) (λ h. cc) is)

pub returns-in-Err-Stopped-Memory-clause-session : goal.returns-in-Err-Stopped-Memory-clause-session
returns-in-Err-Stopped-Memory-clause-session g c is = absurd (⊎_elim (λ h. cc) (λ h. cc) is)
