use Rattle.std.proofs.Common.{refl}
use Rattle.pl_control.proofs.of_pl_engine.Joins.{acted, before, ended, lawful, refused}
use Rattle.pl_control.specs.pl_engine.Engines.{world}
use Rattle.pl_control.specs.pl_engine.Texts.{do_bodies}
use Rattle.pl_exec.proofs.Acts.{begun, of_again, of_diagnostics, of_null, of_rollback, of_stacked, of_waiting}
use Rattle.pl_exec.proofs.simple.run_simple.Goals as goal
use Rattle.pl_world.specs.Statements.{runner_for, simple_form}

pub returns-in-Null-clause-is : goal.returns-in-Null-clause-is
returns-in-Null-clause-is g c =
    let law = lawful g.P.Port g.met.P.Port.none g.met.P.Port.joins g.met.P.Port.rises in
    let r = runner_for do_bodies c.args.runner.now.room in
    let w = world c.args.engine.now in
    ended law (begun law (simple_form r c.args.at c.args.s.now w) _ c.args.engine.now c.args.port.now c.requires.fits (of_null r c.args.at w c.in-Null.is)) refl

pub returns-in-Rollback-clause-is : goal.returns-in-Rollback-clause-is
returns-in-Rollback-clause-is g c =
    let law = lawful g.P.Port g.met.P.Port.none g.met.P.Port.joins g.met.P.Port.rises in
    let r = runner_for do_bodies c.args.runner.now.room in
    let w = world c.args.engine.now in
    acted law (begun law (simple_form r c.args.at c.args.s.now w) _ c.args.engine.now c.args.port.now c.requires.fits (of_rollback r c.args.at w c.in-Rollback.is)) c.roll_back.ensures.is

pub returns-in_err-again-in-RaiseAgain-clause-is : goal.returns-in_err-again-in-RaiseAgain-clause-is
returns-in_err-again-in-RaiseAgain-clause-is g c =
    let law = lawful g.P.Port g.met.P.Port.none g.met.P.Port.joins g.met.P.Port.rises in
    refused _ _ _ c.from_residual.ensures (before law refl)

pub returns-in_ok-again-in-RaiseAgain-clause-is : goal.returns-in_ok-again-in-RaiseAgain-clause-is
returns-in_ok-again-in-RaiseAgain-clause-is g c =
    let law = lawful g.P.Port g.met.P.Port.none g.met.P.Port.joins g.met.P.Port.rises in
    let r = runner_for do_bodies c.args.runner.now.room in
    let w = world c.args.engine.now in
    acted law (begun law (simple_form r c.args.at c.args.s.now w) _ c.args.engine.now c.args.port.now c.requires.fits (of_again r c.args.at w c.in-RaiseAgain.is)) c.in_ok-again-in-RaiseAgain.ensures

pub returns-in_err-diagnose-in-GetDiagnostics-clause-is : goal.returns-in_err-diagnose-in-GetDiagnostics-clause-is
returns-in_err-diagnose-in-GetDiagnostics-clause-is g c =
    let law = lawful g.P.Port g.met.P.Port.none g.met.P.Port.joins g.met.P.Port.rises in
    refused _ _ _ c.from_residual-in_err-diagnose-in-GetDiagnostics.ensures (before law refl)

pub returns-in_ok-diagnose-in-GetDiagnostics-clause-is : goal.returns-in_ok-diagnose-in-GetDiagnostics-clause-is
returns-in_ok-diagnose-in-GetDiagnostics-clause-is g c =
    let law = lawful g.P.Port g.met.P.Port.none g.met.P.Port.joins g.met.P.Port.rises in
    let r = runner_for do_bodies c.args.runner.now.room in
    let w = world c.args.engine.now in
    acted law (begun law (simple_form r c.args.at c.args.s.now w) _ c.args.engine.now c.args.port.now c.requires.fits
    (of_diagnostics r c.args.at w c.as_slice.result.now _ c.in-GetDiagnostics.is c.as_slice.ensures)) c.in_ok-diagnose-in-GetDiagnostics.ensures.is

pub returns-in_err-diagnose_stacked-in-GetStackedDiagnostics-clause-is : goal.returns-in_err-diagnose_stacked-in-GetStackedDiagnostics-clause-is
returns-in_err-diagnose_stacked-in-GetStackedDiagnostics-clause-is g c =
    let law = lawful g.P.Port g.met.P.Port.none g.met.P.Port.joins g.met.P.Port.rises in
    refused _ _ _ c.from_residual-in_err-diagnose_stacked-in-GetStackedDiagnostics.ensures (before law refl)

pub returns-in_ok-diagnose_stacked-in-GetStackedDiagnostics-clause-is : goal.returns-in_ok-diagnose_stacked-in-GetStackedDiagnostics-clause-is
returns-in_ok-diagnose_stacked-in-GetStackedDiagnostics-clause-is g c =
    let law = lawful g.P.Port g.met.P.Port.none g.met.P.Port.joins g.met.P.Port.rises in
    let r = runner_for do_bodies c.args.runner.now.room in
    let w = world c.args.engine.now in
    acted law (begun law (simple_form r c.args.at c.args.s.now w) _ c.args.engine.now c.args.port.now c.requires.fits
    (of_stacked r c.args.at w c.as_slice-in-GetStackedDiagnostics.result.now _ c.in-GetStackedDiagnostics.is c.as_slice-in-GetStackedDiagnostics.ensures)) c.in_ok-diagnose_stacked-in-GetStackedDiagnostics.ensures.is

pub returns-in-ReturnNext-clause-is : goal.returns-in-ReturnNext-clause-is
returns-in-ReturnNext-clause-is g c =
    let law = lawful g.P.Port g.met.P.Port.none g.met.P.Port.joins g.met.P.Port.rises in
    let r = runner_for do_bodies c.args.runner.now.room in
    let w = world c.args.engine.now in
    acted law (begun law (simple_form r c.args.at c.args.s.now w) _ c.args.engine.now c.args.port.now c.requires.fits (of_waiting r c.args.at w c.in-ReturnNext.is)) c.raise-in-ReturnNext.ensures
