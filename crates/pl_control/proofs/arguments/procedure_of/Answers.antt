use Rattle.std.proofs.Common.{◌∙◌, ap, refl}
use Rattle.pl_control.proofs.Named.{is_function, is_procedure, lost, not_fitted}
use Rattle.pl_control.proofs.arguments.procedure_of.Goals as goal
use Rattle.pl_names.specs.Routines.{types_of}
use Rattle.pl_engine.specs.pl_world.Resolving.{procedure}
use Rattle.std.specs.Prelude.{Some}

pub returns-in_err-types : goal.returns-in_err-types
returns-in_err-types c = lost (procedure (Some c.args.routine.now) c.args.all) c.from_residual.result c.from_residual.ensures

pub returns-in_err-arguments : goal.returns-in_err-arguments
returns-in_err-arguments c = not_fitted c.args.routine.now c.args.all c.as_slice-2.result.now (c.as_slice-2.ensures ∙ (c.in_ok-types.ensures ∙ ap types_of c.as_slice.ensures)) c.in_err-arguments.field-0.0 c.from_residual-in_err-arguments.result c.from_residual-in_err-arguments.ensures c.in_err-arguments.ensures

pub returns-in-Procedure : goal.returns-in-Procedure
returns-in-Procedure c = is_procedure c.args.routine.now c.args.all c.as_slice-2.result.now (c.as_slice-2.ensures ∙ (c.in_ok-types.ensures ∙ ap types_of c.as_slice.ensures)) c.in_ok-arguments.arguments c.in-Procedure.is c.in_ok-arguments.ensures

pub returns : goal.returns
returns c = is_function c.args.routine.now c.args.all c.as_slice-2.result.now (c.as_slice-2.ensures ∙ (c.in_ok-types.ensures ∙ ap types_of c.as_slice.ensures)) c.in_ok-arguments.arguments _ c.in-Function.is c.in_ok-arguments.ensures refl
