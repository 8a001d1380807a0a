use Rattle.std.proofs.Common.{◌≡◌, ◌∙◌, Err, List, None, Option, Some, ap, refl, sym}
use Rattle.pl_base.specs.States.{UNDEFINED_FUNCTION}
use Rattle.pl_catalog.specs.Objects.{routine_named, routines_in}
use Rattle.pl_catalog.specs.declared.object.Object.{Object}
use Rattle.pl_catalog.specs.declared.object.Routine.{Routine}
use Rattle.pl_control.proofs.Named.{named, unread}
use Rattle.pl_control.proofs.arguments.resolve_call.Goals as goal
use Rattle.pl_engine.specs.Engines.{world}
use Rattle.pl_typing.specs.declared.fail.ScopeFail.TheVariants as scope
use Rattle.pl_undo.specs.Database.{Database}

pub returns-in_err-all : goal.returns-in_err-all
returns-in_err-all c =
    let w = world c.args.engine.now in
    unread c.args.name c.args.list.now w.database.objects w.frame.static c.in_err-all.field-0.0 c.from_residual.result c.from_residual.ensures c.in_err-all.ensures

pub returns-in-Some : goal.returns-in-Some
returns-in-Some c =
    let w = world c.args.engine.now in
    let is : routine_named c.args.name (routines_in w.database.objects) ≡ Some c.in-Some.routine.now =
    ap (λ (os : List Object). routine_named c.args.name (routines_in os)) (sym (c.catalog.ensures ∙ ap (λ (db : Database). db.objects) c.journal.ensures.now)) ∙ sym c.in-Some.ensures in
    named c.args.name c.args.list.now w.database.objects w.frame.static c.in_ok-all.all (Some c.in-Some.routine.now) c.procedure_of.result c.in_ok-all.ensures is c.procedure_of.ensures

pub returns-in-None : goal.returns-in-None
returns-in-None c =
    let w = world c.args.engine.now in
    let is : routine_named c.args.name (routines_in w.database.objects) ≡ (let o : Option Routine = None in o) =
    ap (λ (os : List Object). routine_named c.args.name (routines_in os)) (sym (c.catalog.ensures ∙ ap (λ (db : Database). db.objects) c.journal.ensures.now)) ∙ sym c.in-None.ensures in
    named c.args.name c.args.list.now w.database.objects w.frame.static c.in_ok-all.all None (Err (scope.State UNDEFINED_FUNCTION)) c.in_ok-all.ensures is refl
