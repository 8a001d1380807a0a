use Rattle.std.proofs.Common.{◌≡◌, ◌∙◌, List, Some, ap, sym}
use Rattle.pl_calling.proofs.Entered.{found_named}
use Rattle.pl_calling.proofs.callee.find.Goals as goal
use Rattle.pl_catalog.specs.Objects.{routine_named, routines_in}
use Rattle.pl_catalog.specs.declared.object.Object.{Object}
use Rattle.pl_engine.specs.Engines.{world}
use Rattle.pl_undo.specs.Database.{Database}
use Rattle.pl_engine.specs.pl_world.Calls.{callee_of}

pub returns-in_ok-hold-in-Some : goal.returns-in_ok-hold-in-Some
returns-in_ok-hold-in-Some c =
    let named : routine_named c.args.name (routines_in (world c.args.engine.now).database.objects) ≡ Some c.in-Some.routine.now =
    ap (λ (os : List Object). routine_named c.args.name (routines_in os)) (sym (c.catalog.ensures ∙ ap (λ (db : Database). db.objects) c.journal.ensures.now)) ∙ sym c.in-Some.ensures in
    (callee_of c.args.is_command c.in-Some.routine.now, c.in_ok-hold-in-Some.ensures c.args.is_command, found_named c.args.is_command c.in-Some.routine.now c.args.name c.args.values.now (world c.args.engine.now) named (sym c.can_be_called.ensures ∙ c.if-can_be_called.true))
