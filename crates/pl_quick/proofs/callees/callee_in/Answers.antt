use Rattle.std.proofs.Common.{◌≡◌, ◌∙◌, ℕ, List, Some, ap, arith, length, nat_lt, subst, sym, true}
use Rattle.std.proofs.lemmas.Bool.Decides.{nat_tests}
use Rattle.std.proofs.lemmas.Option.{IfSome_then}
use Rattle.pl_catalog.specs.Objects.{routine_named, routines_in}
use Rattle.pl_catalog.specs.declared.object.Object.{Object}
use Rattle.pl_direct.specs.pl_scope.declared.resolve.ResolvedExpr.{ResolvedExpr}
use Rattle.pl_engine.specs.Engines.{world}
use Rattle.pl_engine.specs.pl_world.Calls.{most_calls}
use Rattle.pl_quick.proofs.callees.callee_in.Goals as goal
use Rattle.pl_quick.specs.Acts.{IsCallee}
use Rattle.pl_undo.specs.Database.{Database}

pub returns : goal.returns
returns c =
    let tree : c.get-2.result.now ≡ c.args.e.now.typed.tree = c.get-2.ensures ∙ ap (λ (x : ResolvedExpr). x.typed.tree) c.get.ensures in
    let few : nat_lt (length (world c.args.engine.now).below) most_calls ≡ true = let is = c.calls.ensures in let lt = c.if-calls-ge-MOST_CALLS.false in grind (arith, nat_tests, is, lt) in
    let named : routine_named c.in-Call.routine (routines_in (world c.args.engine.now).database.objects) ≡ Some c.in_ok-routine.routine.now =
    ap (λ (os : List Object). routine_named c.in-Call.routine (routines_in os)) (sym (c.catalog.ensures ∙ ap (λ (db : Database). db.objects) c.journal.ensures.now)) ∙ sym c.in_ok-routine.ensures in
    IfSome_then c.callee_for.result c.callee_for.ensures (λ callee is. record {
      name = c.in-Call.routine;
      arguments = c.in-Call.arguments;
      is_call = sym tree ∙ c.in-Call.is;
      routine = c.in_ok-routine.routine.now;
      found = named;
      callee = subst (λ (n : ℕ). IsCallee callee c.in_ok-routine.routine.now n) c.len.ensures is;
      room = few;
    })
