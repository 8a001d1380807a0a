use Rattle.std.proofs.Common.{◌≡◌, List, length, Some, nat_lt, subst, false, true, arith}
use Rattle.std.proofs.lemmas.Bool.Decides.{nat_tests}
use Rattle.pl_calling.proofs.Entered.{each_ok, held_law, none_deeper, one_called}
use Rattle.pl_calling.proofs.bodies.call_function.Goals as goal
use Rattle.pl_calling.specs.Called.{CallsIt}
use Rattle.pl_base.specs.declared.value.Value.{Value}
use Rattle.pl_engine.specs.Engines.{world}
use Rattle.pl_engine.specs.pl_world.Calls.{most_calls}

pub returns-then-calls-lt-MOST_CALLS-clause-is : goal.returns-then-calls-lt-MOST_CALLS-clause-is
returns-then-calls-lt-MOST_CALLS-clause-is g c =
    let calls : CallsIt false (Some c.in-Some.found) c.args.name c.args.values (world c.args.engine.now) = subst (λ (vs : List Value). CallsIt false (Some c.in-Some.found) c.args.name vs (world c.args.engine.now)) c.as_slice.ensures (subst (λ f. CallsIt false f c.args.name c.as_slice.result.now (world c.args.engine.now)) c.in-Some.is c.in_ok-find.ensures) in
    let few : nat_lt (length (world c.args.engine.now).below) most_calls ≡ true = let is = c.calls.ensures in let lt = c.if-calls-lt-MOST_CALLS.true in grind (arith, nat_tests, is, lt) in
    each_ok c.run_found.result (λ o d. one_called held_law c.args.room false c.args.name c.args.values c.args.at c.args.engine.now tt c.in-Some.found calls few d) (c.run_found.ensures.is calls.0 calls.1)

pub returns-else-calls-lt-MOST_CALLS-clause-is : goal.returns-else-calls-lt-MOST_CALLS-clause-is
returns-else-calls-lt-MOST_CALLS-clause-is g c =
    let calls : CallsIt false (Some c.in-Some.found) c.args.name c.args.values (world c.args.engine.now) = subst (λ (vs : List Value). CallsIt false (Some c.in-Some.found) c.args.name vs (world c.args.engine.now)) c.as_slice.ensures (subst (λ f. CallsIt false f c.args.name c.as_slice.result.now (world c.args.engine.now)) c.in-Some.is c.in_ok-find.ensures) in
    let deep : nat_lt (length (world c.args.engine.now).below) most_calls ≡ false = let is = c.calls.ensures in let ge = c.if-calls-lt-MOST_CALLS.false in grind (arith, nat_tests, is, ge) in
    none_deeper held_law c.args.room false c.args.name c.args.values c.args.at c.args.engine.now tt c.in-Some.found calls deep c.raise-else-calls-lt-MOST_CALLS.ensures
